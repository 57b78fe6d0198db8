use mathlib.Core.Path.{refl, sym, ◌∙◌}
use mathlib.Core.List.{[]}
use borrow.Author.Rules.{rules}
use Rattle.script_rules.proofs.AdvanceLaws.{again, done}
use Rattle.script_run.proofs.advance.Goals as goal

pub loop-at-init : goal.loop-at-init
loop-at-init c = (c.requires.0, refl, refl)

pub step_once-u-requires : goal.step_once-u-requires
step_once-u-requires c = (c.loop-at.invariant.0, sym (c.can_go.ensures []) ∙ c.loop-at-test.true)

pub loop-at-smaller : goal.loop-at-smaller
loop-at-smaller c = (again c.args.at (c.requires.1) _ _ (c.loop-at.invariant.0) (sym (c.can_go.ensures []) ∙ c.loop-at-test.true) (c.step_once-u.ensures)).less

pub loop-at-preserved : goal.loop-at-preserved
loop-at-preserved c =
    let a = again c.args.at (c.requires.1) _ _ (c.loop-at.invariant.0) (sym (c.can_go.ensures []) ∙ c.loop-at-test.true) (c.step_once-u.ensures) in
    (a.sound, a.same ∙ c.loop-at.invariant.1, search rules)

pub shape_of-store : goal.shape_of-store
shape_of-store c = (c.loop-at.invariant.0.ready.store) ∙ sym (c.requires.0.ready.store)

pub shape_of-out : goal.shape_of-out
shape_of-out c = c.loop-at.invariant.2

pub returns : goal.returns
returns c = sym (done c.args.at (c.requires.1) _ (sym (c.can_go.ensures []) ∙ c.loop-at-test.false)) ∙ c.loop-at.invariant.1
