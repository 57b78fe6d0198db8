use mathlib.Core.Path.{refl, sym, ◌∙◌}
use mathlib.Core.List.{[]}
use Rattle.script_rules.proofs.AdvanceLaws.{again_alone, done-alone}
use Rattle.script_run.proofs.advance_unlinked.Goals as goal

pub loop-at-init : goal.loop-at-init
loop-at-init c = (c.requires.0, refl)

pub step_unlinked-d-requires : goal.step_unlinked-d-requires
step_unlinked-d-requires c = (c.loop-at.invariant.0, sym (c.can_go.ensures []) ∙ c.loop-at-test.true)

pub loop-at-smaller : goal.loop-at-smaller
loop-at-smaller c = (again_alone c.args.at (c.requires.1) _ _ (c.loop-at.invariant.0) (sym (c.can_go.ensures []) ∙ c.loop-at-test.true) (c.step_unlinked-d.ensures)).less

pub loop-at-preserved : goal.loop-at-preserved
loop-at-preserved c =
    let a = again_alone c.args.at (c.requires.1) _ _ (c.loop-at.invariant.0) (sym (c.can_go.ensures []) ∙ c.loop-at-test.true) (c.step_unlinked-d.ensures) in
    (a.whole, a.same ∙ c.loop-at.invariant.1)

pub shape_of-store : goal.shape_of-store
shape_of-store c = (c.loop-at.invariant.0.store) ∙ sym (c.requires.0.store)

pub returns : goal.returns
returns c = sym (done-alone c.args.at (c.requires.1) _ (sym (c.can_go.ensures []) ∙ c.loop-at-test.false)) ∙ c.loop-at.invariant.1
