use mathlib.Core.Path.{refl, sym, ◌∙◌}
use Rattle.words_characteristic.proofs.LoopLaws.{rise-on, rise-end}
use Rattle.words_characteristic.proofs.is_rising.Goals as goal

pub loop-i-init : goal.loop-i-init
loop-i-init c = refl

pub loop-i-preserved : goal.loop-i-preserved
loop-i-preserved c =
    let l = c.loop-i in
    sym (rise-on _ _ l.i l.least _ l.ok c.requires c.loop-i-test.true c.declaration_of-d.ensures) ∙ l.invariant

pub returns : goal.returns
returns c = let l = c.loop-i in sym (rise-end _ _ l.i l.least l.ok c.requires c.loop-i-test.false) ∙ l.invariant
