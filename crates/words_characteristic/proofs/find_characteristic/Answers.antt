use mathlib.Core.Path.{refl, ◌∙◌}
use native.Mathlib.Omega.{arith}
use Rattle.uuid_value.specs.ValueLaws.{equal-numbers}
use Rattle.words_characteristic.proofs.LoopLaws.{find-pass, find-hit, find-end}
use Rattle.words_characteristic.proofs.find_characteristic.Goals as goal

pub loop-i-init : goal.loop-i-init
loop-i-init c = refl

pub returns-then-eq : goal.returns-then-eq
returns-then-eq c =
    let l = c.loop-i in
    find-hit _ _ l.i _ c.requires l.invariant
    c.loop-i-test.true _ (c.eq.ensures ∙ equal-numbers _ _ (omega arith) (omega arith)) c.if-eq.true _ c.characteristic_at-x.ensures

pub loop-i-preserved : goal.loop-i-preserved
loop-i-preserved c =
    let l = c.loop-i in
    find-pass _ _ l.i _ c.requires l.invariant c.loop-i-test.true _ (c.eq.ensures ∙ equal-numbers _ _ (omega arith) (omega arith)) c.if-eq.false

pub returns : goal.returns
returns c = let l = c.loop-i in find-end _ _ l.i _ c.requires l.invariant c.loop-i-test.false
