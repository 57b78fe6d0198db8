use mathlib.Core.Path.{◌≡◌, refl, ◌∙◌}
use native.Mathlib.Omega.{arith}
use lib.ListN.{length-replicate, length-set}
use Rattle.gatt_characteristics.specs.Characteristic.{zero-characteristic}
use Rattle.words_characteristic.proofs.LoopLaws.{read-on}
use Rattle.words_characteristic.proofs.characteristics_of.Goals as goal

pub loop-i-init : goal.loop-i-init
loop-i-init c = (length-replicate 64 zero-characteristic, refl)

pub bounds-kept-i : goal.bounds-kept-i
bounds-kept-i c = let l = c.loop-i in omega (arith, l.invariant.0)

pub loop-i-preserved : goal.loop-i-preserved
loop-i-preserved c =
    let l = c.loop-i in
    (length-set l.kept l.i _ ∙ l.invariant.0, read-on _ l.kept l.i _ l.invariant.0 (omega arith) c.characteristic_at.ensures l.invariant.1)

pub returns : goal.returns
returns c =
    let l = c.loop-i in
    let e : l.i ≡ c.args.count = omega arith in
    (refl, rw e at l.invariant.1)
