use mathlib.Core.Path.{◌≡◌, refl}
use native.Mathlib.Omega.{arith}
use lib.ListN.{length}
use Rattle.words_characteristic.proofs.LoopLaws.{write-on}
use Rattle.words_characteristic.proofs.put_characteristics.Goals as goal

pub loop-at-init : goal.loop-at-init
loop-at-init c =
    refl

pub loop-at-preserved : goal.loop-at-preserved
loop-at-preserved c =
    let l = c.loop-at in
    let g : length c.args.t.kept ≡ 64 = c.well_formed.1.0.1.1.0.1.0.1 in
    write-on _ l.tables _ _ l.at g (omega arith) l.invariant c.put_characteristic.ensures

pub returns : goal.returns
returns c =
    let l = c.loop-at in
    let e : l.at ≡ c.args.t.count = omega arith in
    rw e at l.invariant
