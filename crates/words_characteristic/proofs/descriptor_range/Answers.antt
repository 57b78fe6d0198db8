use Prim.Native.Nat.{◌+◌, ◌-◌}
use mathlib.Core.Path.{◌≡◌}
use native.Mathlib.Omega.{arith}
use Rattle.words.specs.Tables.{characteristics_in}
use Rattle.words.proofs.RowLaws.{length-characteristics}
use Rattle.words_characteristic.proofs.ScanLaws.{scan-start, scan_step}
use Rattle.words_characteristic.proofs.descriptor_range.Goals as goal

pub loop-i-init : goal.loop-i-init
loop-i-init c =
    let a = c.args in
    let w = a.tables.now in
    scan-start a.start a.end a.from (characteristics_in w) a.count (omega (arith, length-characteristics w))

pub loop-i-preserved : goal.loop-i-preserved
loop-i-preserved c =
    let l = c.loop-i in
    let a = c.args in
    let w = a.tables.now in
    let e : l.i ≡ l.i - 1 + 1 = omega arith in
    scan_step a.start a.end a.from (characteristics_in w) a.count (omega (arith, length-characteristics w)) (l.i - 1) (omega arith)
    l.s (rw e at l.invariant) _ c.characteristic_at-c.ensures _ c.scan_one-s.ensures

pub returns : goal.returns
returns c =
    let l = c.loop-i in
    let e : l.i ≡ 0 = omega arith in
    (rw e at l.invariant).best
