use native.Mathlib.Omega.{arith}
use Rattle.words_characteristic.proofs.ScanLaws.{scan-before, scan-after, scan-take}
use Rattle.words_characteristic.proofs.scan_one.Goals as goal

pub returns-then-d-start : goal.returns-then-d-start
returns-then-d-start c = let a = c.args in scan-before a.start a.end a.from a.c a.s c.if-d-start.true

pub returns-then-end-d : goal.returns-then-end-d
returns-then-end-d c = let a = c.args in scan-after a.start a.end a.from a.c a.s c.if-d-start.false c.if-end-d.true

pub returns-then-d-eq0 : goal.returns-then-d-eq0
returns-then-d-eq0 c =
    let a = c.args in
    scan-take a.start a.end a.from a.c a.s _ _ c.if-d-start.false c.if-end-d.false c.range_or-best.ensures (omega arith)

pub returns : goal.returns
returns c =
    let a = c.args in
    scan-take a.start a.end a.from a.c a.s _ _ c.if-d-start.false c.if-end-d.false c.range_or-best.ensures (omega arith)
