use Rattle.std.proofs.Common.{arith}
use Rattle.words.specs.Tables.{results_in}
use Rattle.words.proofs.RowLaws.{length-results}
use Rattle.state_readers.proofs.ReaderLaws.{find-here, find-on, find-end}
use Rattle.state_readers.proofs.find.Goals as goal

pub returns-then-x-index : goal.returns-then-x-index
returns-then-x-index c =
    let l = c.loop-i in
    let a = c.args in
    find-here a.index (results_in a.tables.now) a.count l.i (omega (arith, length-results a.tables.now)) l.invariant
    _ c.result_at-x.ensures (omega arith) c.if-x-index.true

pub loop-i-preserved : goal.loop-i-preserved
loop-i-preserved c =
    let l = c.loop-i in
    let a = c.args in
    find-on a.index (results_in a.tables.now) a.count l.i (omega (arith, length-results a.tables.now)) l.invariant
    _ c.result_at-x.ensures (omega arith) c.if-x-index.false

pub returns : goal.returns
returns c =
    let l = c.loop-i in
    let a = c.args in
    find-end a.index (results_in a.tables.now) a.count l.i (omega (arith, length-results a.tables.now)) l.invariant (omega arith)
