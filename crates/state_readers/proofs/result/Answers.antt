use Rattle.std.proofs.Common.{arith, length}
use Rattle.std.proofs.lemmas.Result.{err_from_is_err_and}
use Rattle.words.specs.Tables.{results_in}
use Rattle.words.proofs.RowLaws.{length-results}
use Rattle.state_core.specs.Reading.{central}
use Rattle.state_readers.proofs.ReaderLaws.{result-refused, few-results, found-below, result-found, result-none}
use Rattle.state_readers.proofs.result.Goals as goal

pub returns-in_err-gate_reader : goal.returns-in_err-gate_reader
returns-in_err-gate_reader c =
    let a = c.args in
    let p = err_from_is_err_and c.from_residual.result c.from_residual.ensures.1 in
    rw (p.1, p.2) (result-refused (central a.core a.tables.now) (length a.store.now) a.index _ c.in_err-gate_reader.ensures)

pub find-requires : goal.find-requires
find-requires c =
    let a = c.args in
    few-results (central a.core a.tables.now) (length a.store.now) c.in_ok-gate_reader.ensures

pub result_at-requires : goal.result_at-requires
result_at-requires c =
    let a = c.args in
    let few = few-results (central a.core a.tables.now) (length a.store.now) c.in_ok-gate_reader.ensures in
    let many = length-results a.tables.now in
    omega (arith, few, found-below a.index a.core.counts.results (results_in a.tables.now) _ (omega (arith, few, many)) c.in-Some.ensures)

pub returns-in-Some : goal.returns-in-Some
returns-in-Some c =
    let a = c.args in
    rw (c.result_at.ensures, c.from.ensures)
    (result-found (central a.core a.tables.now) (length a.store.now) a.index c.in_ok-gate_reader.ensures _ c.in-Some.ensures)

pub returns-in-None : goal.returns-in-None
returns-in-None c =
    let a = c.args in
    result-none (central a.core a.tables.now) (length a.store.now) a.index c.in_ok-gate_reader.ensures c.in-None.ensures
