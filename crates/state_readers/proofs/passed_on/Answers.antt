use Rattle.std.proofs.Common.{length}
use Rattle.std.proofs.lemmas.Result.{err_from_is_err_and}
use Rattle.state_core.specs.Reading.{central}
use Rattle.state_readers.proofs.ReaderLaws.{few-results}
use Rattle.state_readers.proofs.PassedLaws.{passed-refused, passed-told, few-notifications, all-notified}
use Rattle.state_readers.proofs.passed_on.Goals as goal

pub returns-in_err-gate_reader : goal.returns-in_err-gate_reader
returns-in_err-gate_reader c =
    let a = c.args in
    let p = err_from_is_err_and c.from_residual.result c.from_residual.ensures.1 in
    rw (p.1, p.2) (passed-refused (central a.core a.tables.now) (length a.store.now) a.index _ c.in_err-gate_reader.ensures)

pub heard_by-heard-requires : goal.heard_by-heard-requires
heard_by-heard-requires c =
    let a = c.args in
    few-results (central a.core a.tables.now) (length a.store.now) c.in_ok-gate_reader.ensures

pub overflow_sub-first : goal.overflow_sub-first
overflow_sub-first c =
    let a = c.args in
    all-notified (central a.core a.tables.now) (length a.store.now) c.in_ok-gate_reader.ensures

pub named-requires : goal.named-requires
named-requires c =
    let a = c.args in
    few-notifications (central a.core a.tables.now) (length a.store.now) c.in_ok-gate_reader.ensures

pub returns : goal.returns
returns c =
    let a = c.args in
    passed-told (central a.core a.tables.now) (length a.store.now) c.in_ok-gate_reader.ensures a.index _ _ c.heard_by-heard.ensures c.named.ensures
