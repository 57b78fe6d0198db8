use Rattle.std.proofs.Common.{length}
use Rattle.std.proofs.lemmas.Result.{err_from_is_err_and}
use Rattle.radio_views.proofs.ViewLaws.{report-refused, report-nothing, report-place, report-seen}
use Rattle.radio_views.proofs.report.Goals as goal

pub returns-in_err-gate_reader : goal.returns-in_err-gate_reader
returns-in_err-gate_reader c =
    let a = c.args in
    let p = err_from_is_err_and c.from_residual.result c.from_residual.ensures.1 in
    rw (p.1, p.2) (report-refused a.core a.tables.now (length a.store.now) a.i _ c.in_err-gate_reader.ensures)

pub returns-then-core-i : goal.returns-then-core-i
returns-then-core-i c =
    let a = c.args in
    report-nothing a.core a.tables.now (length a.store.now) a.i c.in_ok-gate_reader.ensures c.if-core-i.true

pub report_at-x-requires : goal.report_at-x-requires
report_at-x-requires c =
    let a = c.args in
    report-place a.core a.tables.now (length a.store.now) a.i c.in_ok-gate_reader.ensures c.if-core-i.false

pub report_at-place-requires : goal.report_at-place-requires
report_at-place-requires c =
    let a = c.args in
    report-place a.core a.tables.now (length a.store.now) a.i c.in_ok-gate_reader.ensures c.if-core-i.false

pub response_in-response-requires : goal.response_in-response-requires
response_in-response-requires c =
    let a = c.args in
    report-place a.core a.tables.now (length a.store.now) a.i c.in_ok-gate_reader.ensures c.if-core-i.false

pub returns : goal.returns
returns c =
    let a = c.args in
    let x = c.report_at-x in
    report-seen a.core a.tables.now (length a.store.now) a.i c.in_ok-gate_reader.ensures x.result _ _ _ _ c.if-core-i.false
    x.ensures.value c.address_of-address.ensures c.report_at-place.ensures c.from-len.ensures c.response_in-response.ensures
