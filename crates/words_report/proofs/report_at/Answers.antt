use native.Mathlib.Omega.{arith}
use Rattle.words_report.proofs.ReportLaws.{report-say}
use Rattle.words_report.proofs.report_at.Goals as goal

pub returns : goal.returns
returns c =
    let args-tables-now = c.args.tables.now in
    let args-i = c.args.i in
    let pre = c.requires in
    let response-in-ensures-0 = c.response_in-response.ensures.0 in
    let response-in-ensures-1 = c.response_in-response.ensures.1 in
    record { value = report-say args-tables-now args-i pre _ response-in-ensures-0; short = (omega arith, response-in-ensures-1) }
