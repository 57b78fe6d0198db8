use mathlib.Core.Path.{ap}
use native.Mathlib.Omega.{arith}
use Rattle.words_report.specs.declared.Report.{Report}
use Rattle.radio_calls.proofs.KeptLaws.{response-known, response-new}
use Rattle.radio_calls.proofs.kept_response.Goals as goal

pub returns-then-i-count : goal.returns-then-i-count
returns-then-i-count c =
    let was = c.report_at-was in
    (response-known _ c.args.count c.args.i _ c.if-i-count.true (ap (λ (x : Report). x.response) was.ensures.value), was.ensures.short.1)

pub returns : goal.returns
returns c = (response-new _ _ _ c.if-i-count.false, omega arith)
