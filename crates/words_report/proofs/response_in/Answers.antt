use Rattle.words_report.proofs.ReportLaws.{response-none, response-some}
use Rattle.words_report.proofs.response_in.Goals as goal

pub returns-then-word-eq1 : goal.returns-then-word-eq1
returns-then-word-eq1 c = response-none _ c.if-word-eq1.true

pub returns : goal.returns
returns c = response-some _ c.if-word-eq1.false
