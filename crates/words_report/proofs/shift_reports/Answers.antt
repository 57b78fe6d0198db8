use Rattle.words_report.proofs.ReportLaws.{down-law}
use Rattle.words_report.proofs.shift_reports.Goals as goal

pub returns : goal.returns
returns c = down-law _ _ _ _ c.lower.ensures c.lower-2.ensures c.lower-3.ensures
