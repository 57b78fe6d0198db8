use mathlib.Core.Path.{◌∙◌}
use Rattle.radio_calls.proofs.KeptLaws.{line-place, line-shifted}
use Rattle.radio_calls.proofs.put_line.Goals as goal

pub returns-then-i-lt-MAX_REPORTS : goal.returns-then-i-lt-MAX_REPORTS
returns-then-i-lt-MAX_REPORTS c = c.put_report.ensures ∙ line-place _ _ c.args.x c.if-i-lt-MAX_REPORTS.true

pub returns : goal.returns
returns c = line-shifted _ _ _ _ c.args.x c.if-i-lt-MAX_REPORTS.false c.shift_reports.ensures c.put_report-2.ensures
