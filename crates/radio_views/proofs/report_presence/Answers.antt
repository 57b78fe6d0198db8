use Rattle.std.proofs.Common.{length}
use Rattle.radio_views.proofs.ViewLaws.{report-data, report-answer}
use Rattle.radio_views.proofs.report_presence.Goals as goal

pub presence_in-requires : goal.presence_in-requires
presence_in-requires c =
    let a = c.args in (
      report-data a.core a.tables.now (length a.store.now) a.i _ (rw c.in-Some.is at c.in_ok-r.ensures),
      report-answer a.core a.tables.now (length a.store.now) a.i _ (rw c.in-Some.is at c.in_ok-r.ensures) _ c.span_of-answer.ensures,
    )
