use Rattle.words_report.proofs.ReportLaws.{due-law}
use Rattle.words_report.proofs.is_due.Goals as goal

pub returns-then-asks : goal.returns-then-asks
returns-then-asks c =
    due-law c.args.tables.now _ c.args.count c.args.key c.args.asks _ c.requires c.told-tables c.if-asks.true c.row.ensures
    c.contains.ensures.value
