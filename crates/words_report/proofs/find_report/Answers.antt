use Rattle.words_report.proofs.ReportLaws.{find-law}
use Rattle.words_report.proofs.find_report.Goals as goal

pub returns : goal.returns
returns c =
    find-law c.args.tables.now _ c.args.count c.args.key _ _ c.requires c.told-tables c.row.ensures c.first_of.ensures
    c.unwrap_or.ensures
