use Rattle.words_result.proofs.ResultLaws.{fit-law}
use Rattle.words_result.proofs.results_fit.Goals as goal

pub returns : goal.returns
returns c = fit-law c.args.tables.now _ c.args.count _ c.requires c.told-tables c.row.ensures c.all_at_most.ensures
