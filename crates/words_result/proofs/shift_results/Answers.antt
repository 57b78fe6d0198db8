use Rattle.words_result.proofs.ResultLaws.{shift-law}
use Rattle.words_result.proofs.shift_results.Goals as goal

pub returns : goal.returns
returns c = shift-law _ _ _ _ c.lower.ensures c.lower-2.ensures c.lower-3.ensures
