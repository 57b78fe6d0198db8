use mathlib.Core.Path.{sym, ◌∙◌}
use Rattle.words.proofs.RowLaws.{result-at}
use Rattle.words_result.proofs.result_at.Goals as goal

pub returns : goal.returns
returns c = c.result_of.ensures ∙ sym (result-at _ _ c.requires)
