use mathlib.Core.Path.{sym, ◌∙◌}
use Rattle.words.proofs.RowLaws.{characteristic-at}
use Rattle.words_characteristic.proofs.characteristic_at.Goals as goal

pub returns : goal.returns
returns c = c.unpacked.ensures ∙ sym (characteristic-at _ _ c.requires)
