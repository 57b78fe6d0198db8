use mathlib.Core.Path.{◌≡◌}
use lib.ListN.{take}
use Rattle.lists.specs.Queue.{onto}
use Rattle.words.specs.Tables.{characteristics_in, with_characteristics}
use Rattle.words.specs.Tables as all
use Rattle.words_characteristic.proofs.put_characteristics.Given as goal

abbrev pub invariant-loop-at : goal.invariant-loop-at
invariant-loop-at l =
    all.tables l.tables ≡ with_characteristics (all.tables l.initial.tables) (onto (characteristics_in l.initial.tables) (take l.at l.t.kept))
