use mathlib.Core.Path.{◌≡◌}
use lib.ListN.{length, take}
use Rattle.words.specs.Tables.{characteristics_in}
use Rattle.words_characteristic.proofs.characteristics_of.Given as goal

abbrev pub invariant-loop-i : goal.invariant-loop-i
invariant-loop-i l = (length l.kept ≡ 64) × (take l.i l.kept ≡ take l.i (characteristics_in l.tables))
