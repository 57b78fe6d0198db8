use mathlib.Core.Path.{◌≡◌}
use lib.ListN.{length, take}
use Rattle.words.specs.Tables.{services_in}
use Rattle.words_service.proofs.services_of.Given as goal

abbrev pub invariant-loop-i : goal.invariant-loop-i
invariant-loop-i l = (length l.kept ≡ 32) × (take l.i l.kept ≡ take l.i (services_in l.tables))
