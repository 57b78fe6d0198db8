use mathlib.Core.Path.{◌≡◌}
use lib.ListN.{take}
use Rattle.lists.specs.Queue.{onto}
use Rattle.words.specs.Tables as all
use Rattle.words_service.proofs.put_services.Given as goal

abbrev pub invariant-loop-at : goal.invariant-loop-at
invariant-loop-at l = all.tables l.tables ≡ all.with_services (all.tables l.initial.tables) (onto (all.services_in l.initial.tables) (take l.at l.t.kept))
