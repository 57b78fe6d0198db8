use mathlib.Core.Path.{◌≡◌}
use lib.ListN.{length, take}
use Rattle.c_steps.specs.Steps.{places_in}
use Rattle.c_steps.proofs.batch_of.Given as goal

abbrev pub invariant-loop-i : goal.invariant-loop-i
invariant-loop-i l = (length l.all ≡ 64) × (take l.i l.all ≡ take l.i (places_in l.steps))
