use mathlib.Core.Path.{◌≡◌}
use Rattle.bytes_base.specs.Splice.{splice}
use Rattle.bytes_copies.proofs.copy_known.Given as goal

abbrev pub invariant-loop-i : goal.invariant-loop-i
invariant-loop-i l = l.dst ≡ splice l.initial.dst l.at l.src l.from l.i
