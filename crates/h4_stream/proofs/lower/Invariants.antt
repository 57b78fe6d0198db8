use mathlib.Core.Path.{◌≡◌}
use Rattle.bytes_base.specs.Splice.{splice}
use Rattle.h4_stream.proofs.lower.Given as goal

abbrev pub invariant-loop-i : goal.invariant-loop-i
invariant-loop-i l = l.held ≡ splice l.initial.held 0 l.initial.held l.from l.i
