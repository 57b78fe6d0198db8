use Prim.Native.Nat.{◌*◌}
use Rattle.uuid_text.proofs.Laws.{Halfway}
use Rattle.uuid_text.proofs.long.Given as goal

abbrev pub invariant-loop-i : goal.invariant-loop-i
invariant-loop-i l = Halfway l.hex l.low l.high (2 * l.i)
