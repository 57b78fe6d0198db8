use Prim.Native.Nat.{◌≤◌}
use mathlib.Core.Path.{◌≡◌}
use lib.ListN.{length}
use Rattle.uuid_text.specs.Text.{plain}
use Rattle.uuid_text.proofs.Laws.{kept}
use Rattle.uuid_text.proofs.plain.Given as goal

abbrev pub invariant-loop-b : goal.invariant-loop-b
invariant-loop-b l = (l.len ≤ 32) × ((length l.hex ≡ 32) × (kept l.hex l.len l.text l.b-index ≡ plain l.text))
