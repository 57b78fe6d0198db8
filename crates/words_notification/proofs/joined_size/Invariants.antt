use Prim.Native.Nat.{ℕ, ◌≤◌, ◌+◌, ◌-◌, ◌*◌}
use mathlib.Core.Path.{◌≡◌}
use mathlib.Core.List.{List}
use lib.ListN.{length}
use Rattle.state_places.specs.Sizes.{value_size, held_at}
use Rattle.words_notification.specs.Search.{joined}
use Rattle.words_notification.proofs.joined_size.Given as goal

abbrev pub invariant-loop-i : goal.invariant-loop-i
invariant-loop-i l = ((s : List ℕ) → held_at ≤ length s → l.n + length (joined l.wanted l.tables s l.count l.i) ≡ length (joined l.wanted l.tables s l.count l.skip)) × (l.n ≤ value_size * l.i)
