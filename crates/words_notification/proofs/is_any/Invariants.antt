use Prim.Native.Nat.{ℕ, ◌-◌}
use mathlib.Core.Path.{◌≡◌}
use mathlib.Core.List.{List}
use lib.ListN.{drop}
use Rattle.notifications.specs.Kept.{live, heard}
use Rattle.notifications.specs.Wait.{any}
use Rattle.words_notification.specs.Kept.{kept_in}
use Rattle.words_notification.proofs.is_any.Given as goal

abbrev pub invariant-loop-i : goal.invariant-loop-i
invariant-loop-i l = (s : List ℕ) → any l.wanted (drop l.skip (heard s (live (kept_in l.tables l.count)))) ≡ any l.wanted (drop l.i (heard s (live (kept_in l.tables l.count))))
