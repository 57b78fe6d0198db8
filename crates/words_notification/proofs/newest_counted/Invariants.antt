use Prim.Native.Nat.{◌+◌, ◌-◌}
use mathlib.Core.Path.{◌≡◌}
use lib.ListN.{drop}
use Rattle.notifications.specs.Kept.{live}
use Rattle.notifications.specs.Wait.{newest_counted}
use Rattle.words_notification.specs.Kept.{kept_in}
use Rattle.words_notification.proofs.newest_counted.Given as goal

abbrev pub invariant-loop-i : goal.invariant-loop-i
invariant-loop-i l = newest_counted l.wanted (l.first + l.skip) 0 (drop l.skip (live (kept_in l.tables l.count))) ≡ newest_counted l.wanted (l.first + l.i) l.newest (drop l.i (live (kept_in l.tables l.count)))
