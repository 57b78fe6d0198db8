use Prim.Native.Nat.{◌≤◌, ◌<◌, ◌+◌, ◌-◌}
use mathlib.Core.Path.{◌≡◌}
use lib.ListN.{length, drop}
use Rattle.lists.specs.Blocks.{bytes}
use Rattle.notifications.specs.Wait.{starts}
use Rattle.words_notification.specs.Search.{own, joined}
use Rattle.words_notification.proofs.goes_on.Given as goal

abbrev pub invariant-loop-j : goal.invariant-loop-j
invariant-loop-j l = (l.j ≤ l.m)
    × (starts (drop 1 (bytes l.store l.at l.m)) (drop l.from (joined l.wanted l.tables l.store l.count l.first)) ≡ starts (drop l.j (bytes l.store l.at l.m)) (drop l.o (joined l.wanted l.tables l.store l.count l.i)))
    × (l.o ≤ own l.wanted l.tables l.i)
    × (l.m ≤ length (drop l.o (joined l.wanted l.tables l.store l.count l.i)) + l.j)
    × (l.j < l.m → l.i < l.count)

abbrev pub decreases-loop-j : goal.decreases-loop-j
decreases-loop-j l = l.count - l.i
