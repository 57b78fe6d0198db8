use Prim.Native.Nat.{◌≤◌, ◌<◌, ◌-◌}
use mathlib.Core.Path.{◌≡◌}
use lib.ListN.{length}
use Rattle.words_notification.specs.Search.{joined, stands}
use Rattle.words_notification.proofs.is_found.Given as goal

abbrev pub invariant-loop-rest : goal.invariant-loop-rest
invariant-loop-rest l = (stands l.wanted l.tables l.store l.count l.skip 0 l.at l.m ≡ stands l.wanted l.tables l.store l.count l.i 0 l.at l.m)
    × (l.rest ≡ length (joined l.wanted l.tables l.store l.count l.i))
    × (l.m ≤ l.rest → l.i < l.count)

abbrev pub decreases-loop-rest : goal.decreases-loop-rest
decreases-loop-rest l = l.count - l.i
