use mathlib.Core.Path.{◌≡◌}
use lib.ListN.{drop}
use Rattle.lists.specs.Blocks.{bytes}
use Rattle.notifications.specs.Wait.{starts}
use Rattle.words_notification.proofs.are_equal.Given as goal

abbrev pub invariant-loop-j : goal.invariant-loop-j
invariant-loop-j l = starts (bytes l.store l.q l.n) (bytes l.store l.p l.n) ≡ starts (drop l.j (bytes l.store l.q l.n)) (drop l.j (bytes l.store l.p l.n))
