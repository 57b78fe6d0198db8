use Prim.Native.Nat.{◌≤◌, ◌-◌}
use mathlib.Core.Path.{◌≡◌}
use Rattle.words_notification.specs.Search.{stands}
use Rattle.words_notification.proofs.begins_in.Given as goal

abbrev pub invariant-loop-k : goal.invariant-loop-k
invariant-loop-k l = stands l.wanted l.tables l.store l.count l.i 0 l.at l.m ≡ stands l.wanted l.tables l.store l.count l.i l.k l.at l.m
