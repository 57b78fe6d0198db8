-- Laws of what is kept, for the crates above: a push, its values, and what a wait leaves out.
use Prim.Native.Nat.{ℕ, ◌+◌, ◌-◌, ◌≤◌, ◌<◌}
use mathlib.Core.Path.{◌≡◌}
use mathlib.Core.List.{List}
use native.Mathlib.Omega.{arith}
use lib.ListN.{length}
use Rattle.state_places.specs.Sizes.{most_notifications}
use Rattle.lists.specs.Queue.{pushed}
use Rattle.lists.proofs.QueueLaws.{take-onto}
use Rattle.lists.proofs.BlockLaws.{length-stored}
use Rattle.notifications.specs.Kept.{part, live, keeping, kept_value, skipped_of}
use Rattle.notifications.specs.declared.Notification.{Notification}
use Rattle.notifications.specs.declared.Notifications.{Notifications}

-- ---- a push

pub live-keeping : (n : Notifications) (x : Notification) → live (keeping n x) ≡ pushed most_notifications (live n) x
unfolding keeping
live-keeping n x = take-onto n.kept (pushed most_notifications (live n) x)

-- ---- the rest of the store

pub length-kept : (s : List ℕ) (count from n : ℕ) → length (kept_value s count from n) ≡ length s
length-kept s count from n = length-stored part count s from n s

-- ---- what a wait leaves out

-- place i of those kept has number notified - kept + i: it is left out exactly where that is below `from`
pub left_out : (notified kept from i : ℕ) → i < skipped_of notified kept from → notified - kept + i < from
left_out notified kept from i h = omega arith

pub looked-at : (notified kept from i : ℕ) → skipped_of notified kept from ≤ i → from ≤ notified - kept + i
looked-at notified kept from i h = omega arith
