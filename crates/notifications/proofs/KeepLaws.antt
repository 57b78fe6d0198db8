-- Laws for the two ways of keeping one more: there is room for it, or the oldest goes.
use Prim.Native.Nat.{ℕ, ◌+◌, ◌*◌, ◌≤◌, ◌<◌}
use mathlib.Core.Path.{◌≡◌, ap, ap₂, ◌∙◌}
use mathlib.Core.List.{List}
use native.Mathlib.Omega.{arith}
use lib.ListN.{length, set}
use Rattle.bytes_base.specs.Splice.{moved}
use Rattle.state_places.specs.Sizes.{value_size, notification_at, held_at}
use Rattle.lists.specs.Queue.{shifted}
use Rattle.lists.proofs.QueueLaws.{set_room, set_full, count_room, count-full}
use Rattle.lists.specs.Blocks.{lowered}
use Rattle.lists.proofs.BlockLaws.{copied-room, copied-full}
use Rattle.notifications.specs.Kept.{part, keeping, kept_value}
use Rattle.notifications.specs.declared.Notification.{Notification}
use Rattle.notifications.specs.declared.Notifications.{Notifications}

abbrev table : List Notification → ℕ → Notifications
table a k = record { kept = a; count = k }

pub keeping-room : (n : Notifications) (x : Notification) → length n.kept ≡ 32 → n.count < 32
    → record { kept = set n.kept n.count x; count = n.count + 1 } ≡ keeping n x
unfolding keeping
keeping-room n x e h = ap₂ table (set_room n.kept 32 n.count x e h) (count_room n.kept 32 n.count x e h)

pub keeping-full : (n : Notifications) (x : Notification) (b : List Notification) → length n.kept ≡ 32 → 32 ≤ n.count → b ≡ shifted n.kept 31
    → record { kept = set b 31 x; count = 32 } ≡ keeping n x
unfolding keeping
keeping-full n x b e h g =
    ap₂ table
    (ap (λ (a : List Notification). set a 31 x) g ∙ set_full n.kept 32 n.count x e (omega arith) h)
    (count-full n.kept 32 n.count x e h)

-- s is the store, r what a copy leaves
pub value_room : (s r : List ℕ) (count from len at : ℕ) → count < 32 → held_at ≤ from → at ≡ notification_at count → r ≡ moved s at from len
    → r ≡ kept_value s count from len
value_room s r count from len at h g e f =
    f ∙ ap (λ (k : ℕ). moved s k from len) e ∙ copied-room part count from len s h g

pub value-full : (s t r : List ℕ) (count from len second last : ℕ) → 32 ≤ count → held_at ≤ from → second ≡ notification_at 1 → last ≡ notification_at 31
    → t ≡ moved s (notification_at 0) second (value_size * 31) → r ≡ moved t last from len → r ≡ kept_value s count from len
unfolding lowered
value-full s t r count from len second last h g e e' f f' =
    f'
    ∙ ap₂ (λ (d : List ℕ) (k : ℕ). moved d k from len) (f ∙ ap (λ (k : ℕ). moved s (notification_at 0) k (value_size * 31)) e) e'
    ∙ copied-full part count from len s (omega arith) h g
