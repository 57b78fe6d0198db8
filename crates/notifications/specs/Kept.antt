-- The notifications that are kept (01, 'Sizes': 32, then the oldest goes), with their values in the store.
use Rattle.std.specs.Prelude.{ℕ, ◌-◌, Bool, List, length, take}
use Rattle.state_places.specs.Sizes.{most_notifications, value_size, notification_at}
use Rattle.lists.specs.Queue.{pushed, onto}
use Rattle.lists.specs.Blocks.{Part, Valued, valued, fitting, stored}
use Rattle.notifications.specs.declared.Notification.{Notification}
use Rattle.notifications.specs.declared.Notifications.{Notifications}

-- the notifications' part of the store
abbrev pub part : Part
part = record { base = notification_at 0; size = value_size; most = most_notifications }

-- those that are kept, the oldest first
abbrev pub live : Notifications → List Notification
live n = take n.count n.kept

-- notifications with their values, the first of them in the first block of the part
abbrev pub heard : List ℕ → List Notification → List (Valued Notification)
heard s l = valued (λ x. x.len) part s 0 l

-- whether the value of each fits its block (01, fit: lengths within the sizes)
abbrev pub values_fit : List Notification → Bool
values_fit l = fitting (λ x. x.len) value_size l

-- whether none was heard on a link of a higher number (02, One, fit)
abbrev pub links_fit : ℕ → List Notification → Bool
links_fit links l = fitting (λ x. x.link) links l

-- those kept once one more is heard; a place that is not live stays as it is
unfoldable pub keeping : Notifications → Notification → Notifications
keeping n x =
    record {
      kept = onto n.kept (pushed most_notifications (live n) x);
      count = length (pushed most_notifications (live n) x);
    }

-- the store then: its value is the n bytes from `from` on
abbrev pub kept_value : List ℕ → ℕ → ℕ → ℕ → List ℕ
kept_value s count from n = stored part count s from n s

-- how many of those kept, the last of all that were notified, came before number `from`
abbrev pub skipped_of : ℕ → ℕ → ℕ → ℕ
skipped_of notified kept from = from - (notified - kept)
