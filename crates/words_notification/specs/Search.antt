-- What the search reads, place after place: for the contracts of functions that only this crate has.
use Rattle.std.specs.Prelude.{ℕ, ◌+◌, ◌≤◌, ◌<◌, ◌≡◌, Bool, true, List, length, drop, get_or}
use Rattle.bytes_base.specs.Choice.{pick}
use Rattle.state_places.specs.Sizes.{most_notifications, held_at}
use Rattle.lists.specs.Blocks.{bytes}
use Rattle.notifications.specs.Kept.{live, heard, values_fit}
use Rattle.notifications.specs.Wait.{counts, seen, contains}
use Rattle.notifications.specs.declared.Wanted.{Wanted}
use Rattle.state.specs.Fresh.{no_notification}
use Rattle.words.specs.Tables.{notifications_in}
use Rattle.words_notification.specs.Kept.{kept_in}

-- how many bytes the notification in place i has for a wait: none where it does not count
abbrev pub own : Wanted → List ℕ → ℕ → ℕ
own h w i = let x = get_or (notifications_in w) i no_notification in pick (counts h x) x.len 0

-- the values of those that count, joined, from place i on
abbrev pub joined : Wanted → List ℕ → List ℕ → ℕ → ℕ → List ℕ
joined h w s c i = seen h (drop i (heard s (live (kept_in w c))))

-- whether the m bytes of the store from at on stand there, past the first k bytes
abbrev pub stands : Wanted → List ℕ → List ℕ → ℕ → ℕ → ℕ → ℕ → ℕ → Bool
stands h w s c i k at m = contains (bytes s at m) (drop k (joined h w s c i))

-- there is something to search for: m bytes of the store s from at on
abbrev pub Ready : List ℕ → ℕ → List ℕ → ℕ → ℕ → Type 0
Ready w c s at m = (c ≤ most_notifications) × (values_fit (live (kept_in w c)) ≡ true) × (held_at ≤ length s) × (at + m ≤ length s) × (0 < m)
