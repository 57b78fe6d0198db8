-- What a wait looks for: a run of bytes in the joined values of the notifications that count (01, 'Rules of the link'; 02, One).
use Rattle.std.specs.Prelude.{ℕ, ◌+◌, Bool, true, false, ◌&&◌, ◌||◌, List, [], ◌∷◌, ◌++◌, Option, Some, None, eqb, leb}
use Rattle.bytes_base.specs.Choice.{pick}
use Rattle.lists.specs.Blocks.{Valued}
use Rattle.time.specs.declared.Millis.{Millis}
use Rattle.time.specs.Clock.{deadline}
use Rattle.notifications.specs.declared.Notification.{Notification}
use Rattle.notifications.specs.declared.Wanted.{Wanted}
use Rattle.notifications.specs.declared.Age.{Age}
use Rattle.notifications.specs.declared.Age.TheVariants.{Any, Within}

-- whether a link's number is that of the link, if there is one
abbrev pub is_of : Option ℕ → ℕ → Bool
is_of None link = false
is_of (Some present) link = eqb link present

-- an aged wait's: of the present link, its time not after now and at most the age before now
abbrev pub recent : Wanted → Millis → Notification → Bool
recent w age x = is_of w.link x.link && leb x.at.0 w.now.0 && leb w.now.0 (deadline x.at age).0

abbrev pub in_age : Wanted → Age → Notification → Bool
in_age w Any x = true
in_age w (Within age) x = recent w age x

-- whether a notification counts for a wait
unfoldable pub counts : Wanted → Notification → Bool
counts w x = eqb x.handle w.handle && in_age w w.age x

-- whether one counts
unfoldable pub any : Wanted → List (Valued Notification) → Bool
any w [] = false
any w (x ∷ l) = counts w x.entry || any w l

-- the values of those that count, joined
unfoldable pub seen : Wanted → List (Valued Notification) → List ℕ
seen w [] = []
seen w (x ∷ l) = pick (counts w x.entry) x.value [] ++ seen w l

-- whether ys starts with xs
unfoldable pub starts : List ℕ → List ℕ → Bool
starts [] ys = true
starts (x ∷ xs) [] = false
starts (x ∷ xs) (y ∷ ys) = eqb x y && starts xs ys

-- whether xs stands in ys
unfoldable pub contains : List ℕ → List ℕ → Bool
contains xs [] = starts xs []
contains xs (y ∷ ys) = starts xs (y ∷ ys) || contains xs ys

-- whether a wait passes: with an empty `contains` on any notification that counts, otherwise where the joined values contain it
unfoldable pub passes : Wanted → List (Valued Notification) → List ℕ → Bool
passes w l [] = any w l
passes w l (x ∷ xs) = contains (x ∷ xs) (seen w l)

-- one past the number of the newest that counts, where the first of the list has number n; `none` where none counts
unfoldable pub newest_counted : Wanted → ℕ → ℕ → List Notification → ℕ
newest_counted w n none [] = none
newest_counted w n none (x ∷ l) = newest_counted w (n + 1) (pick (counts w x) (n + 1) none) l
