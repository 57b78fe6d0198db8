-- Worked waits: 01's sample row of values joined, and its neighbours; what an age leaves out (02, One).
use Rattle.std.specs.Prelude.{ℕ, ◌≡◌, refl, Bool, true, false, ◌&&◌, not, List, [], ◌∷◌, Some, None, drop}
use Rattle.lists.specs.Blocks.{Valued}
use Rattle.time.specs.Clock.{later}
use Rattle.notifications.specs.Wait.{counts, any, seen, starts, contains, passes, newest_counted}
use Rattle.notifications.specs.declared.Notification.{Notification}
use Rattle.notifications.specs.declared.Wanted.{Wanted}
use Rattle.notifications.specs.declared.Age.TheVariants.{Any, Within}

-- ---- without an age

-- a notification on a handle
abbrev on : ℕ → List ℕ → Valued Notification
on h v = record { entry = record { at = record { 0 = 0 }; handle = h; len = 0; indication = false; link = 1 }; value = v }

-- `46 52`, and then `45 45` on the same handle, or on another
abbrev one : List (Valued Notification)
one = on 3 (0x46 ∷ 0x52 ∷ []) ∷ on 3 (0x45 ∷ 0x45 ∷ []) ∷ []

abbrev two : List (Valued Notification)
two = on 3 (0x46 ∷ 0x52 ∷ []) ∷ on 4 (0x45 ∷ 0x45 ∷ []) ∷ []

-- a wait for any notification of a handle: neither the link nor the time counts
abbrev of : ℕ → Wanted
of h = record { handle = h; age = Any; link = None; now = record { 0 = 0 } }

-- the rows; in the last two the wait searches from the second on
abbrev pub rows : List Bool
rows =
    passes (of 3) one (0x52 ∷ 0x45 ∷ [])
    ∷ not (passes (of 3) two (0x52 ∷ 0x45 ∷ []))
    ∷ not (passes (of 4) two (0x52 ∷ 0x45 ∷ []))
    ∷ passes (of 4) two (0x45 ∷ 0x45 ∷ [])
    ∷ not (passes (of 3) one (0x45 ∷ 0x52 ∷ []))
    ∷ passes (of 4) two []
    ∷ not (passes (of 5) two [])
    ∷ not (passes (of 5) two (0x46 ∷ []))
    ∷ passes (of 3) (drop 1 one) (0x45 ∷ [])
    ∷ not (passes (of 3) (drop 1 one) (0x52 ∷ 0x45 ∷ []))
    ∷ []

abbrev pub agree : List Bool → Bool
agree [] = true
agree (b ∷ l) = b && agree l

pub sample : agree rows ≡ true
unfolding counts any seen starts contains passes
sample = refl

-- ---- with an age of 2 ms, on link 5, at 10,000 us

abbrev aged : Wanted
aged = record { handle = 3; age = Within (record { 0 = 2 }); link = Some 5; now = record { 0 = 10000 } }

abbrev heard : ℕ → ℕ → Notification
heard link at = record { at = record { 0 = at }; handle = 3; len = 0; indication = false; link = link }

-- exactly the age before now, and now; a microsecond too old, after now, of an earlier link; no link is there
abbrev pub aged_rows : List Bool
aged_rows =
    counts aged (heard 5 8000)
    ∷ counts aged (heard 5 10000)
    ∷ not (counts aged (heard 5 7999))
    ∷ not (counts aged (heard 5 10001))
    ∷ not (counts aged (heard 4 9000))
    ∷ not (counts (record { handle = 3; age = Within (record { 0 = 2 }); link = None; now = record { 0 = 10000 } }) (heard 5 9000))
    ∷ []

pub aged-sample : agree aged_rows ≡ true
unfolding counts later
aged-sample = refl

-- of numbers 40 to 42, the last too old: the newest that counts is 41, told as 42
pub newest-sample : newest_counted aged 40 0 (heard 5 8000 ∷ heard 5 9000 ∷ heard 5 7999 ∷ []) ≡ 42
unfolding counts later newest_counted
newest-sample = refl
