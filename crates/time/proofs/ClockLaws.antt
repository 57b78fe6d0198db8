-- What callers below the latest clock go by: there no moment meets the largest clock.
use Prim.Native.Nat.{◌+◌, ◌*◌, ◌≤◌, ◌<◌, ◌^◌}
use mathlib.Core.Path.{◌≡◌, refl}
use native.Mathlib.Omega.{arith}
use mathlib.Core.Bool.{true, false}
use borrow.Author.Tests.{ltb-true, ltb-false}
use native.Mathlib.Nat.{min-eq_left, min-eq_right}
use Rattle.time.specs.declared.Millis.{Millis}
use Rattle.time.specs.declared.Micros.{Micros}
use Rattle.time.specs.Clock.{largest, latest, att_timeout, later, span, deadline, att_deadline, too_late}

-- the numbers are the powers of two that 01 names
pub latest-is : latest ≡ 2 ^ 62
latest-is = refl

-- a sum that a clock can hold is the moment; any other is the largest clock
pub later-fits : (now by : Micros) → now.0 + by.0 ≤ largest → later now by ≡ record { 0 = now.0 + by.0 }
unfolding later
later-fits now by h = rw (min-eq_left h)

pub later-beyond : (now by : Micros) → largest ≤ now.0 + by.0 → later now by ≡ record { 0 = largest }
unfolding later
later-beyond now by h = rw (min-eq_right h)

-- a clock that a call takes, and a span of at most as much again: exact, and at most 2 ^ 63
pub later-is : (now by : Micros) → now.0 ≤ latest → by.0 ≤ latest → later now by ≡ record { 0 = now.0 + by.0 }
later-is now by h k = later-fits now by (omega arith)

pub later-bound : (now by : Micros) → now.0 ≤ latest → by.0 ≤ latest → (later now by).0 ≤ 2 ^ 63
later-bound now by h k = rw (later-is now by h k) (omega arith)

pub att-deadline-bound : (now : Micros) → now.0 ≤ latest → (att_deadline now).0 ≤ 2 ^ 63
att-deadline-bound now h = later-bound now att_timeout h (omega arith)

-- a step's deadline from a clock that a call takes
module _ (now : Micros) (wait : Millis) (h : now.0 ≤ latest) (w : wait.0 < 2 ^ 32) where
  pub deadline-is : deadline now wait ≡ record { 0 = now.0 + wait.0 * 1000 }
  deadline-is = later-is now (span wait) h (omega arith)

  pub deadline-bound : (deadline now wait).0 ≤ 2 ^ 63
  deadline-bound = later-bound now (span wait) h (omega arith)

-- the test of a clock, both ways
pub in-time : (now : Micros) → too_late now ≡ false → now.0 ≤ latest
in-time now e = ltb-false latest now.0 e

pub is-late : (now : Micros) → too_late now ≡ true → latest < now.0
is-late now e = ltb-true latest now.0 e
