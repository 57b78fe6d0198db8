-- What the walks go by is kept: with another state of the same results.
use Prim.Native.Nat.{ℕ, ◌≤◌}
use mathlib.Core.Path.{◌≡◌}
use mathlib.Core.List.{List}
use native.Mathlib.Omega.{arith}
use lib.ListN.{length, take, length-take}

-- the first of a list are no more than asked for
pub few : {A : Type 0} (n most : ℕ) (l : List A) → n ≤ most → length (take n l) ≤ most
few n most l h = rw (length-take n l) (omega arith)
