-- What tests tell.
use Prim.Native.Nat.{ℕ, ◌+◌, ◌-◌, ◌≤◌, ◌<◌}
use mathlib.Core.Path.{◌≡◌, refl, sym, ◌∙◌}
use mathlib.Core.Bool.{Bool, true, false, ◌&&◌, and-eq-true_iff}
use native.Mathlib.Omega.{arith}
use lib.Dec.{leb}
use borrow.Author.Tests.{le-leb, lt-leb, leb-true, leb-false}

pub fits-less : (len at n : ℕ) → n ≤ len → leb at (len - n) ≡ leb (at + n) len
fits-less len at n h = go (leb at (len - n)) refl
  where
    go : (x : Bool) → leb at (len - n) ≡ x → leb at (len - n) ≡ leb (at + n) len
    go true e = let z : at + n ≤ len = omega (arith, leb-true at (len - n) e) in e ∙ sym (le-leb (at + n) len z)
    go false e = let z : len < at + n = omega (arith, leb-false at (len - n) e) in e ∙ sym (lt-leb (at + n) len z)

pub fits_more : (len at n : ℕ) → len < n → false ≡ leb (at + n) len
fits_more len at n h = sym (lt-leb (at + n) len (omega arith))

pub fits-yes : (r : Bool) (len at n : ℕ) → r ≡ leb (at + n) len → r ≡ true → at + n ≤ len
fits-yes r len at n e h = leb-true (at + n) len (sym e ∙ h)

pub fits-no : (r : Bool) (len at n : ℕ) → r ≡ leb (at + n) len → r ≡ false → len < at + n
fits-no r len at n e h = leb-false (at + n) len (sym e ∙ h)

-- two tests in one
pub both : (a b : Bool) → a && b ≡ true → (a ≡ true) × (b ≡ true)
both a b e = (and-eq-true_iff a b).0 e
