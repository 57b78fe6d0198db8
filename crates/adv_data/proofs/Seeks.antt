-- What a search from a place on tells.
use Prim.Native.Nat.{ℕ, ◌+◌, ◌-◌, ◌%◌, ◌≤◌, ◌<◌}
use mathlib.Core.Path.{◌≡◌, refl, sym, ap, ◌∙◌}
use mathlib.Core.Bool.{Bool, true, false, ◌&&◌, ◌||◌, and-false}
use mathlib.Core.List.{List}
use native.Mathlib.Omega.{arith}
use lib.ListN.{length, take, drop, get_or}
use lib.Dec.{eqb, ltb}
use borrow.Author.Tests.{lt-ltb, le-ltb, ne_eqb}
use Rattle.std.specs.Prelude.{Option, Some, None}
use Rattle.bytes_base.specs.Choice.{pick, among}
use Rattle.adv_data.specs.Ad.{Ad, width_of, uuid_of, uuids, listing}
use Rattle.adv_data.specs.Answers.{incomplete, any_incomplete, overran, stop_of, answer}
use Rattle.adv_data.specs.declared.Sought.{Sought}
use Rattle.adv_data.specs.declared.Sought.TheVariants.{Listed, Absent, Unknown}
use Rattle.adv_data.proofs.Lists.{part, among-here, among_later, among-stop, no-list, even-incomplete}
use Rattle.adv_data.proofs.Structures.{read_at, read-zero, read_past, read_here, body-length}
use Rattle.adv_data.proofs.Stops.{left_at, left_here, ends, stops-at-zero, stops-on-overrun}

-- whether there may be more services than were read from at on
abbrev more_at : ℕ → List ℕ → Bool
more_at at s = any_incomplete (read_at at s) || overran (stop_of (left_at at s))

-- what a search from at tells
abbrev pub from : ℕ → ℕ → List ℕ → Sought
from u at s = answer (listing u (read_at at s)) (more_at at s)

-- what is known of all, by what is known of the front and what the rest tells
abbrev pub onto : Sought → Sought → Sought
onto known Absent = known
onto known Unknown = Unknown
onto known (Listed x) = Listed x

-- nothing was read yet
pub from_nothing : (x : Sought) → onto Absent x ≡ x
from_nothing Absent = refl
from_nothing Unknown = refl
from_nothing (Listed y) = refl

-- of one structure more: t is whether it lists u, i whether it is an incomplete list
one_more : (t i m o : Bool) (a : Ad) (f : Option Ad)
    → answer (pick t (Some a) f) ((i || m) || o) ≡ pick t (Listed (record { at = a.start; len = length a.body })) (onto (pick i Unknown Absent) (answer f (m || o)))
one_more true i m o a f = refl
one_more false i m o a (Some b) = refl
one_more false true true o a None = refl
one_more false true false true a None = refl
one_more false true false false a None = refl
one_more false false true o a None = refl
one_more false false false true a None = refl
one_more false false false false a None = refl

-- of a list that does not have u, i being whether it is incomplete
behind : (i : Bool) (known x : Sought) → onto known (onto (pick i Unknown Absent) x) ≡ onto (pick i Unknown known) x
behind true known Absent = refl
behind true known Unknown = refl
behind true known (Listed y) = refl
behind false known Absent = refl
behind false known Unknown = refl
behind false known (Listed y) = refl

-- by whether a kind that lists is even
pub passed-even : (k : ℕ) (known : Sought) → 0 < width_of k → k % 2 ≡ 0 → Unknown ≡ pick (incomplete k) Unknown known
passed-even k known h e = rw (← even-incomplete k h, e)

pub passed-odd : (k : ℕ) (known : Sought) → 0 < width_of k → (k % 2 ≡ 0 → ⊥) → known ≡ pick (incomplete k) Unknown known
passed-odd k known h n = rw (← even-incomplete k h, ne_eqb (k % 2) 0 n)

module _ (u at : ℕ) (s : List ℕ) where
  pub stop-end : length s ≤ at → from u at s ≡ Absent
  unfolding listing any_incomplete
  stop-end h = rw (ends at s h, read_past at s (omega arith))

  pub stop-zero : get_or s at 0 ≡ 0 → from u at s ≡ Absent
  unfolding listing any_incomplete
  stop-zero h = rw (stops-at-zero at s h, read-zero at s h)

  pub stop-past : at < length s → (get_or s at 0 ≡ 0 → ⊥) → length s - at ≤ get_or s at 0 → from u at s ≡ Unknown
  unfolding listing any_incomplete
  stop-past i n h = rw (stops-on-overrun at s i n h, read_past at s h)

-- whether the UUIDs of w bytes from i up to e have u among them
abbrev pub rest : ℕ → List ℕ → ℕ → ℕ → ℕ → Bool
rest u s w i e = among u (uuids w (part s i e))

-- a structure of length n stands at at, and w is the width of its kind
module _ (u at : ℕ) (s : List ℕ) (n : ℕ) (is : n ≡ get_or s at 0) (not-zero : n ≡ 0 → ⊥) (fits : n < length s - at) (w : ℕ) (is-w : w ≡ width_of (get_or s (at + 1) 0)) where
  abbrev next : ℕ
  next = at + 1 + n

  abbrev kind : ℕ
  kind = get_or s (at + 1) 0

  here : from u at s ≡ pick (ltb 0 w && rest u s w (at + 2) next) (Listed (record { at = at + 2; len = n - 1 })) (onto (pick (incomplete kind) Unknown Absent) (from u next s))
  unfolding listing any_incomplete
  here =
      let some : 0 < n = omega arith in
      rw (is-w, left_here at s n is some fits, read_here at s n is some fits, one_more, body-length at s n is some fits)

  -- of what is known before it
  module _ (known : Sought) where
    -- it lists nothing
    pub list-none : w ≤ 0 → (next ≤ length s) × (onto known (from u at s) ≡ onto known (from u next s))
    list-none h =
        let none : incomplete kind ≡ false = no-list kind (rw (← is-w) h) in
        let e : from u at s ≡ onto (pick (incomplete kind) Unknown Absent) (from u next s) = here ∙ rw (le-ltb 0 w h) in
        (omega arith, ap (onto known) e ∙ behind (incomplete kind) known (from u next s) ∙ rw none)

    -- its list has come to an end without u
    pub list_done : (i : ℕ) → next - i < w → rest u s w i next ≡ rest u s w (at + 2) next → (r : Sought) → r ≡ pick (incomplete kind) Unknown known
        → (next ≤ length s) × (onto known (from u at s) ≡ onto r (from u next s))
    list_done i h e r is-r =
        let z : rest u s w (at + 2) next ≡ false = sym e ∙ among-stop s i next (omega arith) u w h in
        let e : from u at s ≡ onto (pick (incomplete kind) Unknown Absent) (from u next s) = here ∙ rw (z, and-false (ltb 0 w)) in
        (omega arith, ap (onto known) e ∙ behind (incomplete kind) known (from u next s) ∙ rw is-r)

  -- r is whether the UUID at i is u
  module _ (i : ℕ) (r : Bool) (some : 0 < w) (low : i ≤ next) (room : w ≤ next - i) (is-r : r ≡ eqb (uuid_of w (take w (drop i s))) u) where
    pub list-later : r ≡ false → (i + w ≤ next) × (rest u s w i next ≡ rest u s w (i + w) next)
    list-later h = (omega arith, among_later s i next (omega arith) u w r some (omega arith) is-r h)

    pub list-here : r ≡ true → rest u s w i next ≡ rest u s w (at + 2) next → from u at s ≡ Listed (record { at = at + 2; len = n - 1 })
    list-here h e =
        let z : rest u s w (at + 2) next ≡ true = sym e ∙ among-here s i next (omega arith) u w r some (omega arith) is-r h in
        here ∙ rw (lt-ltb 0 w some, z)
