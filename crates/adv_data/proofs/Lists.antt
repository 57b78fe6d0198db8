-- How the UUIDs of a list go on, one at a time, and how one is read.
use Prim.Native.Nat.{ℕ, ◌+◌, ◌-◌, ◌/◌, ◌%◌, ◌≤◌, ◌<◌}
use mathlib.Core.Path.{◌≡◌, refl, ◌∙◌}
use mathlib.Core.Bool.{Bool, true, false, ◌||◌}
use mathlib.Core.List.{List, []}
use mathlib.Core.Logic.{inl, inr}
use native.Mathlib.Omega.{arith}
use native.Mathlib.Nat.{div-eq_of_lt}
use lib.ListN.{length, take, drop, length-drop}
use lib.Seq.{length-take-le}
use lib.Dec.{eqb, leb}
use borrow.Author.Tests.{eqb-true, eqb-false, ne_eqb, leb-true}
use Rattle.bytes_base.specs.Choice.{pick, within, among}
use Rattle.bytes_base.specs.Bytes.{le_at}
use Rattle.bytes_base.proofs.ByteLaws.{le_at-in}
use Rattle.bytes_base.proofs.TestLaws.{both}
use Rattle.uuid_value.specs.Value.{num, of_num, short_of}
use Rattle.uuid_value.specs.declared.Uuid.{Uuid}
use Rattle.uuid_value.specs.ValueLaws.{num_of}
use Rattle.lists.specs.Cut.{chunks, entries}
use Rattle.lists.proofs.CutLaws.{entry_here}
use Rattle.adv_data.specs.Ad.{width_of, IsWidth, uuid_of, uuids}
use Rattle.adv_data.specs.Answers.{incomplete}

-- the bytes from index i up to index e
abbrev pub part : List ℕ → ℕ → ℕ → List ℕ
part s i e = take (e - i) (drop i s)

entries-stop : (w : ℕ) (s : List ℕ) → length s < w → entries w s ≡ []
unfolding entries chunks
entries-stop w s h =
    let d : length s / w ≡ 0 = div-eq_of_lt h in
    rw d

module _ (s : List ℕ) (i e : ℕ) (inside : e ≤ length s) where
  pub part_length : length (part s i e) ≡ e - i
  part_length = length-take-le (e - i) (drop i s) (rw length-drop (omega arith))

  -- one UUID more
  among-step : (u w : ℕ) → 0 < w → i + w ≤ e
      → among u (uuids w (part s i e)) ≡ (eqb (uuid_of w (take w (drop i s))) u || among u (uuids w (part s (i + w) e)))
  unfolding among
  among-step u w p h =
      let f : i + w - i ≡ w = omega arith in
      rw (entry_here w i e s p h inside, f)

  -- r is the answer of the test
  pub among-here : (u w : ℕ) (r : Bool) → 0 < w → i + w ≤ e → r ≡ eqb (uuid_of w (take w (drop i s))) u → r ≡ true → among u (uuids w (part s i e)) ≡ true
  among-here u w r p h k t = among-step u w p h ∙ rw (← k, t)

  pub among_later : (u w : ℕ) (r : Bool) → 0 < w → i + w ≤ e → r ≡ eqb (uuid_of w (take w (drop i s))) u → r ≡ false
      → among u (uuids w (part s i e)) ≡ among u (uuids w (part s (i + w) e))
  among_later u w r p h k t = among-step u w p h ∙ rw (← k, t)

  -- a remainder is no UUID
  pub among-stop : (u w : ℕ) → e - i < w → among u (uuids w (part s i e)) ≡ false
  unfolding among
  among-stop u w h = rw (entries-stop w (part s i e) (rw part_length h))

-- ---- widths

width-by : (a b c : Bool) → 0 < pick a 2 (pick b 4 (pick c 16 0)) → IsWidth (pick a 2 (pick b 4 (pick c 16 0)))
width-by true b c h = inl refl
width-by false true c h = inr (inl refl)
width-by false false true h = inr (inr refl)
width-by false false false h = absurd (omega arith)

pub is-width : (k : ℕ) → 0 < width_of k → IsWidth (width_of k)
unfolding width_of
is-width k h = width-by (within 0x02 0x03 k) (within 0x04 0x05 k) (within 0x06 0x07 k) h

open_by : (k : ℕ) (a b c : Bool) → eqb k 2 ≡ a → eqb k 4 ≡ b → eqb k 6 ≡ c → width_of k ≤ 0 → (a || (b || c)) ≡ false
unfolding width_of
open_by k true b c e f g h = let z : k ≡ 2 = eqb-true k 2 e in absurd (omega (arith, rw z at h))
open_by k false true c e f g h = let z : k ≡ 4 = eqb-true k 4 f in absurd (omega (arith, rw z at h))
open_by k false false true e f g h = let z : k ≡ 6 = eqb-true k 6 g in absurd (omega (arith, rw z at h))
open_by k false false false e f g h = refl

-- what lists nothing is no incomplete list
pub no-list : (k : ℕ) → width_of k ≤ 0 → incomplete k ≡ false
no-list k h = open_by k (eqb k 2) (eqb k 4) (eqb k 6) refl refl refl h

-- a kind that lists is 2 to 7
listing-by : (k : ℕ) (a b c : Bool) → within 0x02 0x03 k ≡ a → within 0x04 0x05 k ≡ b → within 0x06 0x07 k ≡ c → 0 < pick a 2 (pick b 4 (pick c 16 0)) → (2 ≤ k) × (k ≤ 7)
listing-by k true b c e f g h = let t = both (leb 2 k) (leb k 3) e in (omega (arith, leb-true 2 k t.0), omega (arith, leb-true k 3 t.1))
listing-by k false true c e f g h = let t = both (leb 4 k) (leb k 5) f in (omega (arith, leb-true 4 k t.0), omega (arith, leb-true k 5 t.1))
listing-by k false false true e f g h = let t = both (leb 6 k) (leb k 7) g in (omega (arith, leb-true 6 k t.0), omega (arith, leb-true k 7 t.1))
listing-by k false false false e f g h = absurd (omega arith)

even-by : (k : ℕ) (a b c : Bool) → eqb k 2 ≡ a → eqb k 4 ≡ b → eqb k 6 ≡ c → 2 ≤ k → k ≤ 7 → eqb (k % 2) 0 ≡ (a || (b || c))
even-by k true b c e f g low high = let z : k ≡ 2 = eqb-true k 2 e in rw z
even-by k false true c e f g low high = let z : k ≡ 4 = eqb-true k 4 f in rw z
even-by k false false true e f g low high = let z : k ≡ 6 = eqb-true k 6 g in rw z
even-by k false false false e f g low high =
    let x = eqb-false k 2 e in
    let y = eqb-false k 4 f in
    let z = eqb-false k 6 g in
    ne_eqb (k % 2) 0 (λ h. omega arith)

-- of the kinds that list, the even ones are incomplete
pub even-incomplete : (k : ℕ) → 0 < width_of k → eqb (k % 2) 0 ≡ incomplete k
unfolding width_of
even-incomplete k h =
    let r = listing-by k (within 0x02 0x03 k) (within 0x04 0x05 k) (within 0x06 0x07 k) refl refl refl h in
    even-by k (eqb k 2) (eqb k 4) (eqb k 6) refl refl refl r.0 r.1

pub is-short : (w : ℕ) → IsWidth w → (w ≡ 16 → ⊥) → (w ≡ 4 → ⊥) → w ≡ 2
is-short w (inl e) p q = e
is-short w (inr (inl e)) p q = absurd (q e)
is-short w (inr (inr e)) p q = absurd (p e)

-- ---- a UUID that was made of bytes

module _ (s : List ℕ) (at w : ℕ) (v : Uuid) (inside : at + w ≤ length s) where
  pub made-long : w ≡ 16 → v ≡ of_num (le_at 16 s at) → num v ≡ uuid_of w (take w (drop at s))
  unfolding uuid_of
  made-long e h = rw (h, num_of, le_at-in 16 s at (omega arith), e)

  pub made_short : (m n : ℕ) → w ≡ m → eqb m 16 ≡ false → v ≡ short_of n → n ≡ le_at m s at → num v ≡ uuid_of w (take w (drop at s))
  unfolding uuid_of
  made_short m n e f h g = rw (h, num_of, g, le_at-in m s at (omega arith), e, f)
