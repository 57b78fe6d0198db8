-- How the structures of advertising data go on, one at a time, and where each of them lies.
use Prim.Native.Nat.{ℕ, zero, suc, ◌+◌, ◌-◌, ◌≤◌, ◌<◌}
use mathlib.Core.Path.{◌≡◌, refl, ap, ◌∙◌}
use mathlib.Core.Bool.{Bool, true, false, and-false}
use mathlib.Core.List.{List, [], ◌∷◌}
use native.Mathlib.Omega.{arith}
use native.Mathlib.Nat.{add-zero}
use lib.ListN.{length, take, drop, get_or, length-drop}
use lib.Seq.{drop-drop, get_or-drop, length-take-le}
use lib.Dec.{ltb}
use borrow.Author.Tests.{lt-ltb, le-ltb, ltb-true}
use Rattle.bytes_base.specs.Choice.{pick}
use Rattle.bytes_base.proofs.TestLaws.{both}
use Rattle.adv_data.specs.Ad.{Ad, whole, first, reading, structures}
use Rattle.adv_data.proofs.Lists.{part, part_length}

-- more turns than bytes change nothing
reading-enough : (f g at : ℕ) (s : List ℕ) → length s ≤ f → length s ≤ g → reading f at s ≡ reading g at s
unfolding reading
reading-enough zero zero at s a b = refl
reading-enough zero (suc g) at [] a b = refl
reading-enough zero (suc g) at (x ∷ s) a b = absurd (omega arith)
reading-enough (suc f) zero at [] a b = refl
reading-enough (suc f) zero at (x ∷ s) a b = absurd (omega arith)
reading-enough (suc f) (suc g) at s a b =
    rw (reading-enough f g (at + (1 + get_or s 0 0)) (drop (1 + get_or s 0 0) s) (rw length-drop (omega arith)) (rw length-drop (omega arith)))

-- the structures from at on
abbrev pub read_at : ℕ → List ℕ → List Ad
read_at at s = reading (length (drop at s)) at (drop at s)

reading-none : (f at : ℕ) (s : List ℕ) → whole s ≡ false → reading f at s ≡ []
unfolding reading
reading-none zero at s h = refl
reading-none (suc f) at s h = rw h

reading-one : (f at : ℕ) (s : List ℕ) → whole s ≡ true
    → reading (suc f) at s ≡ first at s ∷ reading f (at + (1 + get_or s 0 0)) (drop (1 + get_or s 0 0) s)
unfolding reading
reading-one f at s h = rw h

module _ (at : ℕ) (s : List ℕ) where
  pub byte_at : get_or (drop at s) 0 0 ≡ get_or s at 0
  byte_at = get_or-drop at s 0 0 ∙ ap (λ (k : ℕ). get_or s k 0) (add-zero at)

  read_one : whole (drop at s) ≡ true → read_at at s ≡ first at (drop at s) ∷ read_at (at + (1 + get_or s at 0)) s
  read_one h =
      let t = drop at s in
      let k = at + (1 + get_or s at 0) in
      let d : drop (1 + get_or t 0 0) t ≡ drop k s = ap (λ (j : ℕ). drop (1 + j) t) byte_at ∙ drop-drop (1 + get_or s at 0) at s in
      let rest : reading (length t) (at + (1 + get_or t 0 0)) (drop (1 + get_or t 0 0) t) ≡ reading (length (drop k s)) k (drop k s)
      = rw (d, byte_at) (reading-enough (length t) (length (drop k s)) k (drop k s) (simp length-drop (omega arith)) (omega arith)) in
      reading-enough (length t) (suc (length t)) at t (omega arith) (omega arith)
      ∙ reading-one (length t) at t h
      ∙ ap (λ (l : List Ad). first at t ∷ l) rest

  -- a length of zero, and one that runs past the end
  pub read-zero : get_or s at 0 ≡ 0 → read_at at s ≡ []
  read-zero h = reading-none (length (drop at s)) at (drop at s) (rw (byte_at, h))

  pub read_past : length s - at ≤ get_or s at 0 → read_at at s ≡ []
  read_past h = reading-none (length (drop at s)) at (drop at s) (rw (byte_at, length-drop, le-ltb _ _ h) (and-false (ltb 0 (get_or s at 0))))

  module _ (n : ℕ) (is : n ≡ get_or s at 0) (some : 0 < n) (fits : n < length s - at) where
    whole_here : whole (drop at s) ≡ true
    whole_here = rw (byte_at, length-drop, ← is, lt-ltb 0 n some, lt-ltb n (length s - at) fits)

    body-here : (first at (drop at s)).body ≡ part s (at + 2) (at + 1 + n)
    body-here =
        let q : at + 1 + n - (at + 2) ≡ n - 1 = omega arith in
        rw (byte_at, ← is, q, drop-drop 2 at s)

    pub body-length : length (part s (at + 2) (at + 1 + n)) ≡ n - 1
    body-length = part_length s (at + 2) (at + 1 + n) (omega arith) ∙ omega arith

    -- a structure stands at at
    pub read_here : read_at at s ≡ record { start = at + 2; kind = get_or s (at + 1) 0; body = part s (at + 2) (at + 1 + n) } ∷ read_at (at + 1 + n) s
    read_here =
        let j : at + (1 + n) ≡ at + 1 + n = omega arith in
        read_one whole_here ∙ rw (body-here, get_or-drop at s 1 0, ← is, j)

-- ---- where the structures lie

-- a structure's body is the part of the data that starts where it says
pub record Lies (s : List ℕ) (a : Ad) : Type 0 where
  pub inside : a.start + length a.body ≤ length s
  pub bytes : a.body ≡ take (length a.body) (drop a.start s)

abbrev pub AllLie : List ℕ → List Ad → Type 0
AllLie s [] = Unit
AllLie s (a ∷ more) = Lies s a × AllLie s more

-- by whether a structure begins at at
lie-by : (at : ℕ) (s : List ℕ) (more : List Ad) (t : Bool) → whole (drop at s) ≡ t → AllLie s more → AllLie s (pick t (first at (drop at s) ∷ more) [])
lie-by at s more false e ih = tt
lie-by at s more true e ih =
    let n = get_or (drop at s) 0 0 in
    let k = both (ltb 0 n) (ltb n (length (drop at s))) e in
    let p : 0 < n = ltb-true 0 n k.0 in
    let q : n < length s - at = rw length-drop at (ltb-true n (length (drop at s)) k.1) in
    let d : drop 2 (drop at s) ≡ drop (at + 2) s = drop-drop 2 at s in
    let l : length (take (n - 1) (drop 2 (drop at s))) ≡ n - 1 = length-take-le (n - 1) (drop 2 (drop at s)) (simp length-drop (omega arith)) in
    (record { inside = rw l (omega arith); bytes = rw (l, d) }, ih)

lie-from : (f at : ℕ) (s : List ℕ) → AllLie s (reading f at (drop at s))
unfolding reading
lie-from zero at s = tt
lie-from (suc f) at s =
    let n = get_or (drop at s) 0 0 in
    lie-by at s (reading f (at + (1 + n)) (drop (1 + n) (drop at s))) (whole (drop at s)) refl
    (rw (drop-drop (1 + n) at s) (lie-from f (at + (1 + n)) s))

pub all_lie : (s : List ℕ) → AllLie s (structures s)
all_lie s = lie-from (length s) 0 s
