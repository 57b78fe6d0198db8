-- A sequence of UTF-8 by its bytes, and the sequences one after another.
use Rattle.std.specs.Prelude.{Some, None}
use Prim.Native.Nat.{ℕ, zero, suc, ◌+◌, ◌-◌, ◌≤◌, ◌<◌}
use mathlib.Core.Path.{◌≡◌, refl, ap, sym, ◌∙◌}
use mathlib.Core.Bool.{Bool, true, false, ◌&&◌, ◌||◌, and-true, and-false, or-false, false≢true}
use mathlib.Core.List.{List, [], ◌∷◌}
use native.Mathlib.Omega.{arith}
use native.Mathlib.Nat.{add-zero, add-suc}
use lib.ListN.{length, drop, get_or, drop_of_length-le, get_or-eq_default, length-drop}
use lib.Seq.{drop-cons, drop-drop}
use lib.Dec.{ltb, leb, eqb, leb-zero}
use borrow.Author.Tests.{ltb-true, ltb-false, lt-leb, le-leb, eq-eqb, ne_eqb, eqb-true, eqb-false}
use Rattle.bytes_base.specs.Choice.{pick, within}
use Rattle.bytes_base.proofs.TestLaws.{both}
use Rattle.utf8.specs.Utf8.{Range, ones, twos, threes, fours, begins, some, sequence, runs, utf8}

-- ---- by index: what stands at a place past the end is 256, which no row has

-- a row whose ranges hold bytes alone, and rows of that kind
abbrev bytes : List Range → Bool
bytes [] = true
bytes (r ∷ row) = ltb r.to 256 && bytes row

abbrev all_bytes : List (List Range) → Bool
all_bytes [] = true
all_bytes (row ∷ rows) = bytes row && all_bytes rows

abbrev meets : List Range → ℕ → ℕ → List ℕ → Bool
meets [] at k s = true
meets (r ∷ row) at k s = within r.from r.to (get_or s (at + k) 256) && meets row at (suc k) s

abbrev some_meet : List (List Range) → ℕ → List ℕ → Bool
some_meet [] at s = false
some_meet (row ∷ rows) at s = meets row at 0 s || some_meet rows at s

begins-one : (r : Range) (row : List Range) (i : ℕ) (s : List ℕ) (t : Bool) → ltb i (length s) ≡ t → r.to < 256
    → begins (r ∷ row) (drop i s) ≡ (within r.from r.to (get_or s i 256) && begins row (drop (suc i) s))
unfolding begins
begins-one r row i s true e h = rw (drop-cons s i 256 (ltb-true i (length s) e))
begins-one r row i s false e h =
    let p : length s ≤ i = ltb-false i (length s) e in
    let n : get_or s i 256 ≡ 256 = get_or-eq_default s 256 p in
    rw (drop_of_length-le s p, n, lt-leb 256 r.to h, and-false)

begins-at : (row : List Range) (at k : ℕ) (s : List ℕ) → bytes row ≡ true → begins row (drop (at + k) s) ≡ meets row at k s
unfolding begins
begins-at [] at k s h = refl
begins-at (r ∷ row) at k s h =
    let q = both (ltb r.to 256) (bytes row) h in
    begins-one r row (at + k) s (ltb (at + k) (length s)) refl (ltb-true r.to 256 q.0)
    ∙ ap (λ (b : Bool). within r.from r.to (get_or s (at + k) 256) && b) (rw (← add-suc at k) (begins-at row at (suc k) s q.1))

some_at : (rows : List (List Range)) (at : ℕ) (s : List ℕ) → all_bytes rows ≡ true → some rows (drop at s) ≡ some_meet rows at s
unfolding some
some_at [] at s h = refl
some_at (row ∷ rows) at s h =
    let q = both (bytes row) (all_bytes rows) h in
    let b : begins row (drop at s) ≡ meets row at 0 s = rw add-zero at (begins-at row at 0 s q.0) in
    rw (b, some_at rows at s q.1)

module _ (s : List ℕ) (at a b c d : ℕ) (is-a : a ≡ get_or s at 256) (is_b : b ≡ get_or s (at + 1) 256) (is_c : c ≡ get_or s (at + 2) 256) (is-d : d ≡ get_or s (at + 3) 256) where
  is_one : some ones (drop at s) ≡ leb a 0x7F
  is_one = some_at ones at s refl ∙ rw (add-zero, ← is-a, leb-zero, and-true, or-false)

  is-two : some twos (drop at s) ≡ some twos (a ∷ b ∷ [])
  unfolding some begins
  is-two = some_at twos at s refl ∙ rw (add-zero, ← is-a, ← is_b)

  is-three : some threes (drop at s) ≡ some threes (a ∷ b ∷ c ∷ [])
  unfolding some begins
  is-three = some_at threes at s refl ∙ rw (add-zero, ← is-a, ← is_b, ← is_c)

  is-four : some fours (drop at s) ≡ some fours (a ∷ b ∷ c ∷ d ∷ [])
  unfolding some begins
  is-four = some_at fours at s refl ∙ rw (add-zero, ← is-a, ← is_b, ← is_c, ← is-d)

  sequence-is : sequence (drop at s)
      ≡ pick (leb a 0x7F) 1 (pick (some twos (a ∷ b ∷ [])) 2 (pick (some threes (a ∷ b ∷ c ∷ [])) 3 (pick (some fours (a ∷ b ∷ c ∷ d ∷ [])) 4 0)))
  unfolding sequence
  sequence-is = rw (is_one, is-two, is-three, is-four)

  pub one_byte : a ≤ 0x7F → 1 ≡ sequence (drop at s)
  one_byte h = sym (sequence-is ∙ rw (le-leb a 0x7F h))

  -- the tests one after another, each with its answer
  module _ (not-one : 0x7F < a) (t : Bool) (is-t : t ≡ some twos (a ∷ b ∷ [])) where
    pub two_bytes : t ≡ true → 2 ≡ sequence (drop at s)
    two_bytes h = sym (sequence-is ∙ rw (lt-leb a 0x7F not-one, ← is-t, h))

    module _ (not-two : t ≡ false) (u : Bool) (is-u : u ≡ some threes (a ∷ b ∷ c ∷ [])) where
      pub three-bytes : u ≡ true → 3 ≡ sequence (drop at s)
      three-bytes h = sym (sequence-is ∙ rw (lt-leb a 0x7F not-one, ← is-t, not-two, ← is-u, h))

      module _ (not_three : u ≡ false) (v : Bool) (is-v : v ≡ some fours (a ∷ b ∷ c ∷ d ∷ [])) where
        pub four_bytes : v ≡ true → 4 ≡ sequence (drop at s)
        four_bytes h = sym (sequence-is ∙ rw (lt-leb a 0x7F not-one, ← is-t, not-two, ← is-u, not_three, ← is-v, h))

        pub no_bytes : v ≡ false → 0 ≡ sequence (drop at s)
        no_bytes h = sym (sequence-is ∙ rw (lt-leb a 0x7F not-one, ← is-t, not-two, ← is-u, not_three, ← is-v, h))

-- ---- a sequence lies within what it begins

begins-fits : (row : List Range) (s : List ℕ) → begins row s ≡ true → length row ≤ length s
unfolding begins
begins-fits [] s h = omega arith
begins-fits (r ∷ row) [] h = absurd (false≢true h)
begins-fits (r ∷ row) (b ∷ s) h = omega (arith, begins-fits row s (both (within r.from r.to b) (begins row s) h).1)

abbrev all_of : ℕ → List (List Range) → Bool
all_of n [] = true
all_of n (row ∷ rows) = eqb (length row) n && all_of n rows

or-by : (n l : ℕ) (a b : Bool) → (a ≡ true → n ≤ l) → (b ≡ true → n ≤ l) → (a || b) ≡ true → n ≤ l
or-by n l true b p q h = p refl
or-by n l false b p q h = q h

some_fits : (n : ℕ) (rows : List (List Range)) (s : List ℕ) → all_of n rows ≡ true → some rows s ≡ true → n ≤ length s
unfolding some
some_fits n [] s e h = absurd (false≢true h)
some_fits n (row ∷ rows) s e h =
    let q = both (eqb (length row) n) (all_of n rows) e in
    or-by n (length s) (begins row s) (some rows s) (λ k. omega (arith, begins-fits row s k, eqb-true (length row) n q.0)) (some_fits n rows s q.1) h

pick-fits : (t : Bool) (n m l : ℕ) → (t ≡ true → n ≤ l) → m ≤ l → pick t n m ≤ l
pick-fits true n m l p q = p refl
pick-fits false n m l p q = q

pub sequence-fits : (s : List ℕ) → sequence s ≤ length s
unfolding sequence
sequence-fits s =
    let l = length s in
    let four = pick-fits (some fours s) 4 0 l (some_fits 4 fours s refl) (omega arith) in
    let three = pick-fits (some threes s) 3 (pick (some fours s) 4 0) l (some_fits 3 threes s refl) four in
    let two = pick-fits (some twos s) 2 (pick (some threes s) 3 (pick (some fours s) 4 0)) l (some_fits 2 twos s refl) three in
    pick-fits (some ones s) 1 (pick (some twos s) 2 (pick (some threes s) 3 (pick (some fours s) 4 0))) l (some_fits 1 ones s refl) two

-- ---- one after another

runs_by : (f g n : ℕ) (s : List ℕ) (t : Bool) → eqb n 0 ≡ t → (0 < n → runs f (drop n s) ≡ runs g (drop n s))
    → pick t false (runs f (drop n s)) ≡ pick t false (runs g (drop n s))
runs_by f g n s true e h = refl
runs_by f g n s false e h = h (omega (arith, eqb-false n 0 e))

-- more turns than bytes change nothing
runs-enough : (f g : ℕ) (s : List ℕ) → length s ≤ f → length s ≤ g → runs f s ≡ runs g s
unfolding runs
runs-enough zero zero s a b = refl
runs-enough zero (suc g) s a b =
    let e : length s ≡ 0 = omega arith in
    rw (eq-eqb (length s) 0 e)
runs-enough (suc f) zero s a b =
    let e : length s ≡ 0 = omega arith in
    rw (eq-eqb (length s) 0 e)
runs-enough (suc f) (suc g) s a b =
    ap (pick (eqb (length s) 0) true)
    (runs_by f g (sequence s) s (eqb (sequence s) 0) refl
    (λ h. runs-enough f g (drop (sequence s) s) (rw length-drop (omega arith)) (rw length-drop (omega arith))))

-- whether the bytes from at on are well-formed
abbrev pub utf8_from : ℕ → List ℕ → Bool
utf8_from at s = utf8 (drop at s)

pub utf8-end : (s : List ℕ) (at : ℕ) → length s ≤ at → utf8_from at s ≡ true
unfolding runs
utf8-end s at h = rw (drop_of_length-le s h)

-- n is the length of the sequence at at
module _ (s : List ℕ) (at n : ℕ) (is : n ≡ sequence (drop at s)) (more : at < length s) where
  pub within-rest : n ≤ length s - at
  within-rest = rw is (rw length-drop at (sequence-fits (drop at s)))

  pub utf8-step : (n ≡ 0 → ⊥) → utf8_from at s ≡ utf8_from (at + n) s
  unfolding runs
  utf8-step ne =
      let t = drop at s in
      let l : length t ≡ length s - at = length-drop at s in
      runs-enough (length t) (suc (length t)) t (omega arith) (omega arith)
      ∙ rw (← is, ne_eqb (length t) 0 (λ (z : length t ≡ 0). omega arith), ne_eqb n 0 ne, drop-drop n at s)
      (runs-enough (length t) (length (drop (at + n) s)) (drop (at + n) s) (simp length-drop (omega arith)) (omega arith))

  pub utf8-bad : n ≡ 0 → utf8_from at s ≡ false
  unfolding runs
  utf8-bad z =
      let t = drop at s in
      let l : length t ≡ length s - at = length-drop at s in
      runs-enough (length t) (suc (length t)) t (omega arith) (omega arith)
      ∙ rw (← is, ne_eqb (length t) 0 (λ (z : length t ≡ 0). omega arith), eq-eqb n 0 z)

pub get_d_any : (s : List ℕ) (i d e : ℕ) → i < length s → get_or s i d ≡ get_or s i e
get_d_any [] i d e h = absurd (omega arith)
get_d_any (x ∷ s) zero d e h = refl
get_d_any (x ∷ s) (suc i) d e h = get_d_any s i d e (omega arith)

-- ---- the length of a sequence, or none

module _ (s : List ℕ) where
  pub some-length : (n : ℕ) → n ≡ sequence s → (n ≡ 0 → ⊥) → Some n ≡ pick (eqb (sequence s) 0) None (Some (sequence s))
  some-length n e h = rw (← e, ne_eqb n 0 h)

  pub no-length : 0 ≡ sequence s → None ≡ pick (eqb (sequence s) 0) None (Some (sequence s))
  no-length e = rw (← e)

  pub length-told : (n : ℕ) → Some n ≡ pick (eqb (sequence s) 0) None (Some (sequence s)) → (n ≡ sequence s) × (n ≡ 0 → ⊥)
  length-told n r = go (eqb (sequence s) 0) refl r
    where
      go : (t : Bool) → eqb (sequence s) 0 ≡ t → Some n ≡ pick t None (Some (sequence s)) → (n ≡ sequence s) × (n ≡ 0 → ⊥)
      go true e q = absurd cc
      go false e q =
          let z : n ≡ sequence s = cc in
          (z, λ h. eqb-false (sequence s) 0 e (sym z ∙ h))

  pub none-told : None ≡ pick (eqb (sequence s) 0) None (Some (sequence s)) → 0 ≡ sequence s
  none-told r = go (eqb (sequence s) 0) refl r
    where
      go : (t : Bool) → eqb (sequence s) 0 ≡ t → None ≡ pick t None (Some (sequence s)) → 0 ≡ sequence s
      go true e q = sym (eqb-true (sequence s) 0 e)
      go false e q = absurd cc
