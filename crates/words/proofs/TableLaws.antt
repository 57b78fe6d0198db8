-- Laws of tables: one for a place, one for a write, one for no write.
use Prim.Native.Nat.{ℕ, zero, suc, ◌+◌, ◌<◌, ◌≤◌}
use mathlib.Core.Path.{◌≡◌, refl, sym, ap, ◌∙◌}
use mathlib.Core.Bool.{Bool, true, false}
use mathlib.Core.List.{List}
use native.Mathlib.Omega.{arith}
use lib.ListN.{length, get_or, set, length-set}
use lib.Dec.{eqb, ltb}
use borrow.Author.Tests.{eqb-true, eqb-false, ltb-true, ltb-false}
use lib.Seq.{ext_get_or, get_or-set_same, get_or-set_other}
use Rattle.lists.specs.Queue.{shifted}
use Rattle.lists.proofs.QueueLaws.{shifted-zero, shifted-suc, length-shifted}
use Rattle.words.specs.Table.{table_from, table}

module _ {A : Type 0} where
  from-length : (i n : ℕ) (f : ℕ → A) → length (table_from i n f) ≡ n
  unfolding table_from
  from-length i zero f = refl
  from-length i (suc n) f = ap suc (from-length (suc i) n f)

  from_at : (i n k : ℕ) (f : ℕ → A) (z : A) → k < n → get_or (table_from i n f) k z ≡ f (i + k)
  unfolding table_from
  from_at i zero k f z h = absurd (omega arith)
  from_at i (suc n) zero f z h = let e : i ≡ i + 0 = omega arith in ap f e
  from_at i (suc n) (suc k) f z h = let e : suc i + k ≡ i + suc k = omega arith in from_at (suc i) n k f z (omega arith) ∙ ap f e

  pub table-length : (n : ℕ) (f : ℕ → A) → length (table n f) ≡ n
  table-length n f = from-length 0 n f

  pub table_at : (n k : ℕ) (f : ℕ → A) (z : A) → k < n → get_or (table n f) k z ≡ f k
  table_at n k f z h = let e : 0 + k ≡ k = omega arith in from_at 0 n k f z h ∙ ap f e

  -- two tables with the same in each place
  pub table_same : (n : ℕ) (f g : ℕ → A) → ((k : ℕ) → k < n → f k ≡ g k) → table n f ≡ table n g
  table_same n f g e =
      ext_get_or (f 0) (table n f) (table n g) (table-length n f ∙ sym (table-length n g)) there
    where
      there : (k : ℕ) → k < length (table n f) → get_or (table n f) k (f 0) ≡ get_or (table n g) k (f 0)
      there k h = let b : k < n = omega (arith, table-length n f) in table_at n k f (f 0) b ∙ e k b ∙ sym (table_at n k g (f 0) b)

  -- one that has x in place i, and elsewhere what the other has
  pub table-set : (n : ℕ) (f g : ℕ → A) (i : ℕ) (x : A) → i < n → f i ≡ x → ((k : ℕ) → k < n → (k ≡ i → ⊥) → f k ≡ g k) → table n f ≡ set (table n g) i x
  table-set n f g i x h p e =
      ext_get_or x (table n f) (set (table n g) i x) (table-length n f ∙ sym (length-set (table n g) i x ∙ table-length n g)) there
    where
      there : (k : ℕ) → k < length (table n f) → get_or (table n f) k x ≡ get_or (set (table n g) i x) k x
      there k l = table_at n k f x b ∙ go (eqb k i) refl
        where
          b : k < n
          b = omega (arith, table-length n f)

          go : (t : Bool) → eqb k i ≡ t → f k ≡ get_or (set (table n g) i x) k x
          go true q =
              let r : k ≡ i = eqb-true k i q in
              rw r (p ∙ sym (get_or-set_same (table n g) i x x (omega (arith, table-length n g))))
          go false q =
              e k b (eqb-false k i q) ∙ sym (get_or-set_other (table n g) i k x x (eqb-false k i q) ∙ table_at n k g x b)

  -- what a list shifted in its first n places has in each
  shifted_at : (a : List A) (n k : ℕ) (z : A) → n < length a → k < length a → (k < n → get_or (shifted a n) k z ≡ get_or a (k + 1) z) × (n ≤ k → get_or (shifted a n) k z ≡ get_or a k z)
  shifted_at a zero k z h l = (λ b. absurd (omega arith), λ b. ap (λ (t : List A). get_or t k z) (sym (shifted-zero a)))
  shifted_at a (suc n) k z h l =
      let e : n + 1 ≡ suc n = omega arith in
      let m : length (shifted a n) ≡ length a = length-shifted a n (omega arith) in
      let x : A = get_or (shifted a n) (n + 1) z in
      let g : shifted a (suc n) ≡ set (shifted a n) n x = ap (shifted a) (sym e) ∙ sym (shifted-suc a n z (omega arith)) in
      let next : x ≡ get_or a (n + 1) z = (shifted_at a n (n + 1) z (omega arith) (omega arith)).1 (omega arith) in
      (λ b. rw g (low b (eqb k n) refl next (shifted_at a n k z (omega arith) l).0), λ b. rw g (get_or-set_other (shifted a n) n k x z (λ q. omega arith) ∙ (shifted_at a n k z (omega arith) l).1 (omega arith)))
    where
      low : k < suc n → (t : Bool) → eqb k n ≡ t → get_or (shifted a n) (n + 1) z ≡ get_or a (n + 1) z → (k < n → get_or (shifted a n) k z ≡ get_or a (k + 1) z) → get_or (set (shifted a n) n (get_or (shifted a n) (n + 1) z)) k z ≡ get_or a (k + 1) z
      low b true q next under =
          let r : k ≡ n = eqb-true k n q in
          let m : length (shifted a n) ≡ length a = length-shifted a n (omega arith) in
          rw r (get_or-set_same (shifted a n) n (get_or (shifted a n) (n + 1) z) z (omega arith) ∙ next)
      low b false q next under =
          let r : k ≡ n → ⊥ = eqb-false k n q in
          get_or-set_other (shifted a n) n k (get_or (shifted a n) (n + 1) z) z r ∙ under (omega (arith, r))

  -- one whose first m places have what the place after each has in the other
  pub table-lowered : (n m : ℕ) (f g : ℕ → A) → m < n → ((k : ℕ) → k < m → f k ≡ g (k + 1)) → ((k : ℕ) → m ≤ k → k < n → f k ≡ g k) → table n f ≡ shifted (table n g) m
  table-lowered n m f g h low high =
      ext_get_or (f 0) (table n f) (shifted (table n g) m) (table-length n f ∙ sym (length-shifted (table n g) m (omega (arith, table-length n g)) ∙ table-length n g)) there
    where
      there : (k : ℕ) → k < length (table n f) → get_or (table n f) k (f 0) ≡ get_or (shifted (table n g) m) k (f 0)
      there k l = table_at n k f (f 0) b ∙ go (ltb k m) refl
        where
          b : k < n
          b = omega (arith, table-length n f)

          s : (k < m → get_or (shifted (table n g) m) k (f 0) ≡ get_or (table n g) (k + 1) (f 0)) × (m ≤ k → get_or (shifted (table n g) m) k (f 0) ≡ get_or (table n g) k (f 0))
          s = shifted_at (table n g) m k (f 0) (omega (arith, table-length n g)) (omega (arith, table-length n g, table-length n f))

          go : (t : Bool) → ltb k m ≡ t → f k ≡ get_or (shifted (table n g) m) k (f 0)
          go true q =
              let r : k < m = ltb-true k m q in
              low k r ∙ sym (s.0 r ∙ table_at n (k + 1) g (f 0) (omega arith))
          go false q =
              let r : m ≤ k = ltb-false k m q in
              high k r b ∙ sym (s.1 r ∙ table_at n k g (f 0) b)
