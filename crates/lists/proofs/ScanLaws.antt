-- Laws for a loop that looks at the first n places of an array, one after another.
use Prim.Native.Nat.{ℕ, zero, suc, ◌+◌, ◌≤◌, ◌<◌}
use mathlib.Core.Path.{◌≡◌, refl, sym, ap, ◌∙◌}
use mathlib.Core.Bool.{Bool, true, false, ◌&&◌}
use mathlib.Core.List.{List, [], ◌∷◌, ◌++◌}
use native.Mathlib.Numerals.{add-one}
use native.Mathlib.Omega.{arith}
use lib.ListN.{length, take, drop, get_or, drop_of_length-le}
use lib.Seq.{drop-cons, get_or-take, length-take-le}
use Rattle.lists.specs.Queue.{all}

module _ {A : Type 0} where
  -- from place i on: one, and those after it
  pub rest-cons : (a : List A) (n i : ℕ) (z : A) → i < n → n ≤ length a → drop i (take n a) ≡ get_or a i z ∷ drop (i + 1) (take n a)
  rest-cons a n i z h k =
      let e : length (take n a) ≡ n = length-take-le n a k in
      drop-cons (take n a) i z (omega arith)
      ∙ ap (λ (x : A). x ∷ drop (suc i) (take n a)) (get_or-take n a i z h)
      ∙ ap (λ (m : ℕ). get_or a i z ∷ drop m (take n a)) (sym (add-one i))

  pub rest-nil : (a : List A) (n i : ℕ) → n ≤ i → n ≤ length a → drop i (take n a) ≡ []
  rest-nil a n i h k =
      let e : length (take n a) ≡ n = length-take-le n a k in
      drop_of_length-le (take n a) {i = i} (omega arith)

  pub all_pass : (f : A → Bool) (a : List A) (n i : ℕ) (z : A) → i < n → n ≤ length a → f (get_or a i z) ≡ true → all f (drop i (take n a)) ≡ all f (drop (i + 1) (take n a))
  unfolding all
  all_pass f a n i z h k e = ap (all f) (rest-cons a n i z h k) ∙ ap (λ (b : Bool). b && all f (drop (i + 1) (take n a))) e

  pub all-fail : (f : A → Bool) (a : List A) (n i : ℕ) (z : A) → i < n → n ≤ length a → f (get_or a i z) ≡ false → all f (drop i (take n a)) ≡ false
  unfolding all
  all-fail f a n i z h k e = ap (all f) (rest-cons a n i z h k) ∙ ap (λ (b : Bool). b && all f (drop (i + 1) (take n a))) e

  pub all_end : (f : A → Bool) (a : List A) (n i : ℕ) → n ≤ i → n ≤ length a → all f (drop i (take n a)) ≡ true
  unfolding all
  all_end f a n i h k = ap (all f) (rest-nil a n i h k)

  -- what the test of all tells of one, of the others, and of two lists
  pub all_head : (f : A → Bool) (x : A) (l : List A) → all f (x ∷ l) ≡ true → f x ≡ true
  unfolding all
  all_head f x l e = go (f x) e
    where
      go : (b : Bool) → (b && all f l) ≡ true → b ≡ true
      go true g = refl
      go false g = g

  pub all_tail : (f : A → Bool) (x : A) (l : List A) → all f (x ∷ l) ≡ true → all f l ≡ true
  unfolding all
  all_tail f x l e = go (f x) e
    where
      go : (b : Bool) → (b && all f l) ≡ true → all f l ≡ true
      go true g = g
      go false g = absurd (differ g)
        where
          differ : false ≡ true → ⊥
          differ g = let z : ◌≡◌ {A = ℕ} 0 1 = cc in omega arith

  pub all_cons : (f : A → Bool) (x : A) (l : List A) → f x ≡ true → all f l ≡ true → all f (x ∷ l) ≡ true
  unfolding all
  all_cons f x l e g = rw e g

  pub all_append : (f : A → Bool) (l m : List A) → all f l ≡ true → all f m ≡ true → all f (l ++ m) ≡ true
  all_append f [] m e g = g
  all_append f (x ∷ l) m e g = all_cons f x (l ++ m) (all_head f x l e) (all_append f l m (all_tail f x l e) g)

  pub all_drop : (f : A → Bool) (k : ℕ) (l : List A) → all f l ≡ true → all f (drop k l) ≡ true
  all_drop f zero l e = e
  all_drop f (suc k) [] e = e
  all_drop f (suc k) (x ∷ l) e = all_drop f k l (all_tail f x l e)

  pub all-at : (f : A → Bool) (a : List A) (n i : ℕ) (z : A) → i < n → n ≤ length a → all f (take n a) ≡ true → f (get_or a i z) ≡ true
  all-at f a n i z h k e =
      all_head f (get_or a i z) (drop (i + 1) (take n a)) (rw (rest-cons a n i z h k) at (all_drop f i (take n a) e))
