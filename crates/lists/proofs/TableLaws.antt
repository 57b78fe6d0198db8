-- Laws of a list at the front of an array, and of a walk along it.
use Prim.Native.Nat.{ℕ, suc, ◌+◌, ◌-◌, ◌≤◌, ◌<◌}
use mathlib.Core.Path.{◌≡◌, refl, sym, ap, ◌∙◌}
use mathlib.Core.Bool.{Bool, true, false}
use mathlib.Core.List.{List, [], ◌∷◌, ◌++◌, append_assoc}
use native.Mathlib.Numerals.{add-one}
use native.Mathlib.Omega.{arith}
use lib.ListN.{length, take, drop, get_or, set, length-append, length-set, take-append-drop, drop_of_length-le}
use lib.Seq.{length-take-le, drop-append-add, drop-drop, drop-cons, get_or-take, set_split, set-append_left}
use Rattle.lists.specs.Queue.{onto}
pub use Rattle.lists.proofs.QueueLaws.{take-onto, length-onto}
use Rattle.bytes_base.specs.Choice.{pick}
use Rattle.std.specs.Prelude.{◌||◌, MatchBool, Any, All}
use Rattle.std.specs.List.{list_any}
use Rattle.std.proofs.lemmas.List.Folds.{list_any-from_Any, list_any_none}
use Rattle.lists.specs.First.{first}

-- ---- a list written onto an array

module _ {A : Type 0} where
  -- an array is its own list written onto it
  pub onto-self : (a : List A) (n : ℕ) → n ≤ length a → onto a (take n a) ≡ a
  onto-self a n h = ap (λ (k : ℕ). take n a ++ drop k a) (length-take-le n a h) ∙ take-append-drop n a

  -- the later, longer list covers the earlier
  pub onto-onto : (a l m : List A) → length l ≤ length m → onto (onto a l) m ≡ onto a m
  onto-onto a l m h =
      let e : length m ≡ length l + (length m - length l) = omega arith in
      ap (λ (k : ℕ). m ++ drop k (l ++ drop (length l) a)) e
      ∙ ap (λ (x : List A). m ++ x) (drop-append-add l (drop (length l) a) (length m - length l) ∙ drop-drop (length m - length l) (length l) a)
      ∙ ap (λ (k : ℕ). m ++ drop k a) (sym e)

  -- one place after the list is written
  pub set-onto : (a : List A) (n : ℕ) (x : A) → n < length a → set a n x ≡ onto a (take n a ++ (x ∷ []))
  set-onto a n x h =
      let e : length (take n a ++ (x ∷ [])) ≡ suc n = simp length-append (omega (arith, length-take-le n a (omega arith))) in
      set_split a n x h ∙ sym (append_assoc (take n a) (x ∷ []) (drop (suc n) a))
      ∙ ap (λ (k : ℕ). (take n a ++ (x ∷ [])) ++ drop k a) (sym e)

  -- one place of the list is replaced
  pub set-in : (a : List A) (n p : ℕ) (x : A) → n ≤ length a → p < n → set a p x ≡ onto a (set (take n a) p x)
  set-in a n p x h g =
      let ln = length-take-le n a h in
      ap (λ (l : List A). set l p x) (sym (take-append-drop n a))
      ∙ set-append_left (take n a) (drop n a) p x (omega arith)
      ∙ ap (λ (k : ℕ). set (take n a) p x ++ drop k a) (sym (length-set (take n a) p x ∙ ln))

-- ---- a walk along the first c of an array

module _ {A : Type 0} (d : A) (a : List A) (c i : ℕ) (g : c ≤ length a) where
  -- one is there
  pub here : i < c → drop i (take c a) ≡ get_or a i d ∷ drop (i + 1) (take c a)
  here h =
      let k : i < length (take c a) = omega (arith, length-take-le c a g) in
      rw (add-one i, drop-cons (take c a) i d k, get_or-take c a i d h)

  -- none is left
  pub past : c ≤ i → drop i (take c a) ≡ []
  past h = drop_of_length-le (take c a) {i = i} (omega (arith, length-take-le c a g))

-- ---- the search for the first that passes a test

module _ {A R : Type 0} (hit : A → Bool) (is : A → R) (other : R) (d : A) (a : List A) (c i : ℕ) (g : c ≤ length a)
    (e : first hit is other (take c a) ≡ first hit is other (drop i (take c a))) where
  pub first-pass : i < c → hit (get_or a i d) ≡ false → first hit is other (take c a) ≡ first hit is other (drop (i + 1) (take c a))
  unfolding first
  first-pass h n = e ∙ rw (here d a c i g h, n)

  pub first-hit : i < c → hit (get_or a i d) ≡ true → is (get_or a i d) ≡ first hit is other (take c a)
  unfolding first
  first-hit h n = sym (e ∙ rw (here d a c i g h, n))

  pub first-end : c ≤ i → other ≡ first hit is other (take c a)
  unfolding first
  first-end h = sym (e ∙ rw (past d a c i g h))

-- ---- whether any passes

first-any : {A : Type 0} (hit : A → Bool) (l : List A) → list_any hit l ≡ first hit (λ (x : A). true) false l
unfolding first
first-any hit [] = refl
first-any hit (x ∷ xs) = go (hit x) (first-any hit xs)
  where
    go : (b : Bool) → list_any hit xs ≡ first hit (λ (x : _). true) false xs → (b || list_any hit xs) ≡ pick b true (first hit (λ (x : _). true) false xs)
    go true e = refl
    go false e = e

-- as `any` of an iterator tells it
pub any-first : {A : Type 0} (hit : A → Bool) (l : List A) (b : Bool)
    → MatchBool b (Any (λ x. hit x ≡ true) l) (All (λ x. hit x ≡ false) l) → b ≡ first hit (λ (x : A). true) false l
any-first hit l true h = sym (list_any-from_Any hit l h) ∙ first-any hit l
any-first hit l false h = sym (list_any_none hit l h) ∙ first-any hit l
