-- The array form of the rising list: a law for each way out.
use Rattle.std.specs.List.{copy_within}
use Rattle.std.proofs.lemmas.List.{drop-take, take-append-le}
use Prim.Native.Nat.{ℕ, suc, ◌+◌, ◌-◌, ◌≤◌, ◌<◌}
use mathlib.Core.Path.{◌≡◌, sym, ap, ap₂, ◌∙◌}
use mathlib.Core.List.{List, ◌∷◌, ◌++◌, append_assoc}
use native.Mathlib.Numerals.{add-one}
use native.Mathlib.Omega.{arith}
use lib.ListN.{length, take, drop, get_or, set, length-append, take-append-drop}
use lib.Seq.{get_or-take, length-take-le, take-take, set_split, drop-append_seam}
use Rattle.lists.specs.Queue.{onto}
use Rattle.gatt_characteristics.specs.Characteristic.{Rising, place, enter, zero-characteristic}
use Rattle.gatt_characteristics.specs.declared.Characteristic.{Characteristic}
use Rattle.gatt_characteristics.proofs.RisingLaws.{enter-known, enter-new}

-- ---- one place made free

pub length-inserts : {A : Type 0} (a : List A) (n : ℕ) (c : A) (p : ℕ) → n ≤ length a
    → length (take p (take n a) ++ c ∷ drop p (take n a)) ≡ n + 1
length-inserts a n c p g = simp length-append (omega (arith, length-take-le n a g, length-split))
  where
    length-split : length (take p (take n a)) + length (drop p (take n a)) ≡ length (take n a)
    length-split = sym (length-append (take p (take n a)) (drop p (take n a))) ∙ ap length (take-append-drop p (take n a))

-- those from p on move up by one, and c goes into place p
pub opened : {A : Type 0} (a : List A) (n p : ℕ) (c : A) → p ≤ n → n < length a
    → set (copy_within a p n (p + 1)) p c ≡ onto a (take p (take n a) ++ c ∷ drop p (take n a))
opened {A} a n p c h g =
    let x : List A = take (p + 1) a in
    let y : List A = take (n - p) (drop p a) ++ drop (n + 1) a in
    let lx : length x ≡ p + 1 = length-take-le (p + 1) a (omega arith) in
    let e : p + 1 + (n - p) ≡ n + 1 = omega arith in
    let b : copy_within a p n (p + 1) ≡ x ++ y =
    ap (λ (k : ℕ). x ++ take (n - p) (drop p a) ++ drop k a) e ∙ append_assoc x (take (n - p) (drop p a)) (drop (n + 1) a) in
    let first : take p (x ++ y) ≡ take p (take n a) =
    take-append-le p x y (omega arith) ∙ take-take p (p + 1) a (omega arith) ∙ sym (take-take p n a h) in
    let last : drop (suc p) (x ++ y) ≡ y = ap (λ (k : ℕ). drop k (x ++ y)) (sym (lx ∙ add-one p)) ∙ drop-append_seam x y in
    let f : n ≡ p + (n - p) = omega arith in
    let moved : drop p (take n a) ≡ take (n - p) (drop p a) = ap (λ (k : ℕ). drop p (take k a)) f ∙ drop-take p (n - p) a in
    let big : p < length (x ++ y) = rw (length-append x y) (omega arith) in
    ap (λ (l : List A). set l p c) b ∙ set_split (x ++ y) p c big
    ∙ ap₂ (λ (s t : List A). s ++ c ∷ t) first (last ∙ ap₂ (λ (s : List A) (k : ℕ). s ++ drop k a) (sym moved) (sym (length-inserts a n c p (omega arith))))
    ∙ sym (append_assoc (take p (take n a)) (c ∷ drop p (take n a)) (drop (length (take p (take n a) ++ c ∷ drop p (take n a))) a))

-- ---- one characteristic into the list of the first n

module _ (a : List Characteristic) (n : ℕ) (c : Characteristic) (p : ℕ) (g : n ≤ length a) (u : Rising (take n a))
    (e : p ≡ place c.declaration (take n a)) where
  size : length (take n a) ≡ n
  size = length-take-le n a g

  pub enter-replaces : p < n → (get_or a p zero-characteristic).declaration ≡ c.declaration → enter c (take n a) ≡ set (take n a) p c
  enter-replaces q d =
      rw e (enter-known c zero-characteristic 0 (take n a) u (rw (← e) (omega (arith, size)))
      (rw (← e) (ap (λ (x : Characteristic). x.declaration) (get_or-take n a p zero-characteristic q) ∙ d)))

  module _ (new : p < n → (get_or a p zero-characteristic).declaration ≡ c.declaration → ⊥) where
    pub enter-inserts : enter c (take n a) ≡ take p (take n a) ++ c ∷ drop p (take n a)
    enter-inserts =
        rw e
        (enter-new c zero-characteristic 0 (take n a) u
        (rw (← e) (λ k d. new (omega (arith, size))
        (ap (λ (x : Characteristic). x.declaration) (sym (get_or-take n a p zero-characteristic (omega (arith, size)))) ∙ d))))
