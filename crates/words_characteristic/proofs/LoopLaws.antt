-- The loops over the first places: the search by UUID, the test of the order, the table read and written back.
use Rattle.std.specs.Prelude.{Some, None}
use Prim.Native.Nat.{ℕ, suc, ◌+◌, ◌/◌, ◌≤◌, ◌<◌}
use mathlib.Core.Path.{◌≡◌, refl, sym, ap, ◌∙◌}
use mathlib.Core.Bool.{Bool, true, false, ◌&&◌}
use mathlib.Core.List.{List, [], ◌∷◌, ◌++◌}
use native.Mathlib.Numerals.{add-one}
use native.Mathlib.Omega.{arith}
use lib.ListN.{length, get_or, set, take, drop, length-append}
use lib.Seq.{length-take-le, take-suc, take-suc-set}
use lib.Dec.{eqb, leb}
use Rattle.bytes_base.specs.Choice.{pick}
use Rattle.uuid_value.specs.Value.{num}
use Rattle.uuid_value.specs.declared.Uuid.{Uuid}
use Rattle.lists.specs.Queue.{onto}
use Rattle.lists.proofs.TableLaws.{here, past, first-pass, first-hit, first-end, onto-onto, set-onto, take-onto, length-onto}
use Rattle.gatt_characteristics.specs.Characteristic.{zero-characteristic, characteristic_with, up_from}
use Rattle.gatt_characteristics.specs.declared.Characteristic.{Characteristic}
use Rattle.words.specs.Words.{two48, characteristic_of}
use Rattle.words.specs.Tables.{Tables, word, characteristics_in, tables, with_characteristics}
use Rattle.words.proofs.RowLaws.{characteristic-at, length-characteristics}

-- ---- what two fields of a place say

uuid-at : (w : List ℕ) (i : ℕ) → i < 64 → (get_or (characteristics_in w) i zero-characteristic).uuid ≡ record { low = word w 480 i; high = word w 544 i }
unfolding characteristic_of
uuid-at w i h = ap (λ (x : Characteristic). x.uuid) (characteristic-at w i h)

declaration-at : (w : List ℕ) (i : ℕ) → i < 64 → (get_or (characteristics_in w) i zero-characteristic).declaration ≡ word w 608 i / two48
unfolding characteristic_of
declaration-at w i h = ap (λ (x : Characteristic). x.declaration) (characteristic-at w i h)

-- ---- the search by UUID

module _ (w : List ℕ) (n i : ℕ) (u : Uuid) (k : n ≤ 64)
    (e : characteristic_with u (take n (characteristics_in w)) ≡ characteristic_with u (drop i (take n (characteristics_in w)))) where
  pub find-end : n ≤ i → None ≡ characteristic_with u (take n (characteristics_in w))
  find-end h = first-end _ _ _ zero-characteristic (characteristics_in w) n i (omega (arith, length-characteristics w)) e h

  module _ (h : i < n) (b : Bool) (eb : b ≡ eqb (num (record { low = word w 480 i; high = word w 544 i })) (num u)) where
    test : eqb (num (get_or (characteristics_in w) i zero-characteristic).uuid) (num u) ≡ b
    test = ap (λ (x : Uuid). eqb (num x) (num u)) (uuid-at w i (omega arith)) ∙ sym eb

    pub find-pass : b ≡ false → characteristic_with u (take n (characteristics_in w)) ≡ characteristic_with u (drop (i + 1) (take n (characteristics_in w)))
    find-pass f = first-pass _ _ _ zero-characteristic (characteristics_in w) n i (omega (arith, length-characteristics w)) e h (test ∙ f)

    pub find-hit : b ≡ true → (x : Characteristic) → x ≡ get_or (characteristics_in w) i zero-characteristic
        → Some x ≡ characteristic_with u (take n (characteristics_in w))
    find-hit f x ex = ap Some ex ∙ first-hit _ _ _ zero-characteristic (characteristics_in w) n i (omega (arith, length-characteristics w)) e h (test ∙ f)

-- ---- the test of the order, without an early exit

and-pick : (ok b y : Bool) → (ok && pick b y false) ≡ ((ok && b) && y)
and-pick true true y = refl
and-pick true false y = refl
and-pick false b y = refl

and-true : (ok : Bool) → (ok && true) ≡ ok
and-true true = refl
and-true false = refl

pub rise-on : (w : List ℕ) (n i least d : ℕ) (ok : Bool) → n ≤ 64 → i < n → d ≡ word w 608 i / two48
    → (ok && up_from least (drop i (take n (characteristics_in w)))) ≡ ((ok && leb least d) && up_from (d + 1) (drop (i + 1) (take n (characteristics_in w))))
unfolding up_from
rise-on w n i least d ok k h e =
    let l : List Characteristic = characteristics_in w in
    let f : (get_or l i zero-characteristic).declaration ≡ d = declaration-at w i (omega arith) ∙ sym e in
    rw (here zero-characteristic l n i (omega (arith, length-characteristics w)) h, f, add-one d)
    (and-pick ok (leb least d) (up_from (suc d) (drop (i + 1) (take n l))))

pub rise-end : (w : List ℕ) (n i least : ℕ) (ok : Bool) → n ≤ 64 → n ≤ i → (ok && up_from least (drop i (take n (characteristics_in w)))) ≡ ok
unfolding up_from
rise-end w n i least ok k h = rw (past zero-characteristic (characteristics_in w) n i (omega (arith, length-characteristics w)) h) (and-true ok)

-- ---- the first places read

pub read-on : (w : List ℕ) (a : List Characteristic) (i : ℕ) (x : Characteristic) → length a ≡ 64 → i < 64 → x ≡ get_or (characteristics_in w) i zero-characteristic
    → take i a ≡ take i (characteristics_in w) → take (i + 1) (set a i x) ≡ take (i + 1) (characteristics_in w)
read-on w a i x g h e same =
    rw (add-one i)
    (take-suc-set a i x (omega arith) ∙ rw (same, e) (sym (take-suc (characteristics_in w) i zero-characteristic (omega (arith, length-characteristics w)))))

-- ---- the first places written

set_next : (l k : List Characteristic) (i : ℕ) → i < length l → i < length k
    → set (onto l (take i k)) i (get_or k i zero-characteristic) ≡ onto l (take (i + 1) k)
set_next l k i h g =
    let x : Characteristic = get_or k i zero-characteristic in
    let m : List Characteristic = take i k in
    let n : length m ≡ i = length-take-le i k (omega arith) in
    let o : length (onto l m) ≡ length l = length-onto l m (omega arith) in
    let more : take (i + 1) k ≡ m ++ (x ∷ []) = rw (add-one i) (take-suc k i zero-characteristic g) in
    let t : take i (onto l m) ≡ m = ap (λ (j : ℕ). take j (onto l m)) (sym n) ∙ take-onto l m in
    set-onto (onto l m) i x (omega arith)
    ∙ ap (λ (q : List Characteristic). onto (onto l m) (q ++ (x ∷ []))) t
    ∙ onto-onto l m (m ++ (x ∷ [])) (simp length-append (omega arith))
    ∙ ap (onto l) (sym more)

pub write-on : (w v u : List ℕ) (k : List Characteristic) (i : ℕ) → length k ≡ 64 → i < 64
    → tables v ≡ with_characteristics (tables w) (onto (characteristics_in w) (take i k))
    → tables u ≡ with_characteristics (tables v) (set (characteristics_in v) i (get_or k i zero-characteristic))
    → tables u ≡ with_characteristics (tables w) (onto (characteristics_in w) (take (i + 1) k))
write-on w v u k i g h e f =
    let x : Characteristic = get_or k i zero-characteristic in
    f
    ∙ ap (λ (t : Tables). with_characteristics t (set t.characteristics i x)) e
    ∙ ap (with_characteristics (tables w)) (set_next (characteristics_in w) k i (omega (arith, length-characteristics w)) (omega arith))
