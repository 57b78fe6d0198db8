-- Laws for the entries of an answer.
use Rattle.std.specs.Prelude.{Option, Some, None}
use Rattle.std.specs.List.{copy_within}
use Prim.Native.Nat.{ℕ, ◌+◌, ◌≤◌, ◌<◌}
use mathlib.Core.Path.{◌≡◌, sym, ap, ap₂, ◌∙◌}
use mathlib.Core.Bool.{Bool, true}
use mathlib.Core.List.{List, ◌∷◌, ◌++◌}
use native.Mathlib.Omega.{arith}
use lib.ListN.{length, take, drop, get_or, set, length-set}
use lib.Seq.{length-take-le}
use lib.Dec.{leb}
use borrow.Author.Tests.{le-leb, lt-leb}
use Rattle.lists.specs.Queue.{onto}
use Rattle.lists.specs.Taken.{Have, have}
use Rattle.lists.proofs.TableLaws.{onto-self, take-onto, set-in}
use Rattle.lists.proofs.TakenLaws.{Going, goes, no_place}
use Rattle.gatt_characteristics.specs.Characteristic.{Rising, place, enter, told, with-one, more, declaration_of, found_by, zero-characteristic}
use Rattle.gatt_characteristics.specs.declared.Characteristic.{Characteristic}
use Rattle.gatt_characteristics.specs.declared.Characteristics.{Characteristics}
use Rattle.gatt_characteristics.proofs.RisingLaws.{enter-rising}
use Rattle.gatt_characteristics.proofs.ArrayLaws.{enter-replaces, enter-inserts, length-inserts, opened}

-- ---- the list after what an entry tells

with_nothing : (l : List Characteristic) (x : Option Characteristic) → x ≡ None → with-one l x ≡ l
unfolding with-one
with_nothing l x e = rw e

with-entered : (l : List Characteristic) (x : Option Characteristic) (c : Characteristic) → x ≡ Some c → with-one l x ≡ enter c l
unfolding with-one
with-entered l x c e = rw e

pub with-one-rising : (l : List Characteristic) (x : Option Characteristic) → Rising l → Rising (with-one l x)
unfolding with-one
with-one-rising l None u = u
with-one-rising l (Some c) u = enter-rising c l u

-- ---- the loop over the entries

-- the answer at each way out
pub found-is : (t : Characteristics) (a : List Characteristic) (n last : ℕ) (f : Bool) (h : Have Characteristic) → h ≡ have (take n a) last f
    → a ≡ onto t.kept (take n a) → n ≤ 64 → length a ≡ 64
    → record { table = record { kept = a; count = n }; last = last; full = f } ≡ found_by t h
found-is t a n last f h e k l g =
    let c : length (take n a) ≡ n = length-take-le n a (omega arith) in
    ap₂ (λ (b : List Characteristic) (m : ℕ). record { table = record { kept = b; count = m }; last = last; full = f }) k (sym c)
    ∙ ap (found_by t) (sym e)

-- the entry e is the next, and tells x
module _ (len : ℕ) (whole : Have Characteristic) (a₀ a : List Characteristic) (n last : ℕ) (s e r : List ℕ)
    (i : Going more declaration_of 64 len whole a₀ a n last s) (u : Rising (take n a)) (es : s ≡ e ++ r) (five : 5 ≤ len) (le : length e ≡ len)
    (x : Option Characteristic) (ex : x ≡ told e) where
  size : length (take n a) ≡ n
  size = length-take-le n a (omega (arith, i.count, i.size))

  module _ (y : ℕ) (ey : y ≡ declaration_of e) where
    goes_on_lem : (m : List Characteristic) → m ≡ with-one (take n a) x → n ≤ length m → length m ≤ 64
        → (b : List Characteristic) (k : ℕ) → b ≡ onto a m → k ≡ length m
        → Going more declaration_of 64 len whole a₀ b k y r × Rising (take k b)
    goes_on_lem m em ln lm b k eb ek =
        rw (eb, ek) (
          goes more declaration_of 64 len a₀ whole a n last s i e r es (omega arith) le m (em ∙ ap (with-one (take n a)) ex)
              (omega (arith, size)) (le-leb (length m) 64 lm) y ey,
          rw (take-onto a m, em) (with-one-rising (take n a) x u),
        )

    -- the entry tells of none
    pub skips : x ≡ None → Going more declaration_of 64 len whole a₀ a n y r × Rising (take n a)
    skips q =
        goes_on_lem (take n a) (sym (with_nothing (take n a) x q)) (omega (arith, size)) (omega (arith, size, i.count)) a n
        (sym (onto-self a n (omega (arith, i.count, i.size)))) (sym size)

  module _ (c : Characteristic) (q : x ≡ Some c) (p : ℕ) (ep : p ≡ place c.declaration (take n a)) where
    entered : with-one (take n a) x ≡ enter c (take n a)
    entered = with-entered (take n a) x c q

    -- the place of the one with its declaration is replaced
    pub replaces : (y : ℕ) → y ≡ declaration_of e → p < n → (get_or a p zero-characteristic).declaration ≡ c.declaration
        → Going more declaration_of 64 len whole a₀ (set a p c) n y r × Rising (take n (set a p c))
    replaces y ey k d =
        let g : n ≤ length a = omega (arith, i.count, i.size) in
        let l : length (set (take n a) p c) ≡ n = length-set (take n a) p c ∙ size in
        goes_on_lem y ey (set (take n a) p c) (sym (entered ∙ enter-replaces a n c p g u ep k d)) (omega (arith, l)) (omega (arith, l, i.count))
        (set a p c) n (set-in a n p c g k) (sym l)

    module _ (new : p < n → (get_or a p zero-characteristic).declaration ≡ c.declaration → ⊥) where
      room : n ≤ length a
      room = omega (arith, i.count, i.size)

      -- it stands in its order
      pub inserts : (y : ℕ) → y ≡ declaration_of e → p ≤ n → n < 64
          → Going more declaration_of 64 len whole a₀ (set (copy_within a p n (p + 1)) p c) (n + 1) y r
          × Rising (take (n + 1) (set (copy_within a p n (p + 1)) p c))
      inserts y ey h k =
          let l = length-inserts a n c p room in
          goes_on_lem y ey (take p (take n a) ++ c ∷ drop p (take n a)) (sym (entered ∙ enter-inserts a n c p room u ep new))
          (omega (arith, l)) (omega (arith, l)) _ (n + 1) (opened a n p c h (omega (arith, i.size))) (sym l)

      -- it has no place
      pub stops : 64 ≤ n → whole ≡ have (take n a) last true
      stops k =
          no_place more declaration_of 64 len a₀ whole a n last s i e r es (omega arith) le
          (ap (λ (l : List Characteristic). leb (length l) 64)
          (ap (with-one (take n a)) (sym ex) ∙ entered ∙ enter-inserts a n c p room u ep new)
          ∙ lt-leb (length (take p (take n a) ++ c ∷ drop p (take n a))) 64 (omega (arith, length-inserts a n c p room)))
