-- Laws of the last characteristic with its value handle below a CCCD.
use Prim.Native.Nat.{ℕ, zero, suc, ◌+◌, ◌≤◌, ◌<◌}
use mathlib.Core.Path.{◌≡◌, refl, sym, ap, ◌∙◌}
use mathlib.Core.Bool.{Bool, true, false}
use mathlib.Core.List.{List, [], ◌∷◌}
use native.Mathlib.Numerals.{add-one}
use native.Mathlib.Omega.{arith}
use lib.ListN.{length, take, drop, get_or, set, length-set}
use lib.Seq.{get_or-take, length-take-le}
use lib.Dec.{ltb}
use borrow.Author.Tests.{lt-ltb, le-ltb}
use Rattle.bytes_base.specs.Choice.{pick}
use Rattle.lists.specs.First.{first}
use Rattle.lists.proofs.TableLaws.{here, past, set-in}
use Rattle.gatt_characteristics.specs.Characteristic.{known, holding, zero-characteristic}
use Rattle.gatt_characteristics.specs.declared.Characteristic.{Characteristic}
use Rattle.gatt_characteristics.specs.declared.Characteristics.{Characteristics}
use Rattle.gatt_characteristics.proofs.Keeps.{holding-known}
use Rattle.gatt_descriptors.specs.Named.{marked, below, give}

-- ---- laws of the list

below_at : (h : ℕ) (l : List Characteristic) (j : ℕ) → j < length l → (get_or l j zero-characteristic).value_handle < h → below h l ≡ true
unfolding first
below_at h [] j p q = absurd (omega arith)
below_at h (x ∷ xs) zero p q = rw (lt-ltb x.value_handle h q)
below_at h (x ∷ xs) (suc j) p q = rw (below_at h xs j (omega arith) q) (go (ltb x.value_handle h))
  where
    go : (b : Bool) → pick b true true ≡ true
    go true = refl
    go false = refl

pub give-hit : (h : ℕ) (l : List Characteristic) (j : ℕ) → j < length l → below h (drop (suc j) l) ≡ false → (get_or l j zero-characteristic).value_handle < h
    → give h l ≡ set l j (marked h (get_or l j zero-characteristic))
unfolding give
give-hit h [] j p n q = absurd (omega arith)
give-hit h (x ∷ xs) zero p n q = rw (n, lt-ltb x.value_handle h q)
give-hit h (x ∷ xs) (suc j) p n q =
    let p' : j < length xs = omega arith in
    rw (below_at h xs j p' q) (ap (λ (l : List Characteristic). x ∷ l) (give-hit h xs j p' n q))

pub give-none : (h : ℕ) (l : List Characteristic) → below h l ≡ false → give h l ≡ l
unfolding give first
give-none h [] n = refl
give-none h (x ∷ xs) n = go (ltb x.value_handle h) (below h xs) n
  where
    go : (a b : Bool) → pick a true b ≡ false → pick b (x ∷ give h xs) (pick a (marked h x ∷ xs) (x ∷ xs)) ≡ x ∷ xs
    go true b e = absurd (let z : ◌≡◌ {A = ℕ} 0 1 = cc in omega arith)
    go false true e = absurd (let z : ◌≡◌ {A = ℕ} 0 1 = cc in omega arith)
    go false false e = refl

pub length-give : (h : ℕ) (l : List Characteristic) → length (give h l) ≡ length l
unfolding give
length-give h [] = refl
length-give h (x ∷ xs) = go (below h xs) (ltb x.value_handle h) (length-give h xs)
  where
    go : (a b : Bool) → length (give h xs) ≡ length xs → length (pick a (x ∷ give h xs) (pick b (marked h x ∷ xs) (x ∷ xs))) ≡ length (x ∷ xs)
    go true b e = ap suc e
    go false true e = refl
    go false false e = refl

-- ---- laws of the search from the end

module _ (h : ℕ) (a : List Characteristic) (c : ℕ) (k : c ≤ length a) where
  pub below-start : below h (drop c (take c a)) ≡ false
  unfolding first
  below-start = ap (below h) (past zero-characteristic a c c k (omega arith))

  pub below-pass : (j : ℕ) → j < c → below h (drop (j + 1) (take c a)) ≡ false → h ≤ (get_or a j zero-characteristic).value_handle
      → below h (drop j (take c a)) ≡ false
  unfolding first
  below-pass j g n q = rw (here zero-characteristic a c j k g, le-ltb (get_or a j zero-characteristic).value_handle h q) n

pub give-here : (h : ℕ) (t : Characteristics) (j : ℕ) → j < t.count → t.count ≤ 64 → length t.kept ≡ 64
    → below h (drop (j + 1) (known t)) ≡ false → (get_or t.kept j zero-characteristic).value_handle < h
    → record { kept = set t.kept j (marked h (get_or t.kept j zero-characteristic)); count = t.count } ≡ holding t (give h (known t))
give-here h t j g c k n q =
    let l = length-take-le t.count t.kept (omega arith) in
    let e : get_or (known t) j zero-characteristic ≡ get_or t.kept j zero-characteristic = get_or-take t.count t.kept j zero-characteristic g in
    let w : give h (known t) ≡ set (known t) j (marked h (get_or t.kept j zero-characteristic)) =
    give-hit h (known t) j (omega arith) (rw (← add-one j) n) (rw e q) ∙ ap (λ (x : Characteristic). set (known t) j (marked h x)) e in
    rw (w, ← set-in t.kept t.count j (marked h (get_or t.kept j zero-characteristic)) (omega arith) g, length-set (known t) j (marked h (get_or t.kept j zero-characteristic)), l)

-- in the loop's table, which is still the first
pub give-at : (h : ℕ) (t u : Characteristics) (j : ℕ) (x : Characteristic) → u ≡ t → j < t.count → t.count ≤ 64 → length t.kept ≡ 64
    → below h (drop (j + 1) (known u)) ≡ false → (get_or u.kept j zero-characteristic).value_handle < h
    → x ≡ marked h (get_or u.kept j zero-characteristic) → record { kept = set u.kept j x; count = u.count } ≡ holding t (give h (known t))
give-at h t u j x e g c k n q ex =
    ap (λ (y : Characteristic). record { kept = set u.kept j y; count = u.count }) ex
    ∙ ap (λ (v : Characteristics). record { kept = set v.kept j (marked h (get_or v.kept j zero-characteristic)); count = v.count }) e
    ∙ give-here h t j g c k (rw e at n) (rw e at q)

pub give-nowhere : (h : ℕ) (t : Characteristics) → t.count ≤ 64 → length t.kept ≡ 64 → below h (known t) ≡ false
    → t ≡ holding t (give h (known t))
give-nowhere h t c k n = rw (give-none h (known t) n) (sym (holding-known t c k))
