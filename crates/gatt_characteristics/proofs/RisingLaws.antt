-- Laws of a rising list: what entering one does to it, and the test for it.
use Prim.Native.Nat.{ℕ, zero, suc, ◌≤◌, ◌<◌}
use mathlib.Core.Path.{◌≡◌, refl, ap}
use mathlib.Core.Bool.{Bool, true, false}
use mathlib.Core.List.{List, [], ◌∷◌, ◌++◌}
use native.Mathlib.Omega.{arith}
use lib.ListN.{length, take, drop, get_or, set}
use lib.Dec.{ltb, leb}
use borrow.Author.Tests.{lt-ltb, le-ltb, eq-eqb, ne_eqb, ltb-true, ltb-false, leb-true, le-leb}
use Rattle.std.specs.List.Sorted.{IsNonDecreasingBy, IsPartitionedBy, IsPartitionPoint}
use Rattle.std.proofs.lemmas.List.Sorted.{IsPartitionedBy-ltb}
use Rattle.bytes_base.specs.Choice.{pick}
use Rattle.gatt_characteristics.specs.Characteristic.{Up, Rising, place, up_from, without, put, enter}
use Rattle.gatt_characteristics.specs.declared.Characteristic.{Characteristic}

without-up : (n m : ℕ) (l : List Characteristic) → n < m → Up m l → without n l ≡ l
unfolding without
without-up n m [] h u = refl
without-up n m (x ∷ xs) h u =
    let e = without-up n (suc x.declaration) xs (omega (arith, u.0)) u.1 in
    rw (ne_eqb x.declaration n (λ p. omega (arith, u.0)), e)

pub put_up : (c : Characteristic) (m : ℕ) (l : List Characteristic) → c.declaration ≤ m → Up m l → put c l ≡ c ∷ l
unfolding put
put_up c m [] h u = refl
put_up c m (x ∷ xs) h u = rw (le-ltb x.declaration c.declaration (omega (arith, u.0)))

-- the three cases of the first element
enter-after : (c x : Characteristic) (xs : List Characteristic) → x.declaration < c.declaration → enter c (x ∷ xs) ≡ x ∷ enter c xs
unfolding enter put without
enter-after c x xs h = rw (ne_eqb x.declaration c.declaration (λ p. omega arith), lt-ltb x.declaration c.declaration h)

enter-same : (c x : Characteristic) (xs : List Characteristic) → x.declaration ≡ c.declaration → Up (suc x.declaration) xs → enter c (x ∷ xs) ≡ c ∷ xs
unfolding enter without
enter-same c x xs h u =
    rw (eq-eqb x.declaration c.declaration h, without-up c.declaration (suc x.declaration) xs (omega arith) u)
    (put_up c (suc x.declaration) xs (omega arith) u)

enter-before : (c x : Characteristic) (xs : List Characteristic) → c.declaration < x.declaration → Up (suc x.declaration) xs → enter c (x ∷ xs) ≡ c ∷ x ∷ xs
unfolding enter
enter-before c x xs h u =
    let v : Up x.declaration (x ∷ xs) = (omega arith, u) in
    rw (without-up c.declaration x.declaration (x ∷ xs) h v)
    (put_up c x.declaration (x ∷ xs) (omega arith) v)

data Order (a b : ℕ) : Type 0 where
  less : a < b → Order a b
  same : a ≡ b → Order a b
  more-than : b < a → Order a b

order : (a b : ℕ) → Order a b
order a b = go (ltb a b) refl (ltb b a) refl
  where
    go : (x : Bool) → ltb a b ≡ x → (y : Bool) → ltb b a ≡ y → Order a b
    go true e y f = less (ltb-true a b e)
    go false e true f = more-than (ltb-true b a f)
    go false e false f = same (omega (arith, ltb-false a b e, ltb-false b a f))

-- the list stays strictly rising
pub enter-up : (c : Characteristic) (m : ℕ) (l : List Characteristic) → m ≤ c.declaration → Up m l → Up m (enter c l)
unfolding enter put without
enter-up c m [] h u = (h, tt)
enter-up c m (x ∷ xs) h u = go (order x.declaration c.declaration) (λ k. enter-up c (suc x.declaration) xs k u.1)
  where
    go : Order x.declaration c.declaration → (suc x.declaration ≤ c.declaration → Up (suc x.declaration) (enter c xs)) → Up m (enter c (x ∷ xs))
    go (less p) ih = rw (enter-after c x xs p) (u.0, ih p)
    go (same p) ih = rw (enter-same c x xs p u.1) (h, rw (← p) u.1)
    go (more-than p) ih = rw (enter-before c x xs p u.1) (h, (p, u.1))

pub enter-rising : (c : Characteristic) (l : List Characteristic) → Rising l → Rising (enter c l)
enter-rising c l u = enter-up c 0 l (omega arith) u

-- at a known declaration the place is replaced
pub enter-known : (c d : Characteristic) (m : ℕ) (l : List Characteristic) → Up m l → place c.declaration l < length l
    → (get_or l (place c.declaration l) d).declaration ≡ c.declaration → enter c l ≡ set l (place c.declaration l) c
unfolding place
enter-known c d m [] u = λ h e. absurd (omega arith)
enter-known c d m (x ∷ xs) u = go (order x.declaration c.declaration) (enter-known c d (suc x.declaration) xs u.1)
  where
    go : Order x.declaration c.declaration
        → (place c.declaration xs < length xs → (get_or xs (place c.declaration xs) d).declaration ≡ c.declaration → enter c xs ≡ set xs (place c.declaration xs) c)
        → place c.declaration (x ∷ xs) < length (x ∷ xs)
        → (get_or (x ∷ xs) (place c.declaration (x ∷ xs)) d).declaration ≡ c.declaration
        → enter c (x ∷ xs) ≡ set (x ∷ xs) (place c.declaration (x ∷ xs)) c
    go (less p) ih =
        rw (lt-ltb x.declaration c.declaration p, enter-after c x xs p)
        (λ h e. ap (λ (l : List Characteristic). x ∷ l) (ih (omega arith) e))
    go (same p) ih = rw (le-ltb x.declaration c.declaration (omega arith)) (λ h e. enter-same c x xs p u.1)
    go (more-than p) ih = rw (le-ltb x.declaration c.declaration (omega arith)) (λ h e. absurd (omega arith))

-- at a new one it is put in between
pub enter-new : (c d : Characteristic) (m : ℕ) (l : List Characteristic) → Up m l
    → (place c.declaration l < length l → (get_or l (place c.declaration l) d).declaration ≡ c.declaration → ⊥)
    → enter c l ≡ take (place c.declaration l) l ++ c ∷ drop (place c.declaration l) l
unfolding place enter put without
enter-new c d m [] u = λ h. refl
enter-new c d m (x ∷ xs) u = go (order x.declaration c.declaration) (enter-new c d (suc x.declaration) xs u.1)
  where
    go : Order x.declaration c.declaration
        → ((place c.declaration xs < length xs → (get_or xs (place c.declaration xs) d).declaration ≡ c.declaration → ⊥)
        → enter c xs ≡ take (place c.declaration xs) xs ++ c ∷ drop (place c.declaration xs) xs)
        → (place c.declaration (x ∷ xs) < length (x ∷ xs) → (get_or (x ∷ xs) (place c.declaration (x ∷ xs)) d).declaration ≡ c.declaration → ⊥)
        → enter c (x ∷ xs) ≡ take (place c.declaration (x ∷ xs)) (x ∷ xs) ++ c ∷ drop (place c.declaration (x ∷ xs)) (x ∷ xs)
    go (less p) ih =
        rw (lt-ltb x.declaration c.declaration p, enter-after c x xs p)
        (λ h. ap (λ (l : List Characteristic). x ∷ l) (ih (λ a b. h (omega arith) b)))
    go (same p) ih = rw (le-ltb x.declaration c.declaration (omega arith)) (λ h. absurd (h (omega arith) p))
    go (more-than p) ih = rw (le-ltb x.declaration c.declaration (omega arith)) (λ h. enter-before c x xs p u.1)

-- ---- the place, as `partition_point` finds it

-- each is declared at m or after it
up_at : (d : Characteristic) (m : ℕ) (l : List Characteristic) (b : ℕ) → Up m l → b < length l → m ≤ (get_or l b d).declaration
up_at d m [] b u h = absurd (omega arith)
up_at d m (x ∷ xs) zero u h = u.0
up_at d m (x ∷ xs) (suc b) u h = let r = up_at d (suc x.declaration) xs b u.1 (omega arith) in omega (arith, u.0)

up_rises : (m : ℕ) (l : List Characteristic) → Up m l → IsNonDecreasingBy (λ (x : Characteristic). x.declaration) l
up_rises m [] u i j d h g = absurd (omega arith)
up_rises m (x ∷ xs) u zero zero d h g = omega arith
up_rises m (x ∷ xs) u zero (suc j) d h g = let r = up_at d (suc x.declaration) xs j u.1 (omega arith) in omega arith
up_rises m (x ∷ xs) u (suc i) zero d h g = absurd (omega arith)
up_rises m (x ∷ xs) u (suc i) (suc j) d h g = up_rises (suc x.declaration) xs u.1 i j d (omega arith) (omega arith)

-- those below n come first
pub parted : (n : ℕ) (l : List Characteristic) → Rising l → IsPartitionedBy (λ (x : Characteristic). ltb x.declaration n) l
parted n l u = IsPartitionedBy-ltb (λ (x : Characteristic). x.declaration) l n (up_rises 0 l u)

-- and the place is where they end
pub place-is : (n : ℕ) (l : List Characteristic) (i : ℕ) → i ≤ length l
    → IsPartitionPoint (λ (x : Characteristic). ltb x.declaration n ≡ true) (λ (x : Characteristic). ltb x.declaration n ≡ false) l i → i ≡ place n l
unfolding place
place-is n [] i h s = omega arith
place-is n (x ∷ xs) zero h s = rw (s.1 0 x (omega arith) (omega arith)) refl
place-is n (x ∷ xs) (suc i) h s =
    rw (s.0 0 x (omega arith) (omega arith))
    (ap suc (place-is n xs i (omega arith) ((λ k d a b. s.0 (suc k) d (omega arith) (omega arith)), (λ k d a b. s.1 (suc k) d (omega arith) (omega arith)))))

-- ---- the test for a rising list

pub up_of : (n : ℕ) (l : List Characteristic) → up_from n l ≡ true → Up n l
unfolding up_from
up_of n [] = λ e. tt
up_of n (x ∷ xs) = go (leb n x.declaration) refl (up_of (suc x.declaration) xs)
  where
    go : (b : Bool) → leb n x.declaration ≡ b → (up_from (suc x.declaration) xs ≡ true → Up (suc x.declaration) xs)
        → pick b (up_from (suc x.declaration) xs) false ≡ true → Up n (x ∷ xs)
    go true e ih f = (leb-true n x.declaration e, ih f)
    go false e ih f = absurd (let z : ◌≡◌ {A = ℕ} 0 1 = cc in omega arith)

pub of-up : (n : ℕ) (l : List Characteristic) → Up n l → up_from n l ≡ true
unfolding up_from
of-up n [] u = refl
of-up n (x ∷ xs) u = rw (le-leb n x.declaration u.0) (of-up (suc x.declaration) xs u.1)
