-- The Rust's way (specs/Rust) leaves the list that the table holds.
use Rattle.std.specs.Prelude.{Option, Some, None}
use Prim.Native.Nat.{ℕ, suc, ◌≤◌}
use mathlib.Core.Path.{◌≡◌, refl, sym, ap, ◌∙◌}
use mathlib.Core.Bool.{Bool, true, false}
use mathlib.Core.List.{List, [], ◌∷◌, ◌++◌}
use native.Mathlib.Omega.{arith}
use lib.ListN.{length}
use lib.Dec.{eqb, ltb, leb}
use borrow.Author.Tests.{lt-ltb, le-ltb, eq-eqb, ne_eqb, ltb-true, ltb-false, eqb-true, eqb-false}
use Rattle.bytes_base.specs.Choice.{pick}
use Rattle.lists.specs.Taken.{Have, have, taken}
use Rattle.gatt_characteristics.specs.Characteristic.{Up, Rising, without, put, enter, told, with-one, more, declaration_of}
use Rattle.gatt_characteristics.specs.Rust.{sorted, pushed, and_then, told_all}
use Rattle.gatt_characteristics.specs.declared.Characteristic.{Characteristic}
use Rattle.gatt_characteristics.proofs.RisingLaws.{put_up}

-- each entered in turn
enter_all : List Characteristic → List Characteristic → List Characteristic
enter_all l [] = l
enter_all l (c ∷ cs) = enter_all (enter c l) cs

-- ---- weakly rising lists

-- rising from n on, equals allowed
abbrev Weak : ℕ → List Characteristic → Type 0
Weak n [] = Unit
Weak n (x ∷ xs) = (n ≤ x.declaration) × Weak x.declaration xs

weak_less : (m n : ℕ) (l : List Characteristic) → m ≤ n → Weak n l → Weak m l
weak_less m n [] h u = tt
weak_less m n (x ∷ xs) h u = (omega (arith, u.0), u.1)

put_front : (c : Characteristic) (l : List Characteristic) → Weak c.declaration l → put c l ≡ c ∷ l
unfolding put
put_front c [] u = refl
put_front c (x ∷ xs) u = rw (le-ltb x.declaration c.declaration u.0)

put-weak : (c : Characteristic) (m : ℕ) (l : List Characteristic) → m ≤ c.declaration → Weak m l → Weak m (put c l)
unfolding put
put-weak c m [] h u = (h, tt)
put-weak c m (x ∷ xs) h u = go (ltb x.declaration c.declaration) refl (λ k. put-weak c x.declaration xs k u.1)
  where
    go : (b : Bool) → ltb x.declaration c.declaration ≡ b → (x.declaration ≤ c.declaration → Weak x.declaration (put c xs))
        → Weak m (pick b (x ∷ put c xs) (c ∷ x ∷ xs))
    go true e ih = (u.0, ih (omega (arith, ltb-true x.declaration c.declaration e)))
    go false e ih = (h, (ltb-false x.declaration c.declaration e, u.1))

sorted-weak : (l : List Characteristic) → Weak 0 (sorted l)
unfolding sorted
sorted-weak [] = tt
sorted-weak (x ∷ xs) = put-weak x 0 (sorted xs) (omega arith) (sorted-weak xs)

without-weak : (n m : ℕ) (l : List Characteristic) → Weak m l → Weak m (without n l)
unfolding without
without-weak n m [] u = tt
without-weak n m (x ∷ xs) u = go (eqb x.declaration n) (without-weak n x.declaration xs u.1)
  where
    go : (b : Bool) → Weak x.declaration (without n xs) → Weak m (pick b (without n xs) (x ∷ without n xs))
    go true ih = weak_less m x.declaration (without n xs) u.0 ih
    go false ih = (u.0, ih)

-- ---- how the two operations meet

without-put-same : (n : ℕ) (x : Characteristic) (l : List Characteristic) → x.declaration ≡ n → without n (put x l) ≡ without n l
unfolding without put
without-put-same n x [] e = rw (eq-eqb x.declaration n e)
without-put-same n x (y ∷ ys) e = go (ltb y.declaration x.declaration) (without-put-same n x ys e)
  where
    go : (b : Bool) → without n (put x ys) ≡ without n ys
        → without n (pick b (y ∷ put x ys) (x ∷ y ∷ ys)) ≡ without n (y ∷ ys)
    go true ih = ap (λ (l : List Characteristic). pick (eqb y.declaration n) l (y ∷ l)) ih
    go false ih = rw (eq-eqb x.declaration n e)

without-put-other : (n m : ℕ) (x : Characteristic) (l : List Characteristic) → (x.declaration ≡ n → ⊥) → Weak m l
    → without n (put x l) ≡ put x (without n l)
unfolding without put
without-put-other n m x [] e u = rw (ne_eqb x.declaration n e)
without-put-other n m x (y ∷ ys) e u =
    go (ltb y.declaration x.declaration) refl (eqb y.declaration n) refl (without-put-other n y.declaration x ys e u.1)
  where
    go : (b : Bool) → ltb y.declaration x.declaration ≡ b → (d : Bool) → eqb y.declaration n ≡ d
        → without n (put x ys) ≡ put x (without n ys)
        → without n (pick b (y ∷ put x ys) (x ∷ y ∷ ys)) ≡ put x (pick d (without n ys) (y ∷ without n ys))
    go true p true q ih = rw q ih
    go true p false q ih = rw (q, p) (ap (λ (l : List Characteristic). y ∷ l) ih)
    go false p d q ih =
        rw (ne_eqb x.declaration n e)
        (sym (ap (λ (t : Bool). put x (pick t (without n ys) (y ∷ without n ys))) (sym q)
        ∙ put_front x (without n (y ∷ ys)) (without-weak n x.declaration (y ∷ ys) (ltb-false y.declaration x.declaration p, u.1))))

put-put : (a b : Characteristic) (l : List Characteristic) → (a.declaration ≡ b.declaration → ⊥) → put a (put b l) ≡ put b (put a l)
unfolding put
put-put a b [] n = go (ltb a.declaration b.declaration) refl (ltb b.declaration a.declaration) refl
  where
    go : (p : Bool) → ltb a.declaration b.declaration ≡ p → (q : Bool) → ltb b.declaration a.declaration ≡ q
        → pick q (b ∷ a ∷ []) (a ∷ b ∷ []) ≡ pick p (a ∷ b ∷ []) (b ∷ a ∷ [])
    go true e true f = absurd (omega (arith, ltb-true a.declaration b.declaration e, ltb-true b.declaration a.declaration f))
    go true e false f = refl
    go false e true f = refl
    go false e false f = absurd (n (omega (arith, ltb-false a.declaration b.declaration e, ltb-false b.declaration a.declaration f)))
put-put a b (y ∷ ys) n =
    go (ltb y.declaration a.declaration) refl (ltb y.declaration b.declaration) refl
    (ltb a.declaration b.declaration) refl (ltb b.declaration a.declaration) refl (put-put a b ys n)
  where
    go : (s : Bool) → ltb y.declaration a.declaration ≡ s → (t : Bool) → ltb y.declaration b.declaration ≡ t
        → (p : Bool) → ltb a.declaration b.declaration ≡ p → (q : Bool) → ltb b.declaration a.declaration ≡ q
        → put a (put b ys) ≡ put b (put a ys)
        → put a (pick t (y ∷ put b ys) (b ∷ y ∷ ys)) ≡ put b (pick s (y ∷ put a ys) (a ∷ y ∷ ys))
    go true e₁ true e₂ p e₃ q e₄ ih = rw (e₁, e₂) (ap (λ (l : List Characteristic). y ∷ l) ih)
    go true e₁ false e₂ p e₃ q e₄ ih =
        let k : ltb b.declaration a.declaration ≡ true =
        lt-ltb b.declaration a.declaration (omega (arith, ltb-true y.declaration a.declaration e₁, ltb-false y.declaration b.declaration e₂)) in
        rw (k, e₁, e₂)
    go false e₁ true e₂ p e₃ q e₄ ih =
        let k : ltb a.declaration b.declaration ≡ true =
        lt-ltb a.declaration b.declaration (omega (arith, ltb-false y.declaration a.declaration e₁, ltb-true y.declaration b.declaration e₂)) in
        rw (k, e₁, e₂)
    go false e₁ false e₂ true e₃ true e₄ ih = absurd (omega (arith, ltb-true a.declaration b.declaration e₃, ltb-true b.declaration a.declaration e₄))
    go false e₁ false e₂ true e₃ false e₄ ih = rw (e₃, e₄, e₂)
    go false e₁ false e₂ false e₃ true e₄ ih = rw (e₃, e₄, e₁)
    go false e₁ false e₂ false e₃ false e₄ ih =
        absurd (n (omega (arith, ltb-false a.declaration b.declaration e₃, ltb-false b.declaration a.declaration e₄)))

-- ---- the theorem

sorted-without : (n : ℕ) (l : List Characteristic) → sorted (without n l) ≡ without n (sorted l)
unfolding sorted without
sorted-without n [] = refl
sorted-without n (x ∷ xs) = go (eqb x.declaration n) refl (sorted-without n xs)
  where
    go : (b : Bool) → eqb x.declaration n ≡ b → sorted (without n xs) ≡ without n (sorted xs)
        → sorted (pick b (without n xs) (x ∷ without n xs)) ≡ without n (put x (sorted xs))
    go true e ih = ih ∙ sym (without-put-same n x (sorted xs) (eqb-true x.declaration n e))
    go false e ih = ap (put x) ih ∙ sym (without-put-other n 0 x (sorted xs) (eqb-false x.declaration n e) (sorted-weak xs))

sorted-push : (c : Characteristic) (l : List Characteristic) → sorted (without c.declaration l ++ (c ∷ [])) ≡ put c (sorted (without c.declaration l))
unfolding sorted without
sorted-push c [] = refl
sorted-push c (x ∷ xs) = go (eqb x.declaration c.declaration) refl (sorted-push c xs)
  where
    go : (b : Bool) → eqb x.declaration c.declaration ≡ b
        → sorted (without c.declaration xs ++ (c ∷ [])) ≡ put c (sorted (without c.declaration xs))
        → sorted (pick b (without c.declaration xs) (x ∷ without c.declaration xs) ++ (c ∷ []))
        ≡ put c (sorted (pick b (without c.declaration xs) (x ∷ without c.declaration xs)))
    go true e ih = ih
    go false e ih = ap (put x) ih ∙ put-put x c (sorted (without c.declaration xs)) (eqb-false x.declaration c.declaration e)

sorted-pushed : (l cs : List Characteristic) → sorted (pushed l cs) ≡ enter_all (sorted l) cs
unfolding pushed enter_all enter
sorted-pushed l [] = refl
sorted-pushed l (c ∷ cs) =
    sorted-pushed (without c.declaration l ++ (c ∷ [])) cs
    ∙ ap (λ (k : List Characteristic). enter_all k cs) (sorted-push c l ∙ ap (put c) (sorted-without c.declaration l))

sorted-rising : (m : ℕ) (l : List Characteristic) → Up m l → sorted l ≡ l
unfolding sorted
sorted-rising m [] u = refl
sorted-rising m (x ∷ xs) u =
    ap (put x) (sorted-rising (suc x.declaration) xs u.1) ∙ put_up x (suc x.declaration) xs (omega arith) u.1

more-enters : (l : List Characteristic) (x : Option Characteristic) (cs : List Characteristic) → enter_all (with-one l x) cs ≡ enter_all l (and_then x cs)
unfolding enter_all with-one
more-enters l (Some c) cs = refl
more-enters l None cs = refl

taken-enters : (l : List Characteristic) (last : ℕ) (es : List (List ℕ)) → (taken more declaration_of 64 l last es).full ≡ false
    → (taken more declaration_of 64 l last es).list ≡ enter_all l (told_all es)
unfolding taken told_all enter_all
taken-enters l last [] = λ f. refl
taken-enters l last (e ∷ es) = λ f. go (leb (length (more l e)) 64) f (taken-enters (more l e) (declaration_of e) es)
  where
    go : (b : Bool) → (pick {A = Have Characteristic} b (taken more declaration_of 64 (more l e) (declaration_of e) es) (have l last true)).full ≡ false
        → ((taken more declaration_of 64 (more l e) (declaration_of e) es).full ≡ false → (taken more declaration_of 64 (more l e) (declaration_of e) es).list ≡ enter_all (more l e) (told_all es))
        → (pick {A = Have Characteristic} b (taken more declaration_of 64 (more l e) (declaration_of e) es) (have l last true)).list ≡ enter_all l (and_then (told e) (told_all es))
    go true f ih = ih f ∙ more-enters l (told e) (told_all es)
    go false f ih = absurd (let z : ◌≡◌ {A = ℕ} 0 1 = cc in omega arith)

-- where the table isn't full, it holds what the Rust's list is after the sort
pub as-rust : (l : List Characteristic) (last : ℕ) (es : List (List ℕ)) → Rising l → (taken more declaration_of 64 l last es).full ≡ false
    → (taken more declaration_of 64 l last es).list ≡ sorted (pushed l (told_all es))
as-rust l last es u f =
    taken-enters l last es f ∙ ap (λ (k : List Characteristic). enter_all k (told_all es)) (sym (sorted-rising 0 l u)) ∙ sym (sorted-pushed l (told_all es))
