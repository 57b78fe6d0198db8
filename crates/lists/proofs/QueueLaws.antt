-- Laws of queues in an array: what a store behind the live places and a shift are, in terms of the list that is kept.
use Prim.Native.Nat.{ℕ, suc, ◌+◌, ◌-◌, ◌≤◌, ◌<◌, min}
use mathlib.Core.Path.{◌≡◌, refl, sym, ap, ◌∙◌}
use mathlib.Core.Bool.{Bool, true}
use mathlib.Core.List.{List, [], ◌∷◌, ◌++◌, append-nil}
use native.Mathlib.Numerals.{add-one}
use native.Mathlib.Omega.{arith}
use lib.ListN.{length, take, drop, get_or, set, length-append, length-drop, drop_of_length-le}
use lib.Seq.{drop-drop, get_or-drop, take_all, take-nil, take_at, drop_at, take-suc, drop-cons, set_at, set_split, append_snoc, drop-append-le, length-take-le}
use Rattle.lists.specs.Queue.{newest, pushed, onto, shifted, all}
use Rattle.lists.proofs.ScanLaws.{all_append, all_cons, all_drop}

module _ {A : Type 0} where
  -- ---- the newest

  pub newest-few : (most : ℕ) (l : List A) → length l ≤ most → newest most l ≡ l
  unfolding newest
  newest-few most l h = let e : length l - most ≡ 0 = omega arith in ap (λ (k : ℕ). drop k l) e

  pub length-newest : (most : ℕ) (l : List A) → length (newest most l) ≡ min (length l) most
  unfolding newest
  length-newest most l = length-drop (length l - most) l ∙ omega arith

  pub all-newest : (f : A → Bool) (most : ℕ) (l : List A) → all f l ≡ true → all f (newest most l) ≡ true
  unfolding newest
  all-newest f most l e = all_drop f (length l - most) l e

  -- the newest of the newest, and of what comes after them: what is kept of a log that grows
  pub newest-append : (most : ℕ) (l m : List A) → newest most (newest most l ++ m) ≡ newest most (l ++ m)
  unfolding newest
  newest-append most l m =
      let k : ℕ = length l - most in
      let e : drop k l ++ m ≡ drop k (l ++ m) = sym (drop-append-le k l m (omega arith)) in
      let n : k + (length (drop k l ++ m) - most) ≡ length (l ++ m) - most =
      omega (arith, length-append (drop k l) m, length-drop k l, length-append l m) in
      ap (drop (length (drop k l ++ m) - most)) e
      ∙ drop-drop (length (drop k l ++ m) - most) k (l ++ m)
      ∙ ap (λ (j : ℕ). drop j (l ++ m)) n

  -- ---- one more

  length-snoc : (l : List A) (x : A) → length (l ++ (x ∷ [])) ≡ length l + 1
  length-snoc l x = length-append l (x ∷ [])

  pub pushed_room : (most : ℕ) (l : List A) (x : A) → length l < most → pushed most l x ≡ l ++ (x ∷ [])
  pushed_room most l x h = newest-few most (l ++ (x ∷ [])) (omega (arith, length-snoc l x))

  pub pushed-full : (most : ℕ) (l : List A) (x : A) → length l ≡ most → 0 < most → pushed most l x ≡ drop 1 l ++ (x ∷ [])
  unfolding newest
  pushed-full most l x h g =
      let e : length (l ++ (x ∷ [])) - most ≡ 1 = omega (arith, length-snoc l x) in
      ap (λ (k : ℕ). drop k (l ++ (x ∷ []))) e ∙ drop-append-le 1 l (x ∷ []) (omega arith)

  -- a queue that has the newest of a log has the newest of the longer log
  pub pushed-newest : (most : ℕ) (l : List A) (x : A) → pushed most (newest most l) x ≡ newest most (l ++ (x ∷ []))
  pushed-newest most l x = newest-append most l (x ∷ [])

  pub length-pushed : (most : ℕ) (l : List A) (x : A) → length (pushed most l x) ≡ min (length l + 1) most
  length-pushed most l x = length-newest most (l ++ (x ∷ [])) ∙ ap (λ (k : ℕ). min k most) (length-snoc l x)

  pub pushed-within : (most : ℕ) (l : List A) (x : A) → length (pushed most l x) ≤ most
  pushed-within most l x = omega (arith, length-pushed most l x)

  pub all-pushed : (f : A → Bool) (most : ℕ) (l : List A) (x : A) → all f l ≡ true → f x ≡ true → all f (pushed most l x) ≡ true
  unfolding all
  all-pushed f most l x e g = all-newest f most (l ++ (x ∷ [])) (all_append f l (x ∷ []) e (all_cons f x [] g refl))

  -- ---- a list in an array

  pub take-onto : (a l : List A) → take (length l) (onto a l) ≡ l
  take-onto a l = take_at l (drop (length l) a) (length l) refl

  pub length-onto : (a l : List A) → length l ≤ length a → length (onto a l) ≡ length a
  length-onto a l h = length-append l (drop (length l) a) ∙ omega (arith, length-drop (length l) a)

  -- ---- a shift, place by place

  pub shifted-zero : (a : List A) → a ≡ shifted a 0
  unfolding shifted
  shifted-zero a = refl

  length_moved : (a : List A) (n : ℕ) → n < length a → length (take n (drop 1 a)) ≡ n
  length_moved a n h = length-take-le n (drop 1 a) (simp length-drop (omega arith))

  pub length-shifted : (a : List A) (n : ℕ) → n < length a → length (shifted a n) ≡ length a
  unfolding shifted
  length-shifted a n h =
      length-append (take n (drop 1 a)) (drop n a) ∙ omega (arith, length_moved a n h, length-drop n a)

  -- the places from n on are as they were
  pub drop-shifted : (a : List A) (n : ℕ) → n < length a → drop n (shifted a n) ≡ drop n a
  unfolding shifted
  drop-shifted a n h = drop_at (take n (drop 1 a)) (drop n a) n (length_moved a n h)

  pub shifted-suc : (a : List A) (n : ℕ) (z : A) → n + 1 < length a
      → set (shifted a n) n (get_or (shifted a n) (n + 1) z) ≡ shifted a (n + 1)
  unfolding shifted
  shifted-suc a n z h =
      let t : List A = take n (drop 1 a) in
      let b : List A = drop (suc n) a in
      let e : n + 1 ≡ 1 + n = omega arith in
      let g : get_or (t ++ drop n a) (n + 1) z ≡ get_or (drop 1 a) n z =
      sym (get_or-drop n (t ++ drop n a) 1 z)
      ∙ ap (λ (k : List A). get_or k 1 z) (drop-shifted a n (omega arith))
      ∙ get_or-drop n a 1 z
      ∙ ap (λ (m : ℕ). get_or a m z) e
      ∙ sym (get_or-drop 1 a n z) in
      ap (λ (v : A). set (t ++ drop n a) n v) g
      ∙ ap (λ (k : List A). set (t ++ k) n (get_or (drop 1 a) n z)) (drop-cons a n z (omega arith))
      ∙ set_at t (get_or a n z) b (get_or (drop 1 a) n z) n (length_moved a n (omega arith))
      ∙ sym (append_snoc t (get_or (drop 1 a) n z) b)
      ∙ ap (λ (k : List A). k ++ b) (sym (take-suc (drop 1 a) n z (simp length-drop (omega arith))))
      ∙ ap (λ (k : ℕ). take k (drop 1 a) ++ drop k a) (sym (add-one n))

  -- ---- what the code does to the array, and what that is of the list in its first c places

  -- a store behind c others
  pub set_room : (a : List A) (most c : ℕ) (x : A) → length a ≡ most → c < most → set a c x ≡ onto a (pushed most (take c a) x)
  set_room a most c x e h =
      let t : length (take c a) ≡ c = length-take-le c a (omega arith) in
      let n : suc c ≡ length (take c a ++ (x ∷ [])) = omega (arith, length-snoc (take c a) x) in
      rw (pushed_room most (take c a) x (omega arith))
      (set_split a c x (omega arith)
      ∙ sym (append_snoc (take c a) x (drop (suc c) a))
      ∙ ap (λ (k : ℕ). (take c a ++ (x ∷ [])) ++ drop k a) n)

  pub count_room : (a : List A) (most c : ℕ) (x : A) → length a ≡ most → c < most → c + 1 ≡ length (pushed most (take c a) x)
  count_room a most c x e h = omega (arith, length-pushed most (take c a) x, length-take-le c a (omega arith))

  -- a shift of the whole array, and a store in its last place
  pub renew : (a : List A) (most : ℕ) (x : A) → length a ≡ most → 0 < most → set (shifted a (most - 1)) (most - 1) x ≡ drop 1 a ++ (x ∷ [])
  unfolding shifted
  renew a most x e h =
      let k : ℕ = most - 1 in
      let d : length (drop 1 a) ≡ k = length-drop 1 a ∙ omega arith in
      let l : length (shifted a k) ≡ most = length-shifted a k (omega arith) ∙ e in
      set_split (shifted a k) k x (omega arith)
      ∙ ap (λ (t : List A). t ++ (x ∷ drop (suc k) (shifted a k))) (take_at (take k (drop 1 a)) (drop k a) k (length_moved a k (omega arith)) ∙ take_all k (drop 1 a) (omega arith))
      ∙ ap (λ (t : List A). drop 1 a ++ (x ∷ t)) (drop_of_length-le (shifted a k) {i = suc k} (omega arith))

  pub set_full : (a : List A) (most c : ℕ) (x : A) → length a ≡ most → 0 < most → most ≤ c → set (shifted a (most - 1)) (most - 1) x ≡ onto a (pushed most (take c a) x)
  set_full a most c x e h g =
      let n : length a ≤ length (drop 1 a ++ (x ∷ [])) = omega (arith, length-snoc (drop 1 a) x, length-drop 1 a) in
      rw (take_all c a (omega arith), pushed-full most a x e h, drop_of_length-le a {i = length (drop 1 a ++ (x ∷ []))} n)
      (renew a most x e h ∙ sym (append-nil (drop 1 a ++ (x ∷ []))))

  pub count-full : (a : List A) (most c : ℕ) (x : A) → length a ≡ most → most ≤ c → most ≡ length (pushed most (take c a) x)
  count-full a most c x e g = rw (take_all c a (omega arith)) (omega (arith, length-pushed most a x))

  -- ---- the first taken away

  take-tail : (a : List A) (c : ℕ) → take c (drop 1 a) ≡ drop 1 (take (suc c) a)
  take-tail [] c = take-nil c
  take-tail (x ∷ a) c = refl

  pub rest_live : (a : List A) (c : ℕ) → 0 < c → take (c - 1) (drop 1 a) ≡ drop 1 (take c a)
  rest_live a c h = let e : suc (c - 1) ≡ c = omega arith in take-tail a (c - 1) ∙ ap (λ (k : ℕ). drop 1 (take k a)) e

  -- a shift of the live places alone leaves the others
  pub shifted-live : (a : List A) (c : ℕ) → 0 < c → c ≤ length a → shifted a (c - 1) ≡ onto a (drop 1 (take c a))
  unfolding shifted
  shifted-live a c h g =
      let n : length (drop 1 (take c a)) ≡ c - 1 = length-drop 1 (take c a) ∙ omega (arith, length-take-le c a g) in
      rw n (ap (λ (t : List A). t ++ drop (c - 1) a) (rest_live a c h))
