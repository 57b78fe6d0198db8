-- Laws of values in blocks: what is read of the store after a value is put, and after the first block is gone.
use Prim.Native.Nat.{ℕ, zero, suc, ◌+◌, ◌*◌, ◌-◌, ◌≤◌, ◌<◌}
use mathlib.Core.Path.{◌≡◌, refl, sym, ap, ap₂, ◌∙◌}
use mathlib.Core.Bool.{Bool, true, false, ◌&&◌}
use mathlib.Core.List.{List, [], ◌∷◌, ◌++◌, append_assoc}
use mathlib.Core.Logic.{◌⊎◌, ⊎_elim}
use native.Mathlib.Numerals.{add-one}
use native.Mathlib.Nat.{mul-zero, mul-one, mul-suc, mul-le-mul_left}
use native.Mathlib.Omega.{arith}
use lib.ListN.{length, take, drop, get_or, drop_of_length-le, length-drop, take-append-drop}
use lib.Seq.{paste, drop-paste, length-take-le, take-append-le, drop-append-le, drop_at, drop-drop}
use lib.Dec.{ltb, leb}
use borrow.Author.Tests.{leb-true, lt-ltb, le-ltb, ltb-true, ltb-false}
use Rattle.bytes_base.specs.Choice.{pick}
use Rattle.bytes_base.specs.Splice.{splice, moved}
use Rattle.bytes_base.proofs.SpliceLaws.{splice-in, length-splice, length_moved, moved_down}
use Rattle.lists.specs.Queue.{pushed}
use Rattle.lists.proofs.QueueLaws.{pushed_room, pushed-full}
use Rattle.lists.proofs.ScanLaws.{rest-cons, all_head, all_tail, all_drop}
use Rattle.lists.specs.Blocks.{Part, place, bytes, Valued, valued, fitting, lowered, stored}

-- ---- what is read after a write of bytes

front : (p q : List ℕ) (a n : ℕ) → a + n ≤ length p → bytes (p ++ q) a n ≡ bytes p a n
front p q a n h =
    ap (take n) (drop-append-le a p q (omega arith)) ∙ take-append-le n (drop a p) q (simp length-drop (omega arith))

front_of : (d : List ℕ) (k a n : ℕ) → a + n ≤ k → k ≤ length d → bytes (take k d) a n ≡ bytes d a n
front_of d k a n h g =
    sym (front (take k d) (drop k d) a n (omega (arith, length-take-le k d g)))
    ∙ ap (λ (l : List ℕ). bytes l a n) (take-append-drop k d)

-- a splice is what it was, or has the bytes
splice-by : (d : List ℕ) (at : ℕ) (s : List ℕ) (from m : ℕ) (P : List ℕ → Type 0) → P d
    → (at + m ≤ length d → from + m ≤ length s → P (paste d at (drop from s) m)) → P (splice d at s from m)
unfolding splice
splice-by d at s from m P same put = go (leb (at + m) (length d)) (leb (from + m) (length s)) refl refl
  where
    go : (x y : Bool) → leb (at + m) (length d) ≡ x → leb (from + m) (length s) ≡ y → P (pick (x && y) (paste d at (drop from s) m) d)
    go true true e f = put (leb-true (at + m) (length d) e) (leb-true (from + m) (length s) f)
    go true false e f = same
    go false y e f = same

-- below what was written
pub bytes_below : (d : List ℕ) (at : ℕ) (s : List ℕ) (from m a n : ℕ) → a + n ≤ at → bytes (splice d at s from m) a n ≡ bytes d a n
bytes_below d at s from m a n h = splice-by d at s from m (λ l. bytes l a n ≡ bytes d a n) refl put
  where
    put : at + m ≤ length d → from + m ≤ length s → bytes (paste d at (drop from s) m) a n ≡ bytes d a n
    put hd hs =
        ap (λ (l : List ℕ). bytes l a n) (append_assoc (take at d) (take m (drop from s)) (drop (at + m) d))
        ∙ front (take at d) (take m (drop from s) ++ drop (at + m) d) a n (omega (arith, length-take-le at d (omega arith)))
        ∙ front_of d at a n h (omega arith)

-- past what was written
pub drop_past : (d : List ℕ) (at : ℕ) (s : List ℕ) (from m a : ℕ) → at + m ≤ a → drop a (splice d at s from m) ≡ drop a d
drop_past d at s from m a h = splice-by d at s from m (λ l. drop a l ≡ drop a d) refl put
  where
    put : at + m ≤ length d → from + m ≤ length s → drop a (paste d at (drop from s) m) ≡ drop a d
    put hd hs =
        let k : ℕ = a - (at + m) in
        let e : at + m + k ≡ a = omega arith in
        let p : List ℕ = paste d at (drop from s) m in
        ap (λ (j : ℕ). drop j p) (sym e)
        ∙ sym (drop-drop k (at + m) p)
        ∙ ap (drop k) (drop-paste d at (drop from s) m (omega arith) (simp length-drop (omega arith)))
        ∙ drop-drop k (at + m) d
        ∙ ap (λ (j : ℕ). drop j d) e

-- within what was written
pub bytes-in : (d : List ℕ) (at : ℕ) (s : List ℕ) (from m k n : ℕ) → at + m ≤ length d → from + m ≤ length s → k + n ≤ m
    → bytes (splice d at s from m) (at + k) n ≡ bytes s (from + k) n
bytes-in d at s from m k n hd hs h =
    let t : List ℕ = take m (drop from s) in
    let l : length (drop from s) ≡ length s - from = length-drop from s in
    rw (splice-in d at s from m hd hs)
    (ap (take n)
    (sym (drop-drop k at (paste d at (drop from s) m))
    ∙ ap (drop k)
    (ap (drop at) (append_assoc (take at d) t (drop (at + m) d)) ∙ drop_at (take at d) (t ++ drop (at + m) d) at (length-take-le at d (omega arith))))
    ∙ front t (drop (at + m) d) k n (omega (arith, length-take-le m (drop from s) (omega arith)))
    ∙ front_of (drop from s) m k n h (omega arith)
    ∙ ap (take n) (drop-drop k from s))

-- another source that has the same bytes there
pub same_source : (d : List ℕ) (at : ℕ) (s r : List ℕ) (from n : ℕ) → length s ≡ length r → drop from s ≡ drop from r → splice d at s from n ≡ splice d at r from n
unfolding splice
same_source d at s r from n e g = rw (e, g)

-- ---- entries with their values

module _ {A : Type 0} (len : A → ℕ) (p : Part) where
  pub length-valued : (s : List ℕ) (i : ℕ) (l : List A) → length (valued len p s i l) ≡ length l
  unfolding valued
  length-valued s i [] = refl
  length-valued s i (x ∷ l) = ap suc (length-valued s (suc i) l)

  pub valued-append : (s : List ℕ) (i : ℕ) (l m : List A) → valued len p s i (l ++ m) ≡ valued len p s i l ++ valued len p s (i + length l) m
  unfolding valued
  valued-append s i [] m = let e : i ≡ i + 0 = omega arith in ap (λ (j : ℕ). valued len p s j m) e
  valued-append s i (x ∷ l) m =
      let e : suc i + length l ≡ i + suc (length l) = omega arith in
      ap (λ (r : List (Valued A)). record { entry = x; value = bytes s (place p i) (len x) } ∷ r)
      (valued-append s (suc i) l m ∙ ap (λ (j : ℕ). valued len p s (suc i) l ++ valued len p s j m) e)

  -- those from place k on
  pub valued-drop : (s : List ℕ) (k i : ℕ) (l : List A) → drop k (valued len p s i l) ≡ valued len p s (i + k) (drop k l)
  unfolding valued
  valued-drop s zero i l = let e : i ≡ i + 0 = omega arith in ap (λ (j : ℕ). valued len p s j l) e
  valued-drop s (suc k) i [] = refl
  valued-drop s (suc k) i (x ∷ l) =
      let e : suc i + k ≡ i + suc k = omega arith in
      valued-drop s k (suc i) l ∙ ap (λ (j : ℕ). valued len p s j (drop k l)) e

  -- for a loop over the first c places of an array: one with its value, and those after it
  pub valued-here : (s : List ℕ) (a : List A) (c i : ℕ) (z : A) → i < c → c ≤ length a
      → drop i (valued len p s 0 (take c a))
      ≡ record { entry = get_or a i z; value = bytes s (place p i) (len (get_or a i z)) } ∷ drop (i + 1) (valued len p s 0 (take c a))
  unfolding valued
  valued-here s a c i z h g =
      let e : 0 + i ≡ i = omega arith in
      let e' : 0 + (i + 1) ≡ suc i = omega arith in
      valued-drop s i 0 (take c a)
      ∙ ap (λ (j : ℕ). valued len p s j (drop i (take c a))) e
      ∙ ap (valued len p s i) (rest-cons a c i z h g)
      ∙ ap (λ (r : List (Valued A)). record { entry = get_or a i z; value = bytes s (place p i) (len (get_or a i z)) } ∷ r)
      (ap (λ (j : ℕ). valued len p s j (drop (i + 1) (take c a))) (sym e') ∙ sym (valued-drop s (i + 1) 0 (take c a)))

  pub valued-end : (s : List ℕ) (a : List A) (c i : ℕ) → c ≤ i → c ≤ length a → drop i (valued len p s 0 (take c a)) ≡ []
  valued-end s a c i h g =
      drop_of_length-le (valued len p s 0 (take c a)) {i = i} (omega (arith, length-take-le c a g, length-valued s 0 (take c a)))

  -- two stores that have the same in the blocks of l
  pub valued_same : (s r : List ℕ) (i j : ℕ) (l : List A) → fitting len p.size l ≡ true
      → ((k : ℕ) → k < length l → (n : ℕ) → n ≤ p.size → bytes s (place p (i + k)) n ≡ bytes r (place p (j + k)) n)
      → valued len p s i l ≡ valued len p r j l
  unfolding valued
  valued_same s r i j [] f h = refl
  valued_same s r i j (x ∷ l) f h =
      let g : len x ≤ p.size = leb-true (len x) p.size (all_head (λ y. leb (len y) p.size) x l f) in
      ap₂ (λ (v : List ℕ) (t : List (Valued A)). record { entry = x; value = v } ∷ t)
      (at_first (h 0 (omega arith) (len x) g))
      (valued_same s r (suc i) (suc j) l (all_tail (λ y. leb (len y) p.size) x l f) (λ k b n m. at_next k n (h (suc k) (omega arith) n m)))
    where
      at_first : bytes s (place p (i + 0)) (len x) ≡ bytes r (place p (j + 0)) (len x) → bytes s (place p i) (len x) ≡ bytes r (place p j) (len x)
      at_first q = let e : i + 0 ≡ i = omega arith in let g : j + 0 ≡ j = omega arith in rw (e, g) at q

      at_next : (k n : ℕ) → bytes s (place p (i + suc k)) n ≡ bytes r (place p (j + suc k)) n → bytes s (place p (suc i + k)) n ≡ bytes r (place p (suc j + k)) n
      at_next k n q = let e : i + suc k ≡ suc i + k = omega arith in let g : j + suc k ≡ suc j + k = omega arith in rw (e, g) at q

-- ---- the blocks one down, and a value put: the store keeps its length, and all that is outside the part

module _ (p : Part) where
  -- where the part ends, and where its blocks stand in it
  abbrev pub end : ℕ
  end = place p p.most

  next : (i : ℕ) → place p (suc i) ≡ place p i + p.size
  next i = omega (arith, mul-suc p.size i)

  rising : (i j : ℕ) → i ≤ j → place p i ≤ place p j
  rising i j h = omega (arith, mul-le-mul_left p.size h)

  first : place p 0 ≡ p.base
  first = omega (arith, mul-zero p.size)

  last : 0 < p.most → place p (p.most - 1) + p.size ≡ end
  last h = let e : suc (p.most - 1) ≡ p.most = omega arith in sym (next (p.most - 1)) ∙ ap (place p) e

  pub lowered_is : (s : List ℕ) → lowered p s ≡ splice s (place p 0) s (place p 1) (p.size * (p.most - 1))
  unfolding lowered
  lowered_is s = moved_down s (place p 0) (place p 1) (p.size * (p.most - 1)) (rising 0 1 (omega arith))

  pub length-lowered : (s : List ℕ) → length (lowered p s) ≡ length s
  unfolding lowered
  length-lowered s = length_moved s (place p 0) (place p 1) (p.size * (p.most - 1))

  -- block k has what block k + 1 had
  pub lowered-block : (s : List ℕ) (k n : ℕ) → end ≤ length s → k + 1 < p.most → n ≤ p.size → bytes (lowered p s) (place p k) n ≡ bytes s (place p (k + 1)) n
  lowered-block s k n h g m =
      let z : p.size * 0 ≡ 0 = mul-zero p.size in
      let u : p.size * 1 ≡ p.size = mul-one p.size in
      let f : p.size * suc k ≡ p.size * k + p.size = mul-suc p.size k in
      let b : p.size * suc k ≤ p.size * (p.most - 1) = mul-le-mul_left p.size (omega arith) in
      let l : place p (p.most - 1) + p.size ≡ end = last (omega arith) in
      let e : place p 0 + p.size * k ≡ place p k = omega arith in
      let e' : place p 1 + p.size * k ≡ place p (suc k) = omega arith in
      rw (lowered_is s, add-one k)
      (ap (λ (a : ℕ). bytes (splice s (place p 0) s (place p 1) (p.size * (p.most - 1))) a n) (sym e)
      ∙ bytes-in s (place p 0) s (place p 1) (p.size * (p.most - 1)) (p.size * k) n (omega arith) (omega arith) (omega arith)
      ∙ ap (λ (a : ℕ). bytes s a n) e')

  pub lowered-below : (s : List ℕ) (a n : ℕ) → a + n ≤ p.base → bytes (lowered p s) a n ≡ bytes s a n
  lowered-below s a n h =
      rw (lowered_is s) (bytes_below s (place p 0) s (place p 1) (p.size * (p.most - 1)) a n (omega (arith, first)))

  pub lowered-past : (s : List ℕ) (a : ℕ) → 0 < p.most → end ≤ a → drop a (lowered p s) ≡ drop a s
  lowered-past s a g h =
      rw (lowered_is s) (drop_past s (place p 0) s (place p 1) (p.size * (p.most - 1)) a (omega (arith, first, last g)))

  -- the two ways of a push
  pub stored-room : (count : ℕ) (src : List ℕ) (from n : ℕ) (s : List ℕ) → count < p.most → stored p count src from n s ≡ splice s (place p count) src from n
  unfolding stored
  stored-room count src from n s h = rw (lt-ltb count p.most h)

  pub stored-full : (count : ℕ) (src : List ℕ) (from n : ℕ) (s : List ℕ) → p.most ≤ count → stored p count src from n s ≡ splice (lowered p s) (place p (p.most - 1)) src from n
  unfolding stored
  stored-full count src from n s h = rw (le-ltb count p.most h)

  stored-by : (count : ℕ) (src : List ℕ) (from n : ℕ) (s : List ℕ) (P : List ℕ → Type 0)
      → (count < p.most → P (splice s (place p count) src from n)) → (p.most ≤ count → P (splice (lowered p s) (place p (p.most - 1)) src from n))
      → P (stored p count src from n s)
  unfolding stored
  stored-by count src from n s P room full = go (ltb count p.most) refl
    where
      go : (b : Bool) → ltb count p.most ≡ b → P (pick b (splice s (place p count) src from n) (splice (lowered p s) (place p (p.most - 1)) src from n))
      go true e = room (ltb-true count p.most e)
      go false e = full (ltb-false count p.most e)

  pub length-stored : (count : ℕ) (src : List ℕ) (from n : ℕ) (s : List ℕ) → length (stored p count src from n s) ≡ length s
  length-stored count src from n s =
      stored-by count src from n s (λ l. length l ≡ length s)
      (λ h. length-splice s (place p count) src from n)
      (λ h. length-splice (lowered p s) (place p (p.most - 1)) src from n ∙ length-lowered s)

  pub stored-below : (count : ℕ) (src : List ℕ) (from n : ℕ) (s : List ℕ) (a m : ℕ) → a + m ≤ p.base → bytes (stored p count src from n s) a m ≡ bytes s a m
  stored-below count src from n s a m h =
      stored-by count src from n s (λ l. bytes l a m ≡ bytes s a m)
      (λ g. bytes_below s (place p count) src from n a m (omega arith))
      (λ g. bytes_below (lowered p s) (place p (p.most - 1)) src from n a m (omega arith) ∙ lowered-below s a m h)

  -- a value that stands in the store itself, past the part: what the code does
  pub copied-room : (count from n : ℕ) (s : List ℕ) → count < p.most → end ≤ from → moved s (place p count) from n ≡ stored p count s from n s
  copied-room count from n s h g =
      moved_down s (place p count) from n (omega (arith, rising count p.most (omega arith)))
      ∙ sym (stored-room count s from n s h)

  pub copied-full : (count from n : ℕ) (s : List ℕ) → 0 < p.most → p.most ≤ count → end ≤ from
      → moved (lowered p s) (place p (p.most - 1)) from n ≡ stored p count s from n s
  copied-full count from n s k h g =
      moved_down (lowered p s) (place p (p.most - 1)) from n (omega (arith, last k))
      ∙ same_source (lowered p s) (place p (p.most - 1)) (lowered p s) s from n (length-lowered s) (lowered-past s from k g)
      ∙ sym (stored-full count s from n s h)

-- ---- what the entries are after it

module _ {A : Type 0} (len : A → ℕ) (p : Part) where
  -- a value that is written behind the blocks of l leaves theirs
  behind : (s src : List ℕ) (c from n : ℕ) (l : List A) → length l ≤ c → fitting len p.size l ≡ true
      → valued len p (splice s (place p c) src from n) 0 l ≡ valued len p s 0 l
  behind s src c from n l h f =
      valued_same len p (splice s (place p c) src from n) s 0 0 l f
      (λ k b m g. bytes_below s (place p c) src from n (place p (0 + k)) m (below k b m g))
    where
      below : (k : ℕ) → k < length l → (m : ℕ) → m ≤ p.size → place p (0 + k) + m ≤ place p c
      below k b m g = let e : 0 + k ≡ k = omega arith in rw e (omega (arith, next p k, rising p (suc k) c (omega arith)))

  -- and the value that was written
  put : (s src : List ℕ) (c from : ℕ) (x : A) → place p c + len x ≤ length s → from + len x ≤ length src
      → valued len p (splice s (place p c) src from (len x)) c (x ∷ []) ≡ record { entry = x; value = bytes src from (len x) } ∷ []
  unfolding valued
  put s src c from x h g =
      let e : place p c + 0 ≡ place p c = omega arith in
      let e' : from + 0 ≡ from = omega arith in
      let b : bytes (splice s (place p c) src from (len x)) (place p c + 0) (len x) ≡ bytes src (from + 0) (len x) =
      bytes-in s (place p c) src from (len x) 0 (len x) h g (omega arith) in
      ap (λ (v : List ℕ). record { entry = x; value = v } ∷ []) (rw (e, e') at b)

  -- the first entry gone
  pub valued-lowered : (s : List ℕ) (l : List A) → end p ≤ length s → length l ≤ p.most → fitting len p.size l ≡ true
      → valued len p (lowered p s) 0 (drop 1 l) ≡ drop 1 (valued len p s 0 l)
  valued-lowered s l h g f =
      valued_same len p (lowered p s) s 0 1 (drop 1 l) (all_drop (λ x. leb (len x) p.size) 1 l f) same
      ∙ sym (valued-drop len p s 1 0 l)
    where
      same : (k : ℕ) → k < length (drop 1 l) → (n : ℕ) → n ≤ p.size → bytes (lowered p s) (place p (0 + k)) n ≡ bytes s (place p (1 + k)) n
      same k b n m =
          let e : 0 + k ≡ k = omega arith in
          let e' : k + 1 ≡ 1 + k = omega arith in
          ap (λ (i : ℕ). bytes (lowered p s) (place p i) n) e
          ∙ lowered-block p s k n h (omega (arith, length-drop 1 l)) m
          ∙ ap (λ (i : ℕ). bytes s (place p i) n) e'

  -- one more: the newest of the entries that were there, and of the new one with its value
  pub valued-stored : (s src : List ℕ) (from : ℕ) (l : List A) (x : A) → end p ≤ length s → from + len x ≤ length src
      → 0 < p.most → length l ≤ p.most → fitting len p.size l ≡ true → len x ≤ p.size
      → valued len p (stored p (length l) src from (len x) s) 0 (pushed p.most l x)
      ≡ pushed p.most (valued len p s 0 l) (record { entry = x; value = bytes src from (len x) })
  valued-stored s src from l x h g z w f m = go (ltb (length l) p.most) refl
    where
      new : Valued A
      new = record { entry = x; value = bytes src from (len x) }

      -- behind c others in a store r
      snoc : (r : List ℕ) (k : List A) → length r ≡ length s → length k < p.most → fitting len p.size k ≡ true
          → valued len p (splice r (place p (length k)) src from (len x)) 0 (k ++ (x ∷ [])) ≡ valued len p r 0 k ++ (new ∷ [])
      snoc r k e b t =
          let o : 0 + length k ≡ length k = omega arith in
          valued-append len p (splice r (place p (length k)) src from (len x)) 0 k (x ∷ [])
          ∙ ap₂ (λ (u v : List (Valued A)). u ++ v)
          (behind r src (length k) from (len x) k (omega arith) t)
          (ap (λ (i : ℕ). valued len p (splice r (place p (length k)) src from (len x)) i (x ∷ [])) o
          ∙ put r src (length k) from x (omega (arith, next p (length k), rising p (suc (length k)) p.most b)) g)

      go : (b : Bool) → ltb (length l) p.most ≡ b
          → valued len p (stored p (length l) src from (len x) s) 0 (pushed p.most l x) ≡ pushed p.most (valued len p s 0 l) new
      go true e =
          let r : length l < p.most = ltb-true (length l) p.most e in
          rw (stored-room p (length l) src from (len x) s r, pushed_room p.most l x r)
          (snoc s l refl r f ∙ sym (pushed_room p.most (valued len p s 0 l) new (omega (arith, length-valued len p s 0 l))))
      go false e =
          let r : p.most ≤ length l = ltb-false (length l) p.most e in
          let d : p.most - 1 ≡ length (drop 1 l) = omega (arith, length-drop 1 l) in
          rw (stored-full p (length l) src from (len x) s r, pushed-full p.most l x (omega arith) z, d)
          (snoc (lowered p s) (drop 1 l) (length-lowered p s) (omega arith) (all_drop (λ y. leb (len y) p.size) 1 l f)
          ∙ ap (λ (u : List (Valued A)). u ++ (new ∷ [])) (valued-lowered s l h w f)
          ∙ sym (pushed-full p.most (valued len p s 0 l) new (omega (arith, length-valued len p s 0 l)) z))
