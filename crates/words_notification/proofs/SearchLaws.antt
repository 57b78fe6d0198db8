-- Laws of the search: what a place adds to the joined values, and what is left to compare after one byte, one value, one place.
use Prim.Native.Nat.{ℕ, zero, suc, ◌+◌, ◌-◌, ◌<◌, ◌≤◌, min}
use mathlib.Core.Path.{◌≡◌, refl, sym, ap, ap₂, ◌∙◌}
use mathlib.Core.Bool.{Bool, true, false, ◌&&◌, ◌||◌}
use mathlib.Core.List.{List, [], ◌∷◌, ◌++◌}
use native.Mathlib.Numerals.{add-one}
use native.Mathlib.Omega.{arith}
use lib.ListN.{length, take, drop, get_or, length-append, length-drop, drop_of_length-le}
use lib.Seq.{drop-cons, drop-append-le, take-append-le, drop_at, drop-drop, take-take, take-nil, get_or-take, get_or-drop, length-take-le}
use lib.Dec.{eqb, leb}
use borrow.Author.Tests.{eq-eqb, ne_eqb, leb-true, leb-false}
use Rattle.bytes_base.specs.Choice.{pick}
use Rattle.state_places.specs.Sizes.{value_size, notification_at, held_at}
use Rattle.lists.specs.Blocks.{bytes}
use Rattle.lists.proofs.BlockLaws.{valued-here, valued-end}
use Rattle.state.specs.Fresh.{no_notification}
use Rattle.notifications.specs.declared.Notification.{Notification}
use Rattle.notifications.specs.declared.Wanted.{Wanted}
use Rattle.notifications.specs.Kept.{part, live, heard, values_fit}
use Rattle.notifications.specs.Wait.{counts, any, seen, starts, contains, newest_counted}
use Rattle.notifications.proofs.WaitLaws.{fit_at, any-hit, any-pass, any-end, newest-on, newest-end}
use Rattle.words.specs.Tables.{notifications_in}
use Rattle.words.proofs.RowLaws.{length-notifications}
use Rattle.words_notification.specs.Kept.{kept_in}
use Rattle.words_notification.specs.Search.{own, joined, stands, Ready}

-- ---- x is what place i has, and b tells whether it counts

module _ (w : List ℕ) (c i : ℕ) (h : Wanted) (few : c ≤ 32) where
  places : c ≤ length (notifications_in w)
  places = omega (arith, length-notifications w)

  module _ (x : Notification) (b : Bool) (p : i < c) (e : x ≡ get_or (notifications_in w) i no_notification) (f : b ≡ counts h x) where
    told : (t : Bool) → b ≡ t → counts h (get_or (notifications_in w) i no_notification) ≡ t
    told t g = ap (counts h) (sym e) ∙ sym f ∙ g

    pub is-hit : (s : List ℕ) → b ≡ true → any h (drop i (heard s (live (kept_in w c)))) ≡ true
    is-hit s g = any-hit (notifications_in w) c i h s p places (told true g)

    pub is-pass : (s : List ℕ) → b ≡ false → any h (drop i (heard s (live (kept_in w c)))) ≡ any h (drop (i + 1) (heard s (live (kept_in w c))))
    is-pass s g = any-pass (notifications_in w) c i h s p places (told false g)

    -- place 0 has number first; `next` is the newest with this one
    pub is-newest : (first newest next : ℕ) (t : Bool) → b ≡ t → next ≡ pick t (first + i + 1) newest
        → newest_counted h (first + i) newest (drop i (live (kept_in w c))) ≡ newest_counted h (first + (i + 1)) next (drop (i + 1) (live (kept_in w c)))
    is-newest first newest next t g k =
        let n : first + i + 1 ≡ first + (i + 1) = omega arith in
        newest-on h (notifications_in w) c i (first + i) newest places p
        ∙ ap₂ (λ (j m : ℕ). newest_counted h j m (drop (i + 1) (live (kept_in w c)))) n (ap (λ (u : Bool). pick u (first + i + 1) newest) (told t g) ∙ sym k)

  pub is-end : (s : List ℕ) → c ≤ i → any h (drop i (heard s (live (kept_in w c)))) ≡ false
  is-end s p = any-end (notifications_in w) c i h s p places

  pub newest-all : (first newest : ℕ) → c ≤ i → newest_counted h (first + i) newest (drop i (live (kept_in w c))) ≡ newest
  newest-all first newest p = newest-end h (notifications_in w) c i (first + i) newest places p

-- how many bytes it has
module _ (w : List ℕ) (i : ℕ) (h : Wanted) (x : Notification) (b : Bool) (e : x ≡ get_or (notifications_in w) i no_notification) (f : b ≡ counts h x) where
  pub size-own : b ≡ true → x.len ≡ own h w i
  size-own g = rw (← e, ← f, g)

  pub size_none : b ≡ false → 0 ≡ own h w i
  size_none g = rw (← e, ← f, g)

-- ---- what a place adds to the joined values

module _ (h : Wanted) (w s : List ℕ) (c i : ℕ) (few : c ≤ 32) where
  pub joined_end : c ≤ i → joined h w s c i ≡ []
  unfolding seen
  joined_end p = ap (seen h) (valued-end (λ (x : Notification). x.len) part s (notifications_in w) c i p (omega (arith, length-notifications w)))

  -- there is a place with something left
  pub still : 0 < length (joined h w s c i) → i < c
  still p = go (leb c i) refl
    where
      go : (b : Bool) → leb c i ≡ b → i < c
      go true e = let n : length (joined h w s c i) ≡ 0 = ap length (joined_end (leb-true c i e)) in omega arith
      go false e = leb-false c i e

  pub still-on : (o j m : ℕ) → m ≤ length (drop o (joined h w s c i)) + j → j < m → i < c
  still-on o j m q p = still (omega (arith, length-drop o (joined h w s c i)))

  module _ (p : i < c) where
    pub joined-here : joined h w s c i ≡ bytes s (notification_at i) (own h w i) ++ joined h w s c (i + 1)
    unfolding seen
    joined-here =
        rw (valued-here (λ (x : Notification). x.len) part s (notifications_in w) c i no_notification p (omega (arith, length-notifications w)))
        (ap (λ (l : List ℕ). l ++ joined h w s c (i + 1)) (go (counts h (get_or (notifications_in w) i no_notification))))
      where
        n : ℕ
        n = (get_or (notifications_in w) i no_notification).len

        go : (b : Bool) → pick b (bytes s (notification_at i) n) [] ≡ bytes s (notification_at i) (pick b n 0)
        go true = refl
        go false = refl

    module _ (fit : values_fit (live (kept_in w c)) ≡ true) where
      pub own-small : own h w i ≤ value_size
      own-small =
          go (counts h (get_or (notifications_in w) i no_notification)) (fit_at (notifications_in w) c i p (omega (arith, length-notifications w)) fit)
        where
          n : ℕ
          n = (get_or (notifications_in w) i no_notification).len

          go : (b : Bool) → n ≤ value_size → pick b n 0 ≤ value_size
          go true b = b
          go false b = omega arith

      pub own-length : held_at ≤ length s → length (bytes s (notification_at i) (own h w i)) ≡ own h w i
      own-length big = length-take-le (own h w i) (drop (notification_at i) s) (simp length-drop (omega (arith, own-small)))

      pub joined_length : held_at ≤ length s → length (joined h w s c i) ≡ own h w i + length (joined h w s c (i + 1))
      joined_length big =
          ap length joined-here
          ∙ length-append (bytes s (notification_at i) (own h w i)) (joined h w s c (i + 1))
          ∙ ap (λ (n : ℕ). n + length (joined h w s c (i + 1))) (own-length big)

-- ---- parts of bytes

drop-take : (j r : ℕ) (l : List ℕ) → drop j (take (j + r) l) ≡ take r (drop j l)
drop-take zero r l = let e : zero + r ≡ r = omega arith in ap (λ (k : ℕ). take k l) e
drop-take (suc j) r [] = let e : suc j + r ≡ suc (j + r) = omega arith in ap (λ (k : ℕ). drop (suc j) (take k [])) e ∙ sym (take-nil r)
drop-take (suc j) r (x ∷ l) =
    let e : suc j + r ≡ suc (j + r) = omega arith in
    ap (λ (k : ℕ). drop (suc j) (take k (x ∷ l))) e ∙ drop-take j r l

within : (s : List ℕ) (at m j n : ℕ) → j + n ≤ m → take n (drop j (bytes s at m)) ≡ bytes s (at + j) n
within s at m j n h =
    let e : m ≡ j + (m - j) = omega arith in
    ap (λ (k : ℕ). take n (drop j (take k (drop at s)))) e
    ∙ ap (take n) (drop-take j (m - j) (drop at s) ∙ ap (take (m - j)) (drop-drop j at s))
    ∙ take-take n (m - j) (drop (at + j) s) (omega arith)

-- ---- comparing byte by byte

pub needle-length : (s : List ℕ) (at m : ℕ) → at + m ≤ length s → length (bytes s at m) ≡ m
needle-length s at m h = length-take-le m (drop at s) (simp length-drop (omega arith))

needle-on : (s : List ℕ) (at m : ℕ) → at + m ≤ length s → (j : ℕ) → j < m → drop j (bytes s at m) ≡ get_or s (at + j) 0 ∷ drop (j + 1) (bytes s at m)
needle-on s at m h j p =
    rw (add-one j, drop-cons (bytes s at m) j 0 (omega (arith, needle-length s at m h)), get_or-take m (drop at s) j 0 p, get_or-drop at s j 0)

-- the n bytes from q on, and those from p on
module _ (s : List ℕ) (p q n : ℕ) (hp : p + n ≤ length s) (hq : q + n ≤ length s) (j : ℕ) (h : j < n) where
  step : starts (drop j (bytes s q n)) (drop j (bytes s p n))
      ≡ (eqb (get_or s (q + j) 0) (get_or s (p + j) 0) && starts (drop (j + 1) (bytes s q n)) (drop (j + 1) (bytes s p n)))
  unfolding starts
  step = ap₂ starts (needle-on s q n hq j h) (needle-on s p n hp j h)

  pub equal-on : get_or s (p + j) 0 ≡ get_or s (q + j) 0
      → starts (drop j (bytes s q n)) (drop j (bytes s p n)) ≡ starts (drop (j + 1) (bytes s q n)) (drop (j + 1) (bytes s p n))
  equal-on e = rw (step, eq-eqb (get_or s (q + j) 0) (get_or s (p + j) 0) (sym e))

  pub equal-off : (get_or s (p + j) 0 ≡ get_or s (q + j) 0 → ⊥) → starts (drop j (bytes s q n)) (drop j (bytes s p n)) ≡ false
  equal-off e = rw (step, ne_eqb (get_or s (q + j) 0) (get_or s (p + j) 0) (λ g. e (sym g)))

-- ---- comparing in parts, and needles that are too long

starts-split : (n : ℕ) (xs ys : List ℕ) → n ≤ length xs → n ≤ length ys → starts xs ys ≡ (starts (take n xs) (take n ys) && starts (drop n xs) (drop n ys))
unfolding starts
starts-split zero xs ys h g = refl
starts-split (suc n) [] ys h g = absurd (omega arith)
starts-split (suc n) (x ∷ xs) [] h g = absurd (omega arith)
starts-split (suc n) (x ∷ xs) (y ∷ ys) h g = ap (λ (b : Bool). eqb x y && b) (starts-split n xs ys (omega arith) (omega arith)) ∙ go (eqb x y)
  where
    go : (b : Bool)
        → (b && (starts (take n xs) (take n ys) && starts (drop n xs) (drop n ys))) ≡ ((b && starts (take n xs) (take n ys)) && starts (drop n xs) (drop n ys))
    go true = refl
    go false = refl

starts-short : (xs ys : List ℕ) → length ys < length xs → starts xs ys ≡ false
unfolding starts
starts-short [] ys h = absurd (omega arith)
starts-short (x ∷ xs) [] h = refl
starts-short (x ∷ xs) (y ∷ ys) h = rw (starts-short xs ys (omega arith)) (go (eqb x y))
  where
    go : (b : Bool) → (b && false) ≡ false
    go true = refl
    go false = refl

pub contains-short : (xs ys : List ℕ) → length ys < length xs → contains xs ys ≡ false
unfolding contains
contains-short xs [] h = starts-short xs [] h
contains-short xs (y ∷ ys) h = rw (starts-short xs (y ∷ ys) h, contains-short xs ys (omega arith))

front-cons : (b r : List ℕ) (k : ℕ) → k < length b → drop k (b ++ r) ≡ get_or b k 0 ∷ drop (k + 1) (b ++ r)
front-cons b r k h =
    drop-append-le k b r (omega arith)
    ∙ ap (λ (t : List ℕ). t ++ r) (drop-cons b k 0 h)
    ∙ ap (λ (t : List ℕ). get_or b k 0 ∷ t) (sym (drop-append-le (suc k) b r h) ∙ ap (λ (j : ℕ). drop j (b ++ r)) (sym (add-one k)))

pub goes_end : (s : List ℕ) (at m : ℕ) → at + m ≤ length s → (j : ℕ) (x : List ℕ) → m ≤ j → starts (drop j (bytes s at m)) x ≡ true
unfolding starts
goes_end s at m h j x p =
    ap (λ (l : List ℕ). starts l x) (drop_of_length-le (bytes s at m) {i = j} (omega (arith, needle-length s at m h)))

-- ---- x is what is joined from a place on: the z bytes of the store from p on, then y, what is joined from the next place on

module _ (s : List ℕ) (at m : ℕ) (hs : at + m ≤ length s) (x y : List ℕ) (p z : ℕ) (e : x ≡ bytes s p z ++ y) (lz : length (bytes s p z) ≡ z) where
  -- one byte of the value
  byte-here : (k : ℕ) → k < z → drop k x ≡ get_or s (p + k) 0 ∷ drop (k + 1) x
  byte-here k h =
      rw e
      (front-cons (bytes s p z) y k (omega arith)
      ∙ ap (λ (b : ℕ). b ∷ drop (k + 1) (bytes s p z ++ y)) (get_or-take z (drop p s) k 0 h ∙ get_or-drop p s k 0))

  needle-first : 0 < m → bytes s at m ≡ get_or s at 0 ∷ drop 1 (bytes s at m)
  needle-first h =
      let f : at + 0 ≡ at = omega arith in
      needle-on s at m hs 0 h ∙ ap (λ (j : ℕ). get_or s j 0 ∷ drop 1 (bytes s at m)) f

  try : (k : ℕ) → 0 < m → k < z
      → contains (bytes s at m) (drop k x)
      ≡ ((eqb (get_or s at 0) (get_or s (p + k) 0) && starts (drop 1 (bytes s at m)) (drop (k + 1) x)) || contains (bytes s at m) (drop (k + 1) x))
  unfolding contains starts
  try k g h =
      ap (contains (bytes s at m)) (byte-here k h)
      ∙ ap (λ (n : List ℕ). starts n (get_or s (p + k) 0 ∷ drop (k + 1) x) || contains (bytes s at m) (drop (k + 1) x)) (needle-first g)

  pub try-off : (k : ℕ) → 0 < m → k < z → (get_or s (p + k) 0 ≡ get_or s at 0 → ⊥) → contains (bytes s at m) (drop k x) ≡ contains (bytes s at m) (drop (k + 1) x)
  try-off k g h n =
      try k g h
      ∙ ap (λ (b : Bool). (b && starts (drop 1 (bytes s at m)) (drop (k + 1) x)) || contains (bytes s at m) (drop (k + 1) x))
      (ne_eqb (get_or s at 0) (get_or s (p + k) 0) (λ q. n (sym q)))

  pub try-on : (k : ℕ) → 0 < m → k < z → get_or s (p + k) 0 ≡ get_or s at 0 → (b : Bool) → b ≡ starts (drop 1 (bytes s at m)) (drop (k + 1) x)
      → contains (bytes s at m) (drop k x) ≡ (b || contains (bytes s at m) (drop (k + 1) x))
  try-on k g h q b f =
      try k g h
      ∙ ap₂ (λ (u v : Bool). (u && v) || contains (bytes s at m) (drop (k + 1) x))
      (eq-eqb (get_or s at 0) (get_or s (p + k) 0) (sym q)) (sym f)

  -- what is left of the value from byte o on
  part_length : (o : ℕ) → o ≤ z → length (drop o x) ≡ z - o + length y
  part_length o h =
      length-drop o x
      ∙ omega (arith, h, ap length e ∙ length-append (bytes s p z) y, lz)

  part-take : (o n : ℕ) → o + n ≤ z → take n (drop o x) ≡ bytes s (p + o) n
  part-take o n h =
      rw e
      (ap (take n) (drop-append-le o (bytes s p z) y (omega arith))
      ∙ take-append-le n (drop o (bytes s p z)) y (simp length-drop (omega arith))
      ∙ within s p z o n h)

  part_end : drop z x ≡ y
  part_end = rw e (drop_at (bytes s p z) y z lz)

  -- the n bytes that are compared at once
  module _ (j o n : ℕ) (hj : j ≤ m) (ho : o ≤ z) (hn : n ≡ min (z - o) (m - j)) where
    split : starts (drop j (bytes s at m)) (drop o x)
        ≡ (starts (bytes s (at + j) n) (bytes s (p + o) n) && starts (drop (j + n) (bytes s at m)) (drop (o + n) x))
    split =
        starts-split n (drop j (bytes s at m)) (drop o x)
        (simp length-drop (omega (arith, needle-length s at m hs)))
        (omega (arith, part_length o ho))
        ∙ ap₂ (λ (u v : Bool). u && v)
        (ap₂ starts (within s at m j n (omega arith)) (part-take o n (omega arith)))
        (ap₂ starts (drop-drop n j (bytes s at m)) (drop-drop n o x))

    -- the value is at its end, or the needle is
    after : starts (drop (j + n) (bytes s at m)) (drop (o + n) x) ≡ starts (drop (j + n) (bytes s at m)) y
    unfolding starts
    after = go (leb (z - o) (m - j)) refl
      where
        go : (b : Bool) → leb (z - o) (m - j) ≡ b → starts (drop (j + n) (bytes s at m)) (drop (o + n) x) ≡ starts (drop (j + n) (bytes s at m)) y
        go true q =
            let f : o + n ≡ z = omega (arith, leb-true (z - o) (m - j) q) in
            ap (starts (drop (j + n) (bytes s at m))) (ap (λ (k : ℕ). drop k x) f ∙ part_end)
        go false q =
            let f : drop (j + n) (bytes s at m) ≡ [] =
            drop_of_length-le (bytes s at m) {i = j + n} (omega (arith, needle-length s at m hs, leb-false (z - o) (m - j) q)) in
            rw f

    pub goes_on_lem : (b : Bool) → b ≡ starts (bytes s (at + j) n) (bytes s (p + o) n)
        → starts (drop j (bytes s at m)) (drop o x) ≡ (b && starts (drop (j + n) (bytes s at m)) y)
    goes_on_lem b f = split ∙ ap₂ (λ (u v : Bool). u && v) (sym f) after

    pub goes-far : m ≤ length (drop o x) + j → m ≤ length y + (j + n)
    goes-far h = omega (arith, part_length o ho)

  -- the next place: the value was tried at each byte, or too little is left
  pub next_place : (k : ℕ) → m ≤ length x → k ≡ min z (length x - m + 1) → contains (bytes s at m) (drop k x) ≡ contains (bytes s at m) y
  next_place k h f = go (leb z (length x - m + 1)) refl
    where
      long : length x ≡ z + length y
      long = ap length e ∙ length-append (bytes s p z) y ∙ ap (λ (n : ℕ). n + length y) lz

      go : (b : Bool) → leb z (length x - m + 1) ≡ b → contains (bytes s at m) (drop k x) ≡ contains (bytes s at m) y
      go true q =
          let g : k ≡ z = omega (arith, leb-true z (length x - m + 1) q) in
          ap (contains (bytes s at m)) (ap (λ (n : ℕ). drop n x) g ∙ part_end)
      go false q =
          let g = leb-false z (length x - m + 1) q in
          let n = needle-length s at m hs in
          contains-short (bytes s at m) (drop k x) (simp length-drop (omega (arith, long)))
          ∙ sym (contains-short (bytes s at m) y (omega (arith, long)))

-- ---- the same of a place of the words

module _ (h : Wanted) (w s : List ℕ) (c i at m : ℕ) (q : Ready w c s at m) (p : i < c) where
  pub size_small : own h w i ≤ value_size
  size_small = own-small h w s c i q.0 p q.1

  pub size-length : length (joined h w s c i) ≡ own h w i + length (joined h w s c (i + 1))
  size-length = joined_length h w s c i q.0 p q.1 q.2

  -- its value stands at spot and has z bytes that count
  module _ (spot z : ℕ) (es : spot ≡ notification_at i) (ez : z ≡ own h w i) where
    here : joined h w s c i ≡ bytes s spot z ++ joined h w s c (i + 1)
    here = joined-here h w s c i q.0 p ∙ ap₂ (λ (a b : ℕ). bytes s a b ++ joined h w s c (i + 1)) (sym es) (sym ez)

    here-length : length (bytes s spot z) ≡ z
    here-length = ap₂ (λ (a b : ℕ). length (bytes s a b)) es ez ∙ own-length h w s c i q.0 p q.1 q.2 ∙ sym ez

    -- n bytes at once: b tells whether they are the same
    module _ (j o n : ℕ) (b : Bool) (hj : j < m) (ho : o ≤ own h w i) (hn : n ≡ min (z - o) (m - j))
        (f : b ≡ starts (bytes s (at + j) n) (bytes s (spot + o) n)) where
      value_on : starts (drop j (bytes s at m)) (drop o (joined h w s c i)) ≡ (b && starts (drop (j + n) (bytes s at m)) (joined h w s c (i + 1)))
      value_on = goes_on_lem s at m q.3 (joined h w s c i) (joined h w s c (i + 1)) spot z here here-length j o n (omega arith) (omega arith) hn b f

      pub value-differs : b ≡ false → starts (drop j (bytes s at m)) (drop o (joined h w s c i)) ≡ false
      value-differs t = value_on ∙ ap (λ (u : Bool). u && starts (drop (j + n) (bytes s at m)) (joined h w s c (i + 1))) t

      pub value_same : b ≡ true → starts (drop j (bytes s at m)) (drop o (joined h w s c i)) ≡ starts (drop (j + n) (bytes s at m)) (joined h w s c (i + 1))
      value_same t = value_on ∙ ap (λ (u : Bool). u && starts (drop (j + n) (bytes s at m)) (joined h w s c (i + 1))) t

      pub value-far : m ≤ length (drop o (joined h w s c i)) + j → m ≤ length (joined h w s c (i + 1)) + (j + n)
      value-far g = goes-far s at m q.3 (joined h w s c i) (joined h w s c (i + 1)) spot z here here-length j o n (omega arith) (omega arith) hn g

    -- one byte tried as the first
    module _ (k : ℕ) (hk : k < own h w i) where
      pub byte-differs : (get_or s (spot + k) 0 ≡ get_or s at 0 → ⊥) → stands h w s c i k at m ≡ stands h w s c i (k + 1) at m
      byte-differs n = try-off s at m q.3 (joined h w s c i) (joined h w s c (i + 1)) spot z here here-length k q.4 (omega arith) n

      -- b tells whether the values go on with the rest
      module _ (e : get_or s (spot + k) 0 ≡ get_or s at 0) (b : Bool) (g : b ≡ starts (drop 1 (bytes s at m)) (drop (k + 1) (joined h w s c i))) where
        byte-same : stands h w s c i k at m ≡ (b || stands h w s c i (k + 1) at m)
        byte-same = try-on s at m q.3 (joined h w s c i) (joined h w s c (i + 1)) spot z here here-length k q.4 (omega arith) e b g

        pub byte-found : b ≡ true → stands h w s c i k at m ≡ true
        byte-found t = byte-same ∙ ap (λ (u : Bool). u || stands h w s c i (k + 1) at m) t

        pub byte-passed : b ≡ false → stands h w s c i k at m ≡ stands h w s c i (k + 1) at m
        byte-passed t = byte-same ∙ ap (λ (u : Bool). u || stands h w s c i (k + 1) at m) t

    -- the value tried as far as it can be: n bytes are left, with those of this place
    value-tried : (k n : ℕ) → n ≡ length (joined h w s c i) → m ≤ n → k ≡ min z (n - (m - 1)) → stands h w s c i k at m ≡ stands h w s c (i + 1) 0 at m
    value-tried k n e l g =
        next_place s at m q.3 (joined h w s c i) (joined h w s c (i + 1)) spot z here here-length k (omega arith) (omega (arith, e, g, q.4))

    -- r tells whether it was found there
    module _ (r : Bool) (k : ℕ) (f : stands h w s c i 0 at m ≡ (r || stands h w s c i k at m)) where
      pub place_found : r ≡ true → stands h w s c i 0 at m ≡ true
      place_found t = f ∙ ap (λ (u : Bool). u || stands h w s c i k at m) t

      pub place-passed : r ≡ false → (n : ℕ) → n ≡ length (joined h w s c i) → m ≤ n → k ≡ min z (n - (m - 1)) → stands h w s c i 0 at m ≡ stands h w s c (i + 1) 0 at m
      place-passed t n e l g = f ∙ ap (λ (u : Bool). u || stands h w s c i k at m) t ∙ value-tried k n e l g

-- too little is left
pub none_left : (h : Wanted) (w s : List ℕ) (c i at m n : ℕ) → at + m ≤ length s → n ≡ length (joined h w s c i) → n < m → stands h w s c i 0 at m ≡ false
none_left h w s c i at m n hs e p = contains-short (bytes s at m) (joined h w s c i) (omega (arith, needle-length s at m hs))
