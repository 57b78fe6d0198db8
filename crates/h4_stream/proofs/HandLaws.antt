-- The bytes in hand: their front, and what is behind it, in those held and in those fed; and what two copies leave, one behind the other.
use Rattle.std.proofs.Common.{◌≡◌, refl, sym, ap, ◌∙◌, ℕ, ◌+◌, ◌-◌, ◌≤◌, ◌<◌, List, ◌++◌, length, take, drop, append_assoc, arith, length-append, length-drop}
use lib.ListN.{get_or, set}
use Rattle.std.proofs.lemmas.List.{take_all, drop_all, take-append-le, drop-append-le, length-take-le, drop-drop}
use Rattle.std.proofs.lemmas.Slice.{between_is}
use Rattle.std.proofs.Math.Seq.{take-append-add, drop-append-add, take_at, drop_at}
use mathlib.Core.List.{append-nil}
use Prim.Native.Nat.{min}
use mathlib.Core.Bool.{Bool, true, false}
use lib.Dec.{leb}
use borrow.Author.Tests.{leb-true, leb-false}
use Rattle.bytes_base.specs.Splice.{splice}
use Rattle.bytes_base.proofs.SpliceLaws.{splice-in, splice-suc, length-splice, get_d-splice-past}
use Rattle.lists.specs.Queue.{onto}
use Rattle.h4_stream.specs.Feed.{in_hand}

by_order : (P : Type 0) (a b : ℕ) → (a ≤ b → P) → (b < a → P) → P
by_order P a b below above = go (leb a b) refl
  where
    go : (x : Bool) → leb a b ≡ x → P
    go true e = below (leb-true a b e)
    go false e = above (leb-false a b e)

module _ (held fed : List ℕ) (len m : ℕ) (e : m ≡ min len (length held)) where
  -- the first len bytes, m of them held
  pub front-parts : take m held ++ take (len - m) fed ≡ take len (held ++ fed)
  front-parts =
      by_order (take m held ++ take (len - m) fed ≡ take len (held ++ fed)) len (length held)
      (λ h.
      let a : m ≡ len = omega arith in
      let z : len - m ≡ 0 = omega arith in
      rw (z, a, take-append-le len held fed h) (append-nil (take len held)))
      (λ h.
      let a : m ≡ length held = omega arith in
      let k : length held + (len - length held) ≡ len = omega arith in
      rw (a, take_all (length held) held (omega arith))
      (sym (take-append-add held fed (len - length held)) ∙ ap (λ (n : ℕ). take n (held ++ fed)) k))

  -- the bytes from len on
  pub rest-parts : drop m held ++ drop (len - m) fed ≡ drop len (held ++ fed)
  rest-parts =
      by_order (drop m held ++ drop (len - m) fed ≡ drop len (held ++ fed)) len (length held)
      (λ h.
      let a : m ≡ len = omega arith in
      let z : len - m ≡ 0 = omega arith in
      rw (z, a, drop-append-le len held fed h) refl)
      (λ h.
      let a : m ≡ length held = omega arith in
      let k : length held + (len - length held) ≡ len = omega arith in
      rw (a, drop_all (length held) held (omega arith))
      (sym (drop-append-add held fed (len - length held)) ∙ ap (λ (n : ℕ). drop n (held ++ fed)) k))

pub length-hand : (held : List ℕ) (count : ℕ) (fed : List ℕ) → count ≤ length held → length (in_hand count held fed) ≡ count + length fed
length-hand held count fed big = simp (length-append, length-take-le count held big)

-- r is written behind p, which stands over the front of d
pub behind : (d p r : List ℕ) (k n : ℕ) → length p ≡ k → length r ≡ n
    → take k (p ++ drop k d) ++ (r ++ drop n (drop k (p ++ drop k d))) ≡ onto d (p ++ r)
behind d p r k n ep er =
    let l : length (p ++ r) ≡ k + n = simp length-append (omega arith) in
    rw (take_at p (drop k d) k ep, drop_at p (drop k d) k ep, drop-drop n k d, l) (sym (append_assoc p r (drop (k + n) d)))

-- a copy, part by part
copied : (d : List ℕ) (at : ℕ) (s : List ℕ) (from n : ℕ) → at + n ≤ length d → from + n ≤ length s
    → splice d at s from n ≡ take at d ++ (take n (drop from s) ++ drop n (drop at d))
copied d at s from n h k = rw (splice-in d at s from n h k, append_assoc (take at d) (take n (drop from s)) (drop (at + n) d), drop-drop n at d) refl

-- a copy to the front
in-front : (d s : List ℕ) (from n : ℕ) → n ≤ length d → from + n ≤ length s → splice d 0 s from n ≡ take n (drop from s) ++ drop n d
in-front d s from n h k = copied d 0 s from n (omega arith) k

-- bytes held, moved down
pub lowered : (d : List ℕ) (from n : ℕ) → from + n ≤ length d → splice d 0 d from n ≡ take n (drop from d) ++ drop n d
lowered d from n h = in-front d d from n (omega arith) h

-- one byte more
pub lowered-more : (d : List ℕ) (from i : ℕ) → from + i < length d
    → set (splice d 0 d from i) i (get_or (splice d 0 d from i) (from + i) 0) ≡ splice d 0 d from (i + 1)
lowered-more d from i h =
    let z : 0 + i ≡ i = omega arith in
    rw (get_d-splice-past d 0 d from i (from + i) (omega arith) (omega arith) (omega arith)) (rw z at (splice-suc d 0 d from i (omega arith) h))

-- packets over the front of the output
pub put_over : (held fed out : List ℕ) (len m : ℕ) → m ≡ min len (length held) → len ≤ length (held ++ fed) → (p r : List ℕ) → p ≡ take m held → r ≡ take (len - m) fed
    → take m (p ++ drop m out) ++ (r ++ drop (len - m) (drop m (p ++ drop m out))) ≡ onto out (take len (held ++ fed))
put_over held fed out len m e h p r ep er =
    let n : length held + length fed ≡ length (held ++ fed) = sym (length-append held fed) in
    let lp : length p ≡ m = rw ep (length-take-le m held (omega arith)) in
    let lr : length r ≡ len - m = rw er (length-take-le (len - m) fed (omega arith)) in
    behind out p r m (len - m) lp lr ∙ rw (ep, er, front-parts held fed len m e)

-- what is left over the front of the bytes held: those that were held go down, those fed behind them
pub kept_over : (held fed : List ℕ) (count len m : ℕ) → m ≡ min len count → count ≤ length held → (h r : List ℕ) (n : ℕ)
    → h ≡ take (count - m) (drop m held) ++ drop (count - m) held → r ≡ take (length fed - (len - m)) (drop (len - m) fed) → n ≡ length r
    → take (count - m) h ++ (r ++ drop n (drop (count - m) h)) ≡ onto held (drop len (take count held ++ fed))
kept_over held fed count len m e big h r n eh er en =
    let size : length (take count held) ≡ count = length-take-le count held big in
    let g : m ≡ min len (length (take count held)) = rw size e in
    let p = take (count - m) (drop m held) in
    let lp : length p ≡ count - m = length-take-le (count - m) (drop m held) (simp length-drop (omega arith)) in
    let all : take (length fed - (len - m)) (drop (len - m) fed) ≡ drop (len - m) fed = take_all (length fed - (len - m)) (drop (len - m) fed) (simp length-drop (omega arith)) in
    let q : p ++ r ≡ drop len (take count held ++ fed) = rw (er, all, between_is held m count) (rest-parts (take count held) fed len m g) in
    rw eh (behind held p r (count - m) n lp (sym en) ∙ ap (onto held) q)

-- the two copies of a feed's packets
pub put_both : (held fed out : List ℕ) (len m : ℕ) → m ≡ min len (length held) → len ≤ length (held ++ fed) → length (held ++ fed) ≤ length out
    → (mid : List ℕ) → mid ≡ splice out 0 held 0 m → (o : List ℕ) → o ≡ splice mid m fed 0 (len - m) → o ≡ onto out (take len (held ++ fed))
put_both held fed out len m e h room mid em o eo =
    let n : length held + length fed ≡ length (held ++ fed) = sym (length-append held fed) in
    let front : mid ≡ take m held ++ drop m out = em ∙ in-front out held 0 m (omega arith) (omega arith) in
    let size : length mid ≡ length out = rw em (length-splice out 0 held 0 m) in
    eo
    ∙ copied mid m fed 0 (len - m) (omega arith) (omega arith)
    ∙ rw front (put_over held fed out len m e h (take m held) (take (len - m) fed) refl refl)

-- the two copies of what a feed leaves
pub kept_both : (held fed : List ℕ) (count len m : ℕ) → m ≡ min len count → count ≤ length held → len ≤ count + length fed → count + length fed ≤ len + length held
    → (h : List ℕ) → h ≡ take (count - m) (drop m held) ++ drop (count - m) held
    → (o : List ℕ) → o ≡ splice h (count - m) fed (len - m) (length fed - (len - m)) → o ≡ onto held (drop len (take count held ++ fed))
kept_both held fed count len m e big few room h eh o eo =
    let n : ℕ = length fed - (len - m) in
    let p : List ℕ = take (count - m) (drop m held) in
    let lp : length p ≡ count - m = length-take-le (count - m) (drop m held) (simp length-drop (omega arith)) in
    let size : length h ≡ length held = rw eh (simp (length-append, length-drop, lp) (omega arith)) in
    let last : n ≡ length (take n (drop (len - m) fed)) = sym (length-take-le n (drop (len - m) fed) (simp length-drop (omega arith))) in
    eo
    ∙ copied h (count - m) fed (len - m) n (omega arith) (omega arith)
    ∙ kept_over held fed count len m e big h (take n (drop (len - m) fed)) n eh refl last
