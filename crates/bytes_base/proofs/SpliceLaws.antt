-- Laws of splice and moved: what callers cite.
use Prim.Native.Nat.{ℕ, ◌+◌, ◌-◌, ◌≤◌, ◌<◌}
use mathlib.Core.Path.{◌≡◌, refl, sym, ap, ◌∙◌}
use mathlib.Core.Bool.{Bool, true, false, ◌&&◌, ◌||◌}
use mathlib.Core.List.{List, ◌++◌, append_assoc}
use mathlib.Core.Logic.{◌⊎◌, ⊎_elim}
use native.Mathlib.Numerals.{add-one}
use native.Mathlib.Omega.{arith}
use lib.ListN.{length, take, drop, get_or, set, length-drop, length-take, get_or-append}
use lib.Seq.{paste, paste-zero, paste-suc, length-paste, get_or-drop, drop-paste, get_or-take}
use lib.Dec.{leb}
use borrow.Author.Tests.{le-leb, lt-leb, leb-true}
use Rattle.bytes_base.specs.Choice.{pick}
use Rattle.bytes_base.specs.Splice.{splice, moved}

-- where both have the bytes
pub splice-in : (d : List ℕ) (at : ℕ) (s : List ℕ) (from n : ℕ) → at + n ≤ length d → from + n ≤ length s
    → splice d at s from n ≡ paste d at (drop from s) n
unfolding splice
splice-in d at s from n hd hs = rw (le-leb (at + n) (length d) hd, le-leb (from + n) (length s) hs)

-- where the destination has them not
pub splice-off : (d : List ℕ) (at : ℕ) (s : List ℕ) (from n : ℕ) → length d < at + n → splice d at s from n ≡ d
unfolding splice
splice-off d at s from n h = rw (lt-leb (at + n) (length d) h)

-- where the source has them not
pub splice-void : (d : List ℕ) (at : ℕ) (s : List ℕ) (from n : ℕ) → at + n ≤ length d → length s < from + n → splice d at s from n ≡ d
unfolding splice
splice-void d at s from n hd h = rw (le-leb (at + n) (length d) hd, lt-leb (from + n) (length s) h)

pub length-splice : (d : List ℕ) (at : ℕ) (s : List ℕ) (from n : ℕ) → length (splice d at s from n) ≡ length d
unfolding splice
length-splice d at s from n = go (leb (at + n) (length d)) (leb (from + n) (length s)) refl refl
  where
    go : (x y : Bool) → leb (at + n) (length d) ≡ x → leb (from + n) (length s) ≡ y → length (pick (x && y) (paste d at (drop from s) n) d) ≡ length d
    go true true ex ey =
        let hs : from + n ≤ length s = leb-true (from + n) (length s) ey in
        length-paste d at (drop from s) n (leb-true (at + n) (length d) ex) (simp length-drop (omega arith))
    go true false ex ey = refl
    go false y ex ey = refl

-- ---- a loop that copies, byte by byte

pub splice-zero : (d : List ℕ) (at : ℕ) (s : List ℕ) (from : ℕ) → at ≤ length d → from ≤ length s → d ≡ splice d at s from 0
splice-zero d at s from hd hs = paste-zero d at (drop from s) ∙ sym (splice-in d at s from 0 (omega arith) (omega arith))

pub splice-suc : (d : List ℕ) (at : ℕ) (s : List ℕ) (from j : ℕ) → at + j < length d → from + j < length s
    → set (splice d at s from j) (at + j) (get_or s (from + j) 0) ≡ splice d at s from (j + 1)
splice-suc d at s from j hd hs =
    let hj : j < length (drop from s) = simp length-drop (omega arith) in
    rw (splice-in d at s from j (omega arith) (omega arith), splice-in d at s from (j + 1) (omega arith) (omega arith))
    (ap (λ (v : ℕ). set (paste d at (drop from s) j) (at + j) v) (sym (get_or-drop from s j 0))
    ∙ paste-suc d at (drop from s) j 0 hd hj
    ∙ ap (λ (k : ℕ). paste d at (drop from s) k) (sym (add-one j)))

-- what lies at or past the end of what was replaced is as it was
pub get_d-splice-past : (d : List ℕ) (at : ℕ) (s : List ℕ) (from n k : ℕ) → at + n ≤ length d → from + n ≤ length s → at + n ≤ k
    → get_or (splice d at s from n) k 0 ≡ get_or d k 0
get_d-splice-past d at s from n k hd hs hk =
    let e : at + n + (k - (at + n)) ≡ k = omega arith in
    let hn : n ≤ length (drop from s) = simp length-drop (omega arith) in
    rw (splice-in d at s from n hd hs)
    (ap (λ (m : ℕ). get_or (paste d at (drop from s) n) m 0) (sym e)
    ∙ sym (get_or-drop (at + n) (paste d at (drop from s) n) (k - (at + n)) 0)
    ∙ ap (λ (l : List ℕ). get_or l (k - (at + n)) 0) (drop-paste d at (drop from s) n (omega arith) hn)
    ∙ get_or-drop (at + n) d (k - (at + n)) 0
    ∙ ap (λ (m : ℕ). get_or d m 0) e)

-- what lies below what was replaced is as it was
pub get_d-splice-below : (d : List ℕ) (at : ℕ) (s : List ℕ) (from n k : ℕ) → at + n ≤ length d → from + n ≤ length s → k < at
    → get_or (splice d at s from n) k 0 ≡ get_or d k 0
get_d-splice-below d at s from n k hd hs hk =
    let hp : k < length (take at d) = simp length-take (omega arith) in
    rw (splice-in d at s from n hd hs, append_assoc (take at d) (take n (drop from s)) (drop (at + n) d))
    (get_or-append (take at d) (take n (drop from s) ++ drop (at + n) d) 0 k hp ∙ get_or-take at d k 0 hk)

-- a byte yet to be read by a copy within d, downward or to a disjoint place, is as it was
pub get_d-splice-apart : (d : List ℕ) (at from n j : ℕ) → at + n ≤ length d → from + n ≤ length d → j < n → (at ≤ from) ⊎ (from + n ≤ at)
    → get_or (splice d at d from j) (from + j) 0 ≡ get_or d (from + j) 0
get_d-splice-apart d at from n j hd hs hj w =
    ⊎_elim
    (λ h. get_d-splice-past d at d from j (from + j) (omega arith) (omega arith) (omega arith))
    (λ h. get_d-splice-below d at d from j (from + j) (omega arith) (omega arith) (omega arith))
    w

-- ---- within one list

pub moved_down : (d : List ℕ) (at from n : ℕ) → at ≤ from → moved d at from n ≡ splice d at d from n
unfolding moved
moved_down d at from n h = rw (le-leb at from h)

pub moved_apart : (d : List ℕ) (at from n : ℕ) → from < at → from + n ≤ at → moved d at from n ≡ splice d at d from n
unfolding moved
moved_apart d at from n h k = rw (lt-leb at from h, le-leb (from + n) at k)

pub moved-over : (d : List ℕ) (at from n : ℕ) → from < at → at < from + n → moved d at from n ≡ d
unfolding moved
moved-over d at from n h k = rw (lt-leb at from h, lt-leb (from + n) at k)

same-pick : (x : Bool) (d e : List ℕ) → e ≡ d → pick x e d ≡ d
same-pick true d e h = h
same-pick false d e h = refl

pub moved-off : (d : List ℕ) (at from n : ℕ) → length d < at + n → moved d at from n ≡ d
unfolding moved
moved-off d at from n h = same-pick (leb at from || leb (from + n) at) d (splice d at d from n) (splice-off d at d from n h)

pub moved-void : (d : List ℕ) (at from n : ℕ) → at + n ≤ length d → length d < from + n → moved d at from n ≡ d
unfolding moved
moved-void d at from n h k = same-pick (leb at from || leb (from + n) at) d (splice d at d from n) (splice-void d at d from n h k)

pub length_moved : (d : List ℕ) (at from n : ℕ) → length (moved d at from n) ≡ length d
unfolding moved
length_moved d at from n = go (leb at from || leb (from + n) at)
  where
    go : (x : Bool) → length (pick x (splice d at d from n) d) ≡ length d
    go true = length-splice d at d from n
    go false = refl
