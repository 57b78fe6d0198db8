-- Laws of a part of the bytes, and of the entries in it.
use Prim.Native.Nat.{ℕ, zero, suc, ◌+◌, ◌-◌, ◌/◌, ◌≤◌, ◌<◌}
use mathlib.Core.Path.{◌≡◌, sym, ap, ap₂, ◌∙◌}
use mathlib.Core.List.{List, [], ◌∷◌, ◌++◌}
use native.Mathlib.Numerals.{add-one}
use native.Mathlib.Nat.{div-eq_of_lt, div-eq-sub-div}
use native.Mathlib.Omega.{arith}
use lib.ListN.{length, take, drop, get_or, length-drop}
use lib.ListN.{length-append}
use lib.Seq.{take-take, drop-drop, length-take-le, get_or-take, get_or-drop, take-append_seam, drop-append_seam}
use Rattle.std.proofs.lemmas.List.{drop-take}
use Rattle.bytes_base.specs.Bytes.{le, le_at}
use Rattle.bytes_base.proofs.ByteLaws.{le_at-in}
use Rattle.lists.specs.Cut.{chunks, entries, part}

-- ---- a part

length_part : (a b : ℕ) (s : List ℕ) → a ≤ b → b ≤ length s → length (part a b s) ≡ b - a
length_part a b s h g = length-take-le (b - a) (drop a s) (rw length-drop (omega arith))

-- the first n bytes of a part, and the rest
take_part : (a b n : ℕ) (s : List ℕ) → a + n ≤ b → take n (part a b s) ≡ take n (drop a s)
take_part a b n s h = take-take n (b - a) (drop a s) (omega arith)

pub drop-part : (a b n : ℕ) (s : List ℕ) → a + n ≤ b → drop n (part a b s) ≡ part (a + n) b s
drop-part a b n s h =
    let e : b - a ≡ n + (b - (a + n)) = omega arith in
    ap (λ (k : ℕ). drop n (take k (drop a s))) e
    ∙ drop-take n (b - (a + n)) (drop a s)
    ∙ ap (λ (l : List ℕ). take (b - (a + n)) l) (drop-drop n a s)

-- a byte of a part, and a number in it, read where the part stands
pub byte-part : (a b i : ℕ) (s : List ℕ) → a + i < b → get_or (part a b s) i 0 ≡ get_or s (a + i) 0
byte-part a b i s h = get_or-take (b - a) (drop a s) i 0 (omega arith) ∙ get_or-drop a s i 0

pub le_at-part : (w a b i at : ℕ) (s : List ℕ) → a + i ≡ at → at + w ≤ b → b ≤ length s → le_at w s at ≡ le_at w (part a b s) i
le_at-part w a b i at s e h g =
    let l : length (part a b s) ≡ b - a = length_part a b s (omega arith) g in
    le_at-in w s at (omega arith)
    ∙ ap le (ap (λ (k : ℕ). take w (drop k s)) (sym e) ∙ sym (take_part (a + i) b w s (omega arith)) ∙ ap (take w) (sym (drop-part a b i s (omega arith))))
    ∙ sym (le_at-in w (part a b s) i (omega arith))

-- ---- entries

-- where an entry fits, it is the first, and the others follow it
pub entry_here : (k a b : ℕ) (s : List ℕ) → 0 < k → a + k ≤ b → b ≤ length s
    → entries k (part a b s) ≡ part a (a + k) s ∷ entries k (part (a + k) b s)
unfolding entries chunks
entry_here k a b s p h g =
    let l₁ : length (part a b s) ≡ b - a = length_part a b s (omega arith) g in
    let l₂ : length (part (a + k) b s) ≡ b - (a + k) = length_part (a + k) b s h g in
    let e : b - a - k ≡ b - (a + k) = omega arith in
    let f : a + k - a ≡ k = omega arith in
    let d : (b - a) / k ≡ suc ((b - (a + k)) / k) =
    div-eq-sub-div {m = k} {n = b - a} p (omega arith) ∙ ap (λ (n : ℕ). n / k + 1) e ∙ add-one ((b - (a + k)) / k) in
    ap (λ (n : ℕ). chunks n k (part a b s)) (ap (λ (n : ℕ). n / k) l₁ ∙ d)
    ∙ ap₂ (λ (x : List ℕ) (y : List (List ℕ)). x ∷ y) (take_part a b k s h ∙ ap (λ (n : ℕ). take n (drop a s)) (sym f))
    (ap (λ (y : List ℕ). chunks ((b - (a + k)) / k) k y) (drop-part a b k s h)
    ∙ ap (λ (n : ℕ). chunks (n / k) k (part (a + k) b s)) (sym l₂))

-- where none fits, there is none
pub entry-end : (k a b : ℕ) (s : List ℕ) → a ≤ b → b < a + k → b ≤ length s → entries k (part a b s) ≡ []
unfolding entries chunks
entry-end k a b s h q g =
    ap (λ (n : ℕ). chunks (n / k) k (part a b s)) (length_part a b s h g)
    ∙ ap (λ (n : ℕ). chunks n k (part a b s)) (div-eq_of_lt {n = b - a} {m = k} (omega arith))

-- the same of bytes that an entry begins, as `chunks_exact` gives them
pub entries-first : (k : ℕ) (e s : List ℕ) → 0 < k → length e ≡ k → entries k (e ++ s) ≡ e ∷ entries k s
unfolding entries chunks
entries-first k e s p l =
    let n : length (e ++ s) - k ≡ length s = rw (length-append e s) (omega arith) in
    let h : k ≤ length (e ++ s) = rw (length-append e s) (omega arith) in
    let d : length (e ++ s) / k ≡ suc (length s / k) =
    div-eq-sub-div {m = k} {n = length (e ++ s)} p h ∙ ap (λ (m : ℕ). m / k + 1) n ∙ add-one (length s / k) in
    ap (λ (m : ℕ). chunks m k (e ++ s)) d
    ∙ ap₂ (λ (x : List ℕ) (y : List (List ℕ)). x ∷ y)
    (ap (λ (m : ℕ). take m (e ++ s)) (sym l) ∙ take-append_seam e s)
    (ap (chunks (length s / k) k) (ap (λ (m : ℕ). drop m (e ++ s)) (sym l) ∙ drop-append_seam e s))

pub entries-none : (k : ℕ) (s : List ℕ) → length s < k → entries k s ≡ []
unfolding entries chunks
entries-none k s h = ap (λ (n : ℕ). chunks n k s) (div-eq_of_lt {n = length s} {m = k} h)

-- a part, cut as the code cuts it
pub part-cut : (a b : ℕ) (s : List ℕ) → a ≤ b → drop a (take b s) ≡ part a b s
part-cut a b s h =
    let e : b ≡ a + (b - a) = omega arith in
    ap (λ (k : ℕ). drop a (take k s)) e ∙ drop-take a (b - a) s
