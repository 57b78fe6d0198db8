-- A packet is written piece by piece: pieces that follow one another are one.
use Prim.Native.Nat.{ℕ, zero, suc, ◌+◌, ◌*◌, ◌-◌, ◌≤◌, ◌<◌}
use mathlib.Core.Path.{◌≡◌, refl, sym, ap, ◌∙◌}
use mathlib.Core.List.{List, [], ◌∷◌, ◌++◌, append_assoc, append-nil}
use native.Mathlib.Omega.{arith}
use lib.ListN.{length, take, drop, get_or, length-append}
use lib.Seq.{take_at, drop_at, drop-drop, length-take-le}
use Rattle.std.proofs.lemmas.List.{take_all, take_more, take-append-drop}
use native.Mathlib.Nat.{add-zero}
use Rattle.std.specs.Int.{w16, to_le_bytes}
use Rattle.bytes_base.specs.Bytes.{le_bytes}
use Rattle.bytes_base.specs.Splice.{splice}
use Rattle.bytes_base.proofs.SpliceLaws.{splice-in}
use Rattle.h4_builders.specs.Events.{number_bytes, pair_bytes}
use Rattle.h4_builders.specs.Build.{written_at}

-- bytes stored into the part from at to end
pub stored : (o : List ℕ) (at end : ℕ) (v : List ℕ) → end ≡ at + length v → take at o ++ (v ++ drop (end - at) (drop at o)) ≡ written_at o at v
stored o at end v e =
    let n : end - at ≡ length v = omega arith in
    rw (n, drop-drop (length v) at o)

-- bytes copied to the place at
pub spliced : (o : List ℕ) (at : ℕ) (v : List ℕ) → at + length v ≤ length o → splice o at v 0 (length v) ≡ written_at o at v
spliced o at v h = rw (splice-in o at v 0 (length v) h (omega arith), append_assoc (take at o) (take (length v) v) (drop (at + length v) o), take_all (length v) v (omega arith)) refl

-- one piece behind another
pub onward : (o : List ℕ) (at : ℕ) (v w : List ℕ) → at ≤ length o → (o₁ : List ℕ) → o₁ ≡ written_at o at v
    → (end : ℕ) → end ≡ at + length v → (o₂ : List ℕ) → o₂ ≡ written_at o₁ end w → o₂ ≡ written_at o at (v ++ w)
onward o at v w h o₁ e₁ end en o₂ e₂ =
    let p : List ℕ = take at o ++ v in
    let r : List ℕ = drop (at + length v) o in
    let lp : length p ≡ end = simp (length-append, length-take-le at o h) (omega arith) in
    let joined : take at o ++ (v ++ r) ≡ p ++ r = sym (append_assoc (take at o) v r) in
    let front : take end (p ++ r) ≡ p = take_at p r end lp in
    let rest : drop (end + length w) (p ++ r) ≡ drop (end + length w) o =
    sym (drop-drop (length w) end (p ++ r)) ∙ (ap (λ (l : List ℕ). drop (length w) l) (drop_at p r end lp)
    ∙ (drop-drop (length w) (at + length v) o ∙ ap (λ (k : ℕ). drop (k + length w) o) (sym en))) in
    let sum : end + length w ≡ at + length (v ++ w) = simp length-append (omega arith) in
    rw (e₂, e₁, joined, front, rest, sum)
    (append_assoc (take at o) v (w ++ drop (at + length (v ++ w)) o)
    ∙ ap (λ (l : List ℕ). take at o ++ l) (sym (append_assoc v w (drop (at + length (v ++ w)) o))))

-- ---- numbers

length-numbers : (l : List ℕ) → length (number_bytes l) ≡ 2 * length l
unfolding number_bytes le_bytes
length-numbers [] = refl
length-numbers (v ∷ l) = omega (arith, length-numbers l)

numbers-append : (a b : List ℕ) → number_bytes (a ++ b) ≡ number_bytes a ++ number_bytes b
unfolding number_bytes le_bytes
numbers-append [] b = refl
numbers-append (v ∷ a) b = ap (λ (l : List ℕ). le_bytes 2 v ++ l) (numbers-append a b)

numbers-more : (l : List ℕ) (i : ℕ) → i < length l → number_bytes (take (i + 1) l) ≡ number_bytes (take i l) ++ le_bytes 2 (get_or l i 0)
unfolding number_bytes
numbers-more l i h =
    ap number_bytes (take_more l i 0 h) ∙ (numbers-append (take i l) (get_or l i 0 ∷ []) ∙ ap (λ (x : List ℕ). number_bytes (take i l) ++ x) (append-nil (le_bytes 2 (get_or l i 0))))

-- no number yet
pub numbers-none : (o : List ℕ) (at : ℕ) (l : List ℕ) → o ≡ written_at o at (number_bytes (take 0 l))
unfolding number_bytes
numbers-none o at l = rw add-zero (sym (take-append-drop at o))

-- one number more, in two bytes behind the others
pub numbers-behind : (o : List ℕ) (at : ℕ) (l : List ℕ) (i : ℕ) → at ≤ length o → i < length l → (o₁ : List ℕ) → o₁ ≡ written_at o at (number_bytes (take i l))
    → (end : ℕ) → end ≡ at + 2 * i → (w : List ℕ) → w ≡ to_le_bytes w16 (get_or l i 0) → (o₂ : List ℕ) → o₂ ≡ written_at o₁ end w
    → o₂ ≡ written_at o at (number_bytes (take (i + 1) l))
unfolding le_bytes
numbers-behind o at l i h k o₁ e₁ end en w ew o₂ e₂ =
    let size : length (number_bytes (take i l)) ≡ 2 * i = length-numbers (take i l) ∙ ap (λ (n : ℕ). 2 * n) (length-take-le i l (omega arith)) in
    onward o at (number_bytes (take i l)) (le_bytes 2 (get_or l i 0)) h o₁ e₁ end (rw size en) o₂ (rw ew at e₂)
    ∙ ap (written_at o at) (sym (numbers-more l i k))

-- handles and counts by turns are numbers
pub pairs_are : (n : ℕ) (l : List ℕ) → 2 * n ≤ length l → number_bytes (take (2 * n) l) ≡ pair_bytes n l
unfolding pair_bytes number_bytes le_bytes
pairs_are zero l h = refl
pairs_are (suc n) [] h = absurd (omega arith)
pairs_are (suc n) (x ∷ []) h = absurd (omega arith)
pairs_are (suc n) (x ∷ y ∷ l) h =
    let e : 2 * suc n ≡ suc (suc (2 * n)) = omega arith in
    rw e (ap (λ (z : List ℕ). le_bytes 2 x ++ (le_bytes 2 y ++ z)) (pairs_are n l (omega arith)))

pub length_pairs : (n : ℕ) (l : List ℕ) → length (pair_bytes n l) ≡ 4 * n
unfolding pair_bytes le_bytes
length_pairs zero l = refl
length_pairs (suc n) l = omega (arith, length_pairs n (drop 2 l))
