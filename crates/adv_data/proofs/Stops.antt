-- Where the reading stops, one structure at a time: the bytes behind the last one, and whether their first is an overrun.
use Prim.Native.Nat.{ℕ, ◌+◌, ◌-◌, ◌≤◌, ◌<◌}
use mathlib.Core.Path.{◌≡◌, refl, sym, ◌∙◌}
use mathlib.Core.Bool.{true, false}
use mathlib.Core.List.{List, [], ◌∷◌}
use native.Mathlib.Omega.{arith}
use lib.ListN.{length, drop, get_or, length-drop}
use lib.Seq.{drop-drop}
use borrow.Author.Tests.{ne_eqb}
use Rattle.adv_data.specs.Answers.{extent, stop_of, overran}
use Rattle.adv_data.proofs.Structures.{read_at, byte_at, read_here, read-zero, read_past, body-length}

-- the bytes behind the last structure, of those from at on
abbrev pub left_at : ℕ → List ℕ → List ℕ
left_at at s = drop (extent (read_at at s)) (drop at s)

sure-none : (t : List ℕ) → length t ≤ 0 → overran (stop_of t) ≡ false
unfolding stop_of
sure-none [] h = refl
sure-none (x ∷ t) h = absurd (omega arith)

sure-zero : (t : List ℕ) → get_or t 0 0 ≡ 0 → overran (stop_of t) ≡ false
unfolding stop_of
sure-zero [] h = refl
sure-zero (x ∷ t) h = let e : x ≡ 0 = h in rw e

cut : (t : List ℕ) → 0 < length t → (get_or t 0 0 ≡ 0 → ⊥) → overran (stop_of t) ≡ true
unfolding stop_of
cut [] h n = absurd (omega arith)
cut (x ∷ t) h n = rw (ne_eqb x 0 n)

module _ (at : ℕ) (s : List ℕ) where
  -- no structure stands there
  left-all : read_at at s ≡ [] → left_at at s ≡ drop at s
  unfolding extent
  left-all h = rw h

  pub ends : length s ≤ at → overran (stop_of (left_at at s)) ≡ false
  ends h = rw (left-all (read_past at s (omega arith))) (sure-none (drop at s) (rw length-drop (omega arith)))

  pub stops-at-zero : get_or s at 0 ≡ 0 → overran (stop_of (left_at at s)) ≡ false
  stops-at-zero h = rw (left-all (read-zero at s h)) (sure-zero (drop at s) (byte_at at s ∙ h))

  pub stops-on-overrun : at < length s → (get_or s at 0 ≡ 0 → ⊥) → length s - at ≤ get_or s at 0 → overran (stop_of (left_at at s)) ≡ true
  stops-on-overrun i n h =
      rw (left-all (read_past at s h)) (cut (drop at s) (rw length-drop (omega arith)) (λ e. n (sym (byte_at at s) ∙ e)))

  -- a structure of length n stands there
  pub left_here : (n : ℕ) → n ≡ get_or s at 0 → 0 < n → n < length s - at → left_at at s ≡ left_at (at + 1 + n) s
  unfolding extent
  left_here n is some fits =
      let k = extent (read_at (at + 1 + n) s) in
      let e : at + (2 + (n - 1) + k) ≡ at + 1 + n + k = omega arith in
      rw (read_here at s n is some fits, body-length at s n is some fits, drop-drop (2 + (n - 1) + k) at s, drop-drop k (at + 1 + n) s, e)
