-- A loop over a list that asks the same of each.
use Prim.Native.Nat.{ℕ, ◌+◌, ◌≤◌, ◌<◌}
use mathlib.Core.Path.{◌≡◌, sym, ap, ◌∙◌}
use mathlib.Core.Bool.{Bool, true, false, ◌&&◌}
use mathlib.Core.List.{List, ◌∷◌}
use native.Mathlib.Numerals.{add-one}
use lib.ListN.{length, drop, get_or, drop_of_length-le}
use lib.Seq.{drop-cons}
use Rattle.lists.specs.Queue.{all}

module _ {A : Type 0} (f : A → Bool) (l : List A) (i : ℕ) where
  one-more : (z : A) (b : Bool) → i < length l → b ≡ f (get_or l i z) → all f (drop i l) ≡ (b && all f (drop (i + 1) l))
  unfolding all
  one-more z b h e =
      ap (all f) (drop-cons l i z h ∙ ap (λ (m : ℕ). get_or l i z ∷ drop m l) (sym (add-one i)))
      ∙ ap (λ (x : Bool). x && all f (drop (i + 1) l)) (sym e)

  pub passes : (z : A) (b : Bool) → i < length l → b ≡ f (get_or l i z) → b ≡ true → all f (drop i l) ≡ all f (drop (i + 1) l)
  passes z b h e t = one-more z b h e ∙ ap (λ (x : Bool). x && all f (drop (i + 1) l)) t

  pub fails : (z : A) (b : Bool) → i < length l → b ≡ f (get_or l i z) → b ≡ false → all f (drop i l) ≡ false
  fails z b h e t = one-more z b h e ∙ ap (λ (x : Bool). x && all f (drop (i + 1) l)) t

  pub at-end : length l ≤ i → all f (drop i l) ≡ true
  unfolding all
  at-end h = ap (all f) (drop_of_length-le l {i = i} h)
