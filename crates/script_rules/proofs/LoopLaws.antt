-- A definition that takes one step after another while it can go on, at most n of them: what it is once n is enough.
use Prim.Native.Nat.{ℕ, zero, suc, ◌+◌, ◌≤◌}
use mathlib.Core.Path.{◌≡◌, refl, sym, ap, subst, ◌∙◌}
use mathlib.Core.Bool.{Bool, true, false}
use native.Mathlib.Omega.{arith}
use Rattle.bytes_base.specs.Choice.{pick}

-- steps that keep something, each with fewer left to do
pub record Falls {A : Type 0} (Good : A → Type 0) (count : A → ℕ) (a b : A) : Type 0 where
  pub good : Good b
  pub fewer : count b + 1 ≤ count a

module _ {A : Type 0} (f : ℕ → A → A) (go : A → Bool) (step : A → A) (count : A → ℕ) (Good : A → Type 0)
    (none : (a : A) → f zero a ≡ a) (one : (n : ℕ) (a : A) → f (suc n) a ≡ pick (go a) (f n (step a)) a)
    (falls : (a : A) → Good a → go a ≡ true → Falls Good count a (step a)) where
  pub stop : (n : ℕ) (a : A) → go a ≡ false → f n a ≡ a
  stop zero a e = none a
  stop (suc n) a e = one n a ∙ ap (λ (b : Bool). pick b (f n (step a)) a) e

  pub more : (n : ℕ) (a : A) → go a ≡ true → f (suc n) a ≡ f n (step a)
  more n a e = one n a ∙ ap (λ (b : Bool). pick b (f n (step a)) a) e

  -- with none left to do it does not go on
  pub over : (a : A) → Good a → count a ≤ 0 → go a ≡ false
  over a g h = by (go a) refl
    where
      by : (b : Bool) → go a ≡ b → b ≡ false
      by true e = absurd (omega (arith, (falls a g e).fewer))
      by false e = refl

  -- as many as are left, or more, are all the same
  pub enough : (n m : ℕ) (a : A) → Good a → count a ≤ n → count a ≤ m → f n a ≡ f m a
  enough zero m a g h k = none a ∙ sym (stop m a (over a g h))
  enough (suc n) zero a g h k = stop (suc n) a (over a g k) ∙ sym (none a)
  enough (suc n) (suc m) a g h k =
      one n a
      ∙ by (go a) refl (λ d. enough n m (step a) d.good (omega (arith, d.fewer)) (omega (arith, d.fewer)))
      ∙ sym (one m a)
    where
      by : (b : Bool) → go a ≡ b → (Falls Good count a (step a) → f n (step a) ≡ f m (step a)) → pick b (f n (step a)) a ≡ pick b (f m (step a)) a
      by true e i = i (falls a g e)
      by false e i = refl

  -- one step on, what is left to do comes to the same
  pub same : (a b : A) → Good a → go a ≡ true → b ≡ step a → f (count b) b ≡ f (count a) a
  same a b g e q = subst (λ (x : A). f (count x) x ≡ f (count a) a) (sym q) (by (count a) refl)
    where
      d : Falls Good count a (step a)
      d = falls a g e

      by : (n : ℕ) → count a ≡ n → f (count (step a)) (step a) ≡ f n a
      by zero h = absurd (omega (arith, d.fewer))
      by (suc n) h = enough (count (step a)) n (step a) d.good (omega arith) (omega (arith, d.fewer)) ∙ sym (more n a e)

  -- at the end it is kept, and nothing can go on
  pub ends : (n : ℕ) (a : A) → Good a → count a ≤ n → (Good (f n a)) × (go (f n a) ≡ false)
  ends zero a g h = rw (none a) (g, over a g h)
  ends (suc n) a g h = rw (one n a) (by (go a) refl (λ d. ends n (step a) d.good (omega (arith, d.fewer))))
    where
      by : (b : Bool) → go a ≡ b → (Falls Good count a (step a) → (Good (f n (step a))) × (go (f n (step a)) ≡ false)) → (Good (pick b (f n (step a)) a)) × (go (pick b (f n (step a)) a) ≡ false)
      by true e i = i (falls a g e)
      by false e i = (g, e)
