-- A table of n places, each by its number.
use Rattle.std.specs.Prelude.{ℕ, zero, suc, List, [], ◌∷◌}

module _ {A : Type 0} where
  -- places i to i + n - 1
  unfoldable pub table_from : ℕ → ℕ → (ℕ → A) → List A
  table_from i zero f = []
  table_from i (suc n) f = f i ∷ table_from (suc i) n f

  abbrev pub table : ℕ → (ℕ → A) → List A
  table n f = table_from 0 n f
