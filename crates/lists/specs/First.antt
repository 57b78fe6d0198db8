-- The first of a list that passes a test.
use Rattle.std.specs.Prelude.{Bool, List, [], ◌∷◌}
use Rattle.bytes_base.specs.Choice.{pick}

-- what it is taken for, or else the other
unfoldable pub first : {A R : Type 0} → (A → Bool) → (A → R) → R → List A → R
first hit is other [] = other
first hit is other (x ∷ xs) = pick (hit x) (is x) (first hit is other xs)
