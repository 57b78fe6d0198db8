-- The Rust's way: for each entry `retain` and `push`, and then one stable sort by declaration. The theorem `as-rust` (proofs/AsRust)
-- says that it leaves the list that the table holds.
use Rattle.std.specs.Prelude.{ℕ, List, [], ◌∷◌, ◌++◌, Option, Some, None}
use Rattle.gatt_characteristics.specs.Characteristic.{without, put, told}
use Rattle.gatt_characteristics.specs.declared.Characteristic.{Characteristic}

-- a stable sort by declaration
unfoldable pub sorted : List Characteristic → List Characteristic
sorted [] = []
sorted (x ∷ xs) = put x (sorted xs)

-- retain and push for each
unfoldable pub pushed : List Characteristic → List Characteristic → List Characteristic
pushed l [] = l
pushed l (c ∷ cs) = pushed (without c.declaration l ++ (c ∷ [])) cs

-- by what an entry tells
abbrev pub and_then : Option Characteristic → List Characteristic → List Characteristic
and_then (Some c) l = c ∷ l
and_then None l = l

-- the characteristics that the entries tell of
unfoldable pub told_all : List (List ℕ) → List Characteristic
told_all [] = []
told_all (e ∷ es) = and_then (told e) (told_all es)
