use Prim.Native.Nat.{ℕ}
use mathlib.Core.Path.{◌≡◌, refl, ap, ◌∙◌}
use mathlib.Core.Bool.{true, false}
use mathlib.Core.List.{List}
use Rattle.bytes_base.specs.Splice.{splice}
use Rattle.uuid_value.specs.declared.Uuid.{Uuid}
use Rattle.std.specs.Prelude.{Option, Some, None}
use Rattle.tool_leaf_exports.specs.Answer.{is_uuid, low_of, high_of}

-- bytes handed out are the definition's where the bytes that were copied are
pub handed : (d l m e : List ℕ) (n : ℕ) → e ≡ splice d 0 l 0 n → l ≡ m → e ≡ splice d 0 m 0 n
handed d l m e n p q = p ∙ ap (λ (k : List ℕ). splice d 0 k 0 n) q

-- what an export tells of a UUID that was read, and of one that was not
pub read_told : (u : Uuid) (d : Option Uuid) (l h : ℕ) → Some u ≡ d → (true ≡ is_uuid d) × ((u.low ≡ low_of d l) × (u.high ≡ high_of d h))
read_told u d l h e = rw (← e) (refl, (refl, refl))

pub none-told : (d : Option Uuid) (l h : ℕ) → None ≡ d → (false ≡ is_uuid d) × ((l ≡ low_of d l) × (h ≡ high_of d h))
none-told d l h e = rw (← e) (refl, (refl, refl))
