-- The local name of advertising data: Core Supplement Part A 1.2.
use Rattle.std.specs.Prelude.{ℕ, List, [], ◌∷◌, length, Option, Some, None}
use Rattle.bytes_base.specs.Choice.{pick, within}
use Rattle.adv_data.specs.Ad.{Ad, structures}
use Rattle.bytes_bounds.specs.declared.Span.{Span}
use Rattle.utf8.specs.Utf8.{utf8}

-- the first structure that carries the name: kind 08, shortened, or 09, complete
unfoldable pub naming : List Ad → Option Ad
naming [] = None
naming (a ∷ more) = pick (within 0x08 0x09 a.kind) (Some a) (naming more)

-- where its body stands, or nothing where that is no UTF-8
abbrev pub name_of : Option Ad → Option Span
name_of (Some a) = pick (utf8 a.body) (Some (record { at = a.start; len = length a.body })) None
name_of None = None

abbrev pub local_name : List ℕ → Option Span
local_name s = name_of (naming (structures s))
