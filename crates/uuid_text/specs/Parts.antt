-- What the private functions say of their parts of the work. No promise rests on these words: `parse` is held to `parse_uuid`.
use Rattle.std.specs.Prelude.{ℕ, ◌≤◌, ◌<◌, ◌≡◌, List, Option, Some, None, length, take, ltb}
use Rattle.bytes_base.specs.Choice.{pick}
use Rattle.uuid_text.specs.declared.Digits.{Digits}
use Rattle.uuid_text.specs.Text.{digit_of, is_number, number_of, plain}

-- the value of a hex digit, if a byte is one
unfoldable pub digit_in : ℕ → Option ℕ
digit_in b = pick (ltb (digit_of b) 16) (Some (digit_of b)) None

-- the number that bytes are, if they are one
unfoldable pub number_in : List ℕ → Option ℕ
number_in s = pick (is_number s) (Some (number_of s)) None

-- the bytes of s without hyphens, if these are at most 32
abbrev pub Stripped : List ℕ → Option Digits → Type 0
Stripped s (Some d) = (d.len ≤ 32) × (plain s ≡ take d.len d.hex)
Stripped s None = 32 < length (plain s)
