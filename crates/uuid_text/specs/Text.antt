-- A UUID as text: the rule of the Rust's `Uuid::parse`. Hyphens count for nothing; 4 bytes are left, or 32 out of 36, and these
-- are hex digits, the most significant first (RFC 4122 section 3; Core Vol 3 Part B 2.5.1 for what 4 digits stand for).
-- A byte at or above 0x80 is no digit, so that text in UTF-8 needs no further rule.
use Rattle.std.specs.Prelude.{ℕ, ◌+◌, ◌-◌, ◌*◌, List, [], ◌∷◌, Bool, true, ◌&&◌, length, eqb, ltb, Option, Some, None}
use Rattle.bytes_base.specs.Choice.{pick, within}
use Rattle.uuid_value.specs.Value.{short_of, of_num}
use Rattle.uuid_value.specs.declared.Uuid.{Uuid}

-- the value of a hex digit, 0 to 9, A to F, a to f, or 16 where a byte is none
unfoldable pub digit_of : ℕ → ℕ
digit_of b = pick (within 0x30 0x39 b) (b - 0x30) (pick (within 0x41 0x46 b) (b - 0x41 + 10) (pick (within 0x61 0x66 b) (b - 0x61 + 10) 16))

unfoldable pub all_digits : List ℕ → Bool
all_digits [] = true
all_digits (b ∷ s) = ltb (digit_of b) 16 && all_digits s

-- what digits stand for, behind a number that is there already
unfoldable pub value_of : ℕ → List ℕ → ℕ
value_of v [] = v
value_of v (b ∷ s) = value_of (16 * v + digit_of b) s

-- without a plus in front: Rust's number reading takes one there
unfoldable pub unsigned : List ℕ → List ℕ
unsigned [] = []
unsigned (b ∷ s) = pick (eqb b 0x2B) s (b ∷ s)

-- whether bytes are a number, and which
abbrev pub is_number : List ℕ → Bool
is_number s = ltb 0 (length (unsigned s)) && all_digits (unsigned s)

abbrev pub number_of : List ℕ → ℕ
number_of s = value_of 0 (unsigned s)

-- bytes two by two
unfoldable pub pairs : List ℕ → List (List ℕ)
pairs [] = []
pairs (a ∷ []) = []
pairs (a ∷ b ∷ s) = (a ∷ b ∷ []) ∷ pairs s

unfoldable pub all_numbers : List (List ℕ) → Bool
all_numbers [] = true
all_numbers (p ∷ ps) = is_number p && all_numbers ps

-- what numbers of a byte each stand for, behind a number that is there already
unfoldable pub bytes_of : ℕ → List (List ℕ) → ℕ
bytes_of v [] = v
bytes_of v (p ∷ ps) = bytes_of (256 * v + number_of p) ps

-- 4 bytes are read as one number, 32 as 16 numbers of 2
unfoldable pub short_uuid : List ℕ → Option Uuid
short_uuid s = pick (is_number s) (Some (short_of (number_of s))) None

unfoldable pub long_uuid : List ℕ → Option Uuid
long_uuid s = pick (all_numbers (pairs s)) (Some (of_num (bytes_of 0 (pairs s)))) None

-- without hyphens
unfoldable pub plain : List ℕ → List ℕ
plain [] = []
plain (b ∷ s) = pick (eqb b 0x2D) (plain s) (b ∷ plain s)

unfoldable pub parse_uuid : List ℕ → Option Uuid
parse_uuid s =
    pick (eqb (length (plain s)) 4) (short_uuid (plain s))
    (pick (eqb (length (plain s)) 32 && eqb (length s) 36) (long_uuid (plain s)) None)
