-- Numbers in bytes, the least significant first: Core Vol 3 Part A 3 and Part F 3.3.1 (fields of several octets are little-endian).
use Rattle.std.specs.Prelude.{ℕ, zero, suc, ◌+◌, ◌*◌, ◌/◌, ◌%◌, List, [], ◌∷◌, length, take, drop, leb}
use Rattle.bytes_base.specs.Choice.{pick}

-- the number that bytes stand for
unfoldable pub le : List ℕ → ℕ
le [] = 0
le (b ∷ bs) = b + 256 * le bs

-- the first n bytes of a number
unfoldable pub le_bytes : ℕ → ℕ → List ℕ
le_bytes zero v = []
le_bytes (suc n) v = v % 256 ∷ le_bytes n (v / 256)

-- the number in the w bytes from at on, or 0 where fewer are there
unfoldable pub le_at : ℕ → List ℕ → ℕ → ℕ
le_at w s at = pick (leb (at + w) (length s)) (le (take w (drop at s))) 0
