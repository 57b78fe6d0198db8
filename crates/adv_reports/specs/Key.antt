-- A device address and its type as one number, by which advertisers are told apart (Core Vol 6 Part B 1.3: an address has 48 bits, and is public or random).
use Rattle.std.specs.Prelude.{ℕ, suc, ◌+◌, ◌*◌, ◌/◌, ◌%◌, List, [], ◌∷◌, eqb, leb}
use Rattle.bytes_base.specs.Choice.{pick}
unfoldable pub use Rattle.bytes_base.specs.Choice.{among}
use Rattle.state.specs.declared.Address.{Address}

-- 2^32, 2^16 and 2^48
abbrev pub low_part : ℕ
low_part = 4294967296

abbrev pub high_part : ℕ
high_part = 65536

abbrev pub random_part : ℕ
random_part = 281474976710656

-- low + 2^32 * high + 2^48 * random
unfoldable pub key : Address → ℕ
key a = a.low + low_part * a.high + pick a.random random_part 0

-- the address of a number
unfoldable pub address_of : ℕ → Address
address_of k = record { low = k % low_part; high = k / low_part % high_part; random = leb random_part k }

-- the position of the first k in a list, or the list's length where there is none
unfoldable pub seek : ℕ → List ℕ → ℕ
seek k [] = 0
seek k (x ∷ l) = pick (eqb x k) 0 (suc (seek k l))
