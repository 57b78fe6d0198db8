-- A UUID, and the bytes that ATT carries for it: Core Vol 3 Part B 2.5.1 (UUID) and Part F 3.2.1 (attribute type).
use Rattle.std.specs.Prelude.{ℕ, ◌+◌, ◌-◌, ◌*◌, ◌/◌, ◌%◌, ◌^◌, ◌<◌, ◌≡◌, List, ◌++◌, Bool, ◌&&◌, length, replicate, eqb, ltb, Option, Some, None}
use Rattle.bytes_base.specs.Choice.{pick}
use Rattle.bytes_base.specs.Bytes.{le, le_bytes}
use Rattle.uuid_value.specs.declared.Uuid.{Uuid}
use Rattle.uuid_value.specs.declared.Att.{Att}

-- the Bluetooth Base UUID, 00000000-0000-1000-8000-00805F9B34FB
abbrev pub base_uuid : ℕ
base_uuid = 0x0000_0000_0000_1000_8000_0080_5F9B_34FB

-- the 128-bit number that the two halves make
abbrev pub num : Uuid → ℕ
num u = u.low + 2 ^ 64 * u.high

-- the halves of a 128-bit number
abbrev pub of_num : ℕ → Uuid
of_num n = record { low = n % 2 ^ 64; high = n / 2 ^ 64 }

-- the 128-bit number that a 16-bit or 32-bit UUID stands for
abbrev pub short : ℕ → ℕ
short v = v * 2 ^ 96 + base_uuid

abbrev pub short_of : ℕ → Uuid
short_of v = of_num (short v)

-- whether a 128-bit number is what a 16-bit UUID stands for
abbrev pub is_short : ℕ → Bool
is_short n = eqb (n % 2 ^ 96) base_uuid && ltb (n / 2 ^ 96) (2 ^ 16)

-- the same as a fact: n is what a 16-bit UUID, its value, stands for
pub record Short (n : ℕ) : Type 0 where
  pub value : ℕ
  pub small : value < 2 ^ 16
  pub same : n ≡ short value

-- the UUID that bytes of ATT are: 2 of them a 16-bit one, 16 of them a 128-bit one
unfoldable pub att_uuid : List ℕ → Option Uuid
att_uuid s = pick (eqb (length s) 2) (Some (short_of (le s))) (pick (eqb (length s) 16) (Some (of_num (le s))) None)

-- the bytes of ATT for a UUID: 2 where a 16-bit one stands for it, else 16
unfoldable pub att_bytes : ℕ → List ℕ
att_bytes n = pick (is_short n) (le_bytes 2 (n / 2 ^ 96)) (le_bytes 16 n)

-- the same, in a place of 16 bytes with zeros behind
abbrev pub att_of : ℕ → Att
att_of n = record { len = length (att_bytes n); bytes = att_bytes n ++ replicate (16 - length (att_bytes n)) 0 }
