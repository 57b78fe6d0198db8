-- Worked answers: the definitions compute.
use Rattle.std.specs.Prelude.{ℕ, ◌≡◌, refl, List, [], ◌∷◌, Option, Some, None}
use Rattle.bytes_base.specs.Bytes.{le, le_at}
use Rattle.uuid_value.specs.Value.{att_uuid, short_of}
use Rattle.lists.specs.Cut.{entries, chunks}
use Rattle.lists.specs.First.{first}
use Rattle.gatt_characteristics.specs.declared.Characteristic.{Characteristic}
use Rattle.gatt_descriptors.specs.Range.{declared_in, stop, first_range}
use Rattle.gatt_descriptors.specs.Named.{give, given, given_all, after}

abbrev one : ℕ → ℕ → Option ℕ → Characteristic
one d v k = record { declaration = d; properties = 16; value_handle = v; uuid = short_of 0x2A19; cccd = k }

-- two characteristics of the service 1 to 9, and one of the next
abbrev three : List Characteristic
three = one 2 3 None ∷ one 5 6 (Some 7) ∷ one 11 12 None ∷ []

-- the first has the handle 4 for descriptors; from 5 on it is the second's turn, up to the end of the service
from_start : first_range 1 9 (declared_in 1 9 three) ≡ Some (4, 4)
unfolding first_range declared_in stop
from_start = refl

from-five : first_range 5 9 (declared_in 1 9 three) ≡ Some (7, 9)
unfolding first_range declared_in stop
from-five = refl

-- a value at FFFF has no handle after it
at-the-end : first_range 1 0xFFFF (declared_in 1 0xFFFF (one 0xFFFE 0xFFFF None ∷ [])) ≡ None
unfolding first_range declared_in stop
at-the-end = refl

-- handles 4 (a CCCD, for the first), 8 (a CCCD, for the second, that has one) and 9 (another type)
abbrev answer : List ℕ
answer = 4 ∷ 0 ∷ 2 ∷ 0x29 ∷ 8 ∷ 0 ∷ 2 ∷ 0x29 ∷ 9 ∷ 0 ∷ 1 ∷ 0x29 ∷ []

marks-one : given_all three (entries 4 answer) ≡ one 2 3 (Some 4) ∷ one 5 6 (Some 7) ∷ one 11 12 None ∷ []
unfolding given_all given give first entries chunks le le_at att_uuid
marks-one = refl

ten : after 1 (entries 4 answer) ≡ 10
unfolding after entries chunks le le_at
ten = refl
