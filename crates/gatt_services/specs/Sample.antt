-- Worked answers: the definitions compute.
use Rattle.std.specs.Prelude.{ℕ, ◌≡◌, refl, true, false, List, [], ◌∷◌, Some}
use Rattle.bytes_base.specs.Bytes.{le, le_at}
use Rattle.uuid_value.specs.Value.{att_uuid, short_of}
use Rattle.lists.specs.Cut.{entries, chunks}
use Rattle.lists.specs.First.{first}
use Rattle.lists.specs.Taken.{have, taken}
use Rattle.gatt_services.specs.Service.{more, with-one, told, end_of, service_with}
use Rattle.gatt_services.specs.declared.Service.{Service}

abbrev old : Service
old = record { start = 6; end = 7; uuid = short_of 0x1800 }

abbrev new : Service
new = record { start = 1; end = 5; uuid = short_of 0x180F }

-- two services of 16-bit UUIDs and a byte left over; the second starts where a known one does, and is skipped
abbrev answer : List ℕ
answer = 1 ∷ 0 ∷ 5 ∷ 0 ∷ 0x0F ∷ 0x18 ∷ 6 ∷ 0 ∷ 9 ∷ 0 ∷ 1 ∷ 0x18 ∷ 7 ∷ []

two : taken more end_of 32 (old ∷ []) 65535 (entries 6 answer) ≡ have (old ∷ new ∷ []) 9 false
unfolding taken with-one told first entries chunks le le_at att_uuid
two = refl

-- where the table has one place only, the first of them has none, and the answer ends there
one_place : taken more end_of 1 (old ∷ []) 65535 (entries 6 answer) ≡ have (old ∷ []) 65535 true
unfolding taken with-one told first entries chunks le le_at att_uuid
one_place = refl

the-first : service_with (short_of 0x180F) (old ∷ new ∷ []) ≡ Some new
unfolding first
the-first = refl
