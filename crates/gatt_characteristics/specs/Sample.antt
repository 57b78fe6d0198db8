-- Worked answers: the definitions compute.
use Rattle.std.specs.Prelude.{ℕ, ◌≡◌, refl, true, false, List, [], ◌∷◌, Some, None}
use Rattle.bytes_base.specs.Bytes.{le, le_at}
use Rattle.uuid_value.specs.Value.{att_uuid, short_of}
use Rattle.lists.specs.Cut.{entries, chunks}
use Rattle.lists.specs.First.{first}
use Rattle.lists.specs.Taken.{have, taken}
use Rattle.gatt_characteristics.specs.Characteristic.{more, with-one, told, enter, put, without, declaration_of, characteristic_with, rises, up_from}
use Rattle.gatt_characteristics.specs.Rust.{sorted, pushed, told_all}
use Rattle.gatt_characteristics.specs.declared.Characteristic.{Characteristic}

abbrev one : ℕ → ℕ → Characteristic
one d v = record { declaration = d; properties = 2; value_handle = v; uuid = short_of 0x2A19; cccd = None }

abbrev old : Characteristic
old = record { declaration = 5; properties = 16; value_handle = 6; uuid = short_of 0x2A19; cccd = Some 7 }

abbrev answer : List ℕ
answer = 9 ∷ 0 ∷ 2 ∷ 10 ∷ 0 ∷ 0x19 ∷ 0x2A ∷ 5 ∷ 0 ∷ 2 ∷ 6 ∷ 0 ∷ 0x19 ∷ 0x2A ∷ []

-- a new one after, and one replaced, its CCCD gone
two : taken more declaration_of 64 (old ∷ []) 65535 (entries 7 answer) ≡ have (one 5 6 ∷ one 9 10 ∷ []) 5 false
unfolding taken with-one told enter put without entries chunks le le_at att_uuid
two = refl

-- the Rust's way gives the same
two-rust : sorted (pushed (old ∷ []) (told_all (entries 7 answer))) ≡ one 5 6 ∷ one 9 10 ∷ []
unfolding sorted pushed told_all told put without entries chunks le le_at att_uuid
two-rust = refl

-- where the table has two places, the one that replaces needs none
two-places : taken more declaration_of 2 (old ∷ one 9 10 ∷ []) 65535 (entries 7 answer) ≡ have (one 5 6 ∷ one 9 10 ∷ []) 5 false
unfolding taken with-one told enter put without entries chunks le le_at att_uuid
two-places = refl

-- and where it has one, a new one has no place
one_place : taken more declaration_of 1 (old ∷ []) 65535 (entries 7 answer) ≡ have (old ∷ []) 65535 true
unfolding taken with-one told enter put without entries chunks le le_at att_uuid
one_place = refl

the-first : characteristic_with (short_of 0x2A19) (one 5 6 ∷ one 9 10 ∷ []) ≡ Some (one 5 6)
unfolding first
the-first = refl

not-twice : rises (old ∷ one 5 6 ∷ []) ≡ false
unfolding up_from
not-twice = refl
