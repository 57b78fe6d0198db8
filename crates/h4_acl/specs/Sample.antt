-- Worked samples: a packet taken apart, and the fragment calls of handle 0040.
use Rattle.std.specs.Prelude.{ℕ, ◌≡◌, refl, List, [], ◌∷◌, Some, None}
use Rattle.bytes_base.specs.Bytes.{le, le_at}
use Rattle.h4_acl.specs.Acl.{split, parts_of, start, continuation, by_flag, fragment_of, fragment_data}
use Rattle.bytes_bounds.specs.declared.Span.{Span}

-- two bytes of data, with the flags in the handle's upper byte
abbrev packet : ℕ → List ℕ
packet upper = 0x02 ∷ 0x40 ∷ upper ∷ 0x02 ∷ 0x00 ∷ 0xAA ∷ 0xBB ∷ []

-- where these two bytes stand
abbrev last-two : Span
last-two = record { at = 5; len = 2 }

apart : parts_of (packet 0x20) ≡ Some (split 0x0040 2 5 2)
unfolding parts_of le_at le
apart = refl

first-of-host : fragment_of (packet 0x00) 0x0040 ≡ start last-two
unfolding parts_of by_flag le_at le
first-of-host = refl

first-of-controller : fragment_of (packet 0x20) 0x0040 ≡ start last-two
unfolding parts_of by_flag le_at le
first-of-controller = refl

continuing : fragment_of (packet 0x10) 0x0040 ≡ continuation last-two
unfolding parts_of by_flag le_at le
continuing = refl

flag-11 : fragment_of (packet 0x30) 0x0040 ≡ None
unfolding parts_of by_flag le_at le
flag-11 = refl

other-handle : fragment_of (packet 0x20) 0x0041 ≡ None
unfolding parts_of by_flag le_at le
other-handle = refl

-- a byte behind the stated length is no data
surplus : fragment_data (fragment_of (0x02 ∷ 0x40 ∷ 0x20 ∷ 0x01 ∷ 0x00 ∷ 0xAA ∷ 0xBB ∷ []) 0x0040) (0x02 ∷ 0x40 ∷ 0x20 ∷ 0x01 ∷ 0x00 ∷ 0xAA ∷ 0xBB ∷ []) ≡ 0xAA ∷ []
unfolding parts_of by_flag le_at le
surplus = refl

-- three bytes stated, two there
cut : parts_of (0x02 ∷ 0x40 ∷ 0x20 ∷ 0x03 ∷ 0x00 ∷ 0xAA ∷ 0xBB ∷ []) ≡ None
unfolding parts_of le_at le
cut = refl

-- an event
no-acl : parts_of (0x04 ∷ 0x40 ∷ 0x20 ∷ 0x00 ∷ 0x00 ∷ []) ≡ None
unfolding parts_of le_at le
no-acl = refl
