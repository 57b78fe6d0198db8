use Rattle.std.specs.Prelude.{ℕ, Bool, true, false, Option, Some, None}
use Rattle.bytes_bounds.specs.declared.Span.{Span}
use Rattle.uuid_value.specs.declared.Uuid.{Uuid}

abbrev pub is_place : Option Span → Bool
is_place (Some body) = true
is_place None = false

abbrev pub is_uuid : Option Uuid → Bool
is_uuid (Some u) = true
is_uuid None = false

-- a half of a UUID; what was there before where there is none
abbrev pub low_of : Option Uuid → ℕ → ℕ
low_of (Some u) was = u.low
low_of None was = was

abbrev pub high_of : Option Uuid → ℕ → ℕ
high_of (Some u) was = u.high
high_of None was = was
