use Rattle.std.specs.Prelude.{ℕ, Option, Some, None}
use Rattle.bytes_bounds.specs.declared.Span.{Span}

-- where a body starts; what was there before where there is none
abbrev pub start_of : Option Span → ℕ → ℕ
start_of (Some body) was = body.at
start_of None was = was

-- how many bytes a body has; what was there before where there is none
abbrev pub count_of : Option Span → ℕ → ℕ
count_of (Some body) was = body.len
count_of None was = was
