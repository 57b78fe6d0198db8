-- A step waits in milliseconds and the clock counts microseconds; one becomes the other through x 1,000 alone (01, "Rules of the link").
use Rattle.std.specs.Prelude.{ℕ, ◌+◌, ◌*◌, min, Bool, ltb}
use Rattle.time.specs.declared.Millis.{Millis}
use Rattle.time.specs.declared.Micros.{Micros}

-- the largest number that a clock can hold: 2 ^ 64 - 1
abbrev pub largest : ℕ
largest = 18446744073709551615

-- the latest clock that a call takes (01, refusal 3): 2 ^ 62
abbrev pub latest : ℕ
latest = 4611686018427387904

-- the ATT transaction timeout, Core Vol 3 Part F 3.3.3: 30 seconds
abbrev pub att_timeout : Micros
att_timeout = record { 0 = 30000000 }

-- the moment `by` after `now`, or the largest clock where that is beyond it
unfoldable pub later : Micros → Micros → Micros
later now by = record { 0 = min (now.0 + by.0) largest }

-- a step's milliseconds, as a span of the clock
abbrev pub span : Millis → Micros
span wait = record { 0 = wait.0 * 1000 }

-- the moment at which a wait that begins now runs out
abbrev pub deadline : Micros → Millis → Micros
deadline now wait = later now (span wait)

-- the moment at which a request that goes out now is given up
abbrev pub att_deadline : Micros → Micros
att_deadline now = later now att_timeout

-- whether a clock is one that no call takes
abbrev pub too_late : Micros → Bool
too_late now = ltb latest now.0
