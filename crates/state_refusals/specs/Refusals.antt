-- The refusal numbers (01, 'Refusal numbers, in order of test'), and the order of the first three.
use Rattle.std.specs.Prelude.{ℕ, Bool, Option, None, Some, Result, Ok, Err, ⊤}
use Rattle.bytes_base.specs.Choice.{pick}
use Rattle.state_refusals.specs.declared.Refusal.{Refusal}
use Rattle.state_refusals.specs.declared.Refusal.TheVariants.{Unfit, WrongSize, LateTime, BadBatch, CounterFull, LongData, LongFrame, KeysFull}

-- not refused
abbrev pub accepted : ℕ
accepted = 0

-- the state isn't fit
abbrev pub unfit : ℕ
unfit = 1

-- store not 43,631 bytes, or output under 16,315 in a call that may send
abbrev pub wrong_size : ℕ
wrong_size = 2

-- time above 2^62 µs
abbrev pub late_time : ℕ
late_time = 3

-- batch above 64 steps; a step's MTU above 247; a step value too long, or not inside the lent bytes
abbrev pub bad_batch : ℕ
bad_batch = 4

-- batch: next index + waiting + batch count exceeds 4,294,967,295, or refused_steps at least 2^62. Fragment: notified is 2^62
abbrev pub counter_full : ℕ
counter_full = 5

-- advertising or scan response data over 31 bytes
abbrev pub long_data : ℕ
long_data = 6

-- link present, fragment not dropped, and held length would exceed 251
abbrev pub long_frame : ℕ
long_frame = 7

-- Scan runs, PDU scannable, key new, 128 keys kept
abbrev pub keys_full : ℕ
keys_full = 8

-- the first of 1 to 3 that applies: of the state, of what is lent, of the time
unfoldable pub first_refusal : Bool → Bool → Bool → ℕ
first_refusal fit sized timely = pick fit (pick sized (pick timely accepted late_time) wrong_size) unfit

-- the number of each refusal
abbrev pub number : Refusal → ℕ
number Unfit = unfit
number WrongSize = wrong_size
number LateTime = late_time
number BadBatch = bad_batch
number CounterFull = counter_full
number LongData = long_data
number LongFrame = long_frame
number KeysFull = keys_full

-- the number of what a gate answers
abbrev pub gate_number : Result ⊤ Refusal → ℕ
gate_number (Ok u) = accepted
gate_number (Err why) = number why

-- the number of what a call tells
abbrev pub told_number : Option Refusal → ℕ
told_number None = accepted
told_number (Some why) = number why
