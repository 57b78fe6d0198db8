-- A refusal as what a call answers, and the number of an answer's refusal.
use Rattle.std.specs.Prelude.{ℕ, Result, Ok, Err, eqb}
use Rattle.bytes_base.specs.Choice.{pick}
use Rattle.state_refusals.specs.declared.Refusal.{Refusal}
use Rattle.state_refusals.specs.declared.Refusal.TheVariants.{Unfit, WrongSize, LateTime, BadBatch, CounterFull, LongData, LongFrame, KeysFull}
use Rattle.state_refusals.specs.Refusals.{accepted, unfit, wrong_size, late_time, bad_batch, counter_full, long_data, long_frame, number}

-- the refusal that has a number, 1 to 8
abbrev pub refusal_of : ℕ → Refusal
refusal_of n =
    pick (eqb n unfit) Unfit
    (pick (eqb n wrong_size) WrongSize
    (pick (eqb n late_time) LateTime
    (pick (eqb n bad_batch) BadBatch
    (pick (eqb n counter_full) CounterFull
    (pick (eqb n long_data) LongData
    (pick (eqb n long_frame) LongFrame KeysFull))))))

-- the answer that tells a refusal by its number
abbrev pub refused : {A : Type 0} → ℕ → Result A Refusal
refused n = Err (refusal_of n)

-- the number that an answer is refused by
abbrev pub refusal_number : {A : Type 0} → Result A Refusal → ℕ
refusal_number (Ok x) = accepted
refusal_number (Err why) = number why
