-- A refusal is the one that its number stands for.
use mathlib.Core.Path.{◌≡◌, refl}
use Rattle.state_refusals.specs.declared.Refusal.{Refusal}
use Rattle.state_refusals.specs.declared.Refusal.TheVariants.{Unfit, WrongSize, LateTime, BadBatch, CounterFull, LongData, LongFrame, KeysFull}
use Rattle.state_refusals.specs.Refusals.{number}
use Rattle.state_refusals.specs.Refused.{refusal_of}

pub of-number : (why : Refusal) → refusal_of (number why) ≡ why
of-number Unfit = refl
of-number WrongSize = refl
of-number LateTime = refl
of-number BadBatch = refl
of-number CounterFull = refl
of-number LongData = refl
of-number LongFrame = refl
of-number KeysFull = refl
