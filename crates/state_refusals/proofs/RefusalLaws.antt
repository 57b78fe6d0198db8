-- Each refusal has a number of its own, and none has that of a call that is not refused.
use Rattle.std.specs.Prelude.{ℕ, ◌≡◌, Option, None, Some, eqb}
use Rattle.std.proofs.Common.{refl, sym, ap, ◌∙◌, arith}
use Rattle.bytes_base.specs.Choice.{pick}
use Rattle.state_refusals.specs.declared.Refusal.{Refusal}
use Rattle.state_refusals.specs.declared.Refusal.TheVariants.{Unfit, WrongSize, LateTime, BadBatch, CounterFull, LongData, LongFrame, KeysFull}
use Rattle.state_refusals.specs.Refusals.{accepted, number, told_number}

pub not-accepted : (why : Refusal) → number why ≡ accepted → ⊥
not-accepted Unfit e = absurd (omega arith)
not-accepted WrongSize e = absurd (omega arith)
not-accepted LateTime e = absurd (omega arith)
not-accepted BadBatch e = absurd (omega arith)
not-accepted CounterFull e = absurd (omega arith)
not-accepted LongData e = absurd (omega arith)
not-accepted LongFrame e = absurd (omega arith)
not-accepted KeysFull e = absurd (omega arith)

-- what has a number
abbrev told_by : ℕ → Option Refusal
told_by n =
    pick (eqb n 1) (Some Unfit)
    (pick (eqb n 2) (Some WrongSize)
    (pick (eqb n 3) (Some LateTime)
    (pick (eqb n 4) (Some BadBatch)
    (pick (eqb n 5) (Some CounterFull)
    (pick (eqb n 6) (Some LongData)
    (pick (eqb n 7) (Some LongFrame)
    (pick (eqb n 8) (Some KeysFull) None)))))))

told-back : (r : Option Refusal) → told_by (told_number r) ≡ r
told-back None = refl
told-back (Some Unfit) = refl
told-back (Some WrongSize) = refl
told-back (Some LateTime) = refl
told-back (Some BadBatch) = refl
told-back (Some CounterFull) = refl
told-back (Some LongData) = refl
told-back (Some LongFrame) = refl
told-back (Some KeysFull) = refl

pub same-told : (a b : Option Refusal) → told_number a ≡ told_number b → a ≡ b
same-told a b e = sym (told-back a) ∙ ap told_by e ∙ told-back b
