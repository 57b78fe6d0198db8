-- All that a call on lent tables gives and changes, as definitions speak of it; and what a refused call leaves, to the last bit.
use Rattle.std.specs.Prelude.{ℕ, ◌≡◌, List, ⊤}
use Rattle.state.specs.declared.Sent.{Sent}
use Rattle.state_refusals.specs.Refusals.{accepted, told_number}
use Rattle.script_rules.specs.Outcome.{Outcome, Quiet}
use Rattle.state_core.specs.declared.Core.{Core}
use Rattle.state_core.specs.Reading.{central}
use Rattle.central_answers.specs.declared.Answer.{Answer}

abbrev pub outcome : Answer Core Sent → List ℕ → List ℕ → List ℕ → Outcome
outcome a w store out = record { state = central a.state w; refusal = told_number a.refusal; sent = a.gives; store = store; out = out }

abbrev pub quiet : Answer Core ⊤ → List ℕ → List ℕ → Quiet
quiet a w store = record { state = central a.state w; refusal = told_number a.refusal; store = store }

-- a refused call leaves this core, and every word and byte as it was
abbrev pub Leaves : ℕ → Core → Core → List ℕ → List ℕ → List ℕ → List ℕ → Type 0
Leaves why core after w v s t = (why ≡ accepted → ⊥) → (after ≡ core) × (v ≡ w) × (t ≡ s)
