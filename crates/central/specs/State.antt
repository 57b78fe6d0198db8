-- What a state by value says, and all that a call on it gives and changes.
use Rattle.std.specs.Prelude.{ℕ, List, ⊤}
use Rattle.state.specs.Central.{Central}
use Rattle.state.specs.declared.Sent.{Sent}
use Rattle.state_refusals.specs.Refusals.{told_number}
use Rattle.script_rules.specs.Outcome.{Outcome, Quiet}
use Rattle.radio_match.specs.declared.AdvAction.{AdvAction}
use Rattle.radio_match.specs.declared.AdvAction.TheVariants as action
use Rattle.radio_rules.specs.Hearing as hearing
use Rattle.state_core.specs.Reading.{central}
use Rattle.central_answers.specs.declared.Answer.{Answer}
use Rattle.central.specs.declared.State.{State}

abbrev pub reading : State → Central
reading s = central s.core s.tables

abbrev pub outcome : Answer State Sent → List ℕ → List ℕ → Outcome
outcome a store out = record { state = reading a.state; refusal = told_number a.refusal; sent = a.gives; store = store; out = out }

abbrev pub quiet : Answer State ⊤ → List ℕ → Quiet
quiet a store = record { state = reading a.state; refusal = told_number a.refusal; store = store }

-- of the radio's calls
abbrev pub acted : Answer State AdvAction → List ℕ → hearing.Outcome
acted a store = record { state = reading a.state; refusal = told_number a.refusal; action = a.gives; store = store }

abbrev pub heard : Answer State ⊤ → List ℕ → hearing.Outcome
heard a store = record { state = reading a.state; refusal = told_number a.refusal; action = action.Nothing; store = store }
