-- The answers of the radio's calls with their words and store, as what a call leaves and answers.
use Rattle.std.specs.Prelude.{ℕ, List, ⊤}
use Rattle.radio_match.specs.declared.AdvAction.{AdvAction}
use Rattle.radio_match.specs.declared.AdvAction.TheVariants as action
use Rattle.state_refusals.specs.Refusals.{told_number}
use Rattle.radio_rules.specs.Hearing.{Outcome}
use Rattle.state_core.specs.declared.Core.{Core}
use Rattle.state_core.specs.Reading.{central}
use Rattle.central_answers.specs.declared.Answer.{Answer}

abbrev pub outcome : Answer Core AdvAction → List ℕ → List ℕ → Outcome
outcome a w s = record { state = central a.state w; refusal = told_number a.refusal; action = a.gives; store = s }

abbrev pub taken : Answer Core ⊤ → List ℕ → List ℕ → Outcome
taken a w s = record { state = central a.state w; refusal = told_number a.refusal; action = action.Nothing; store = s }
