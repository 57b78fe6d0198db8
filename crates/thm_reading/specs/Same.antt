-- What two calls leave and answer is the same, but for dead places of the state.
use Rattle.std.specs.Prelude.{◌≡◌}
use Rattle.script_rules.specs.Outcome.{Outcome, Quiet}
use Rattle.radio_rules.specs.Hearing as radio
use Rattle.thm_reading.specs.Live.{Alike}

-- of calls that may send
pub record SameOutcome (a b : Outcome) : Type 0 where
  pub refusal : a.refusal ≡ b.refusal
  pub sent : a.sent ≡ b.sent
  pub store : a.store ≡ b.store
  pub out : a.out ≡ b.out
  pub state : Alike a.state b.state

-- of calls that send nothing
pub record SameQuiet (a b : Quiet) : Type 0 where
  pub refusal : a.refusal ≡ b.refusal
  pub store : a.store ≡ b.store
  pub state : Alike a.state b.state

-- of calls of the radio
pub record SameHeard (a b : radio.Outcome) : Type 0 where
  pub refusal : a.refusal ≡ b.refusal
  pub action : a.action ≡ b.action
  pub store : a.store ≡ b.store
  pub state : Alike a.state b.state
