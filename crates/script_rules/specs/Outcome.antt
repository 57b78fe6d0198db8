-- All that a call gives and changes.
use Rattle.std.specs.Prelude.{ℕ, List, None}
use Rattle.state.specs.Central.{Central}
use Rattle.state.specs.declared.Sent.{Sent}
use Rattle.state_rules.specs.Refusals.{accepted}
use Rattle.script_rules.specs.World.{Held, World}

-- of a call that may send
pub record Outcome : Type 0 where
  pub state : Central
  pub refusal : ℕ
  pub sent : Sent
  pub store : List ℕ
  pub out : List ℕ

-- nothing was sent
abbrev pub unsent : Sent
unsent = record { frames = 0; bytes = 0; request = None }

-- a call begins
abbrev pub begins : Central → List ℕ → List ℕ → World
begins c store out = record { held = record { state = c; store = store }; told = record { sent = unsent; out = out } }

-- a call is done
abbrev pub done : World → Outcome
done w = record { state = w.held.state; refusal = accepted; sent = w.told.sent; store = w.held.store; out = w.told.out }

-- a call is refused: all is as it was
abbrev pub refused : Central → ℕ → List ℕ → List ℕ → Outcome
refused c why store out = record { state = c; refusal = why; sent = unsent; store = store; out = out }

-- of a call that sends nothing and lends no output
pub record Quiet : Type 0 where
  pub state : Central
  pub refusal : ℕ
  pub store : List ℕ

abbrev pub quietly : Held → Quiet
quietly h = record { state = h.state; refusal = accepted; store = h.store }

abbrev pub quietly_refused : Central → ℕ → List ℕ → Quiet
quietly_refused c why store = record { state = c; refusal = why; store = store }
