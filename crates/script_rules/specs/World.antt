-- What a call works on, whole and in the two halves that most of its work is about.
use Rattle.std.specs.Prelude.{ℕ, List}
use Rattle.state.specs.Central.{Central}
use Rattle.state.specs.declared.Sent.{Sent}

-- the state and every byte of the store
pub record Held : Type 0 where
  pub state : Central
  pub store : List ℕ

-- what was sent and every byte of the output
pub record Told : Type 0 where
  pub sent : Sent
  pub out : List ℕ

pub record World : Type 0 where
  pub held : Held
  pub told : Told

abbrev pub told : Sent → List ℕ → Told
told sent out = record { sent = sent; out = out }

-- one half replaced, or the state alone
abbrev pub on_held : World → Held → World
on_held w h = record { held = h; told = w.told }

abbrev pub on_told : World → Told → World
on_told w t = record { held = w.held; told = t }

abbrev pub on_state : Held → Central → Held
on_state h c = record { state = c; store = h.store }
