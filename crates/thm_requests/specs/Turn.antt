-- The step's number on a request: its place in the order in which the steps were taken in, counted from 0. Results are given one for each step
-- in that order (`in_order`, `numbered`), so the step that runs has as its number how many results were given before.
use Rattle.std.specs.Prelude.{ℕ, suc, ◌<◌, ◌≡◌, true, List, [], ◌∷◌, length, get_or}
use Rattle.state.specs.Fresh.{no_queued}
use Rattle.state.specs.declared.Queued.{Queued}
use Rattle.state_rules.specs.Steps.{att_step}
use Rattle.thm_requests.specs.Events.{Event, came, asked, result}

-- of a request with number i, when k results were given, q the steps ever taken in: the step that runs sent it, and it is one that may
pub record OfItsStep (q : List Queued) (k i : ℕ) : Type 0 where
  pub turn : i ≡ k
  pub place : i < length q
  pub att : att_step (get_or q i no_queued).step ≡ true

-- k results were given before these events
abbrev pub InTurn : List Queued → ℕ → List Event → Type 0
InTurn q k [] = Unit {0}
InTurn q k (came x ∷ es) = InTurn q k es
InTurn q k (asked i op ∷ es) = OfItsStep q k i × InTurn q k es
InTurn q k (result x ∷ es) = (x.entry.index ≡ k) × InTurn q (suc k) es
