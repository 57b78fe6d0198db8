-- What lasts from call to call (01, 'Refusal numbers': "Fit goes to fit").
use Rattle.std.specs.Prelude.{◌≡◌, Bool, true}
use Rattle.lists.specs.Queue.{all}
use Rattle.state.specs.Central.{Central}
use Rattle.state_rules.specs.Fit.{fits}
use Rattle.script_rules.specs.Timed.{narrow, Narrow}
use Rattle.script_rules.specs.declared.Batch.{Batch}
use Rattle.script_rules.specs.BatchSteps.{steps}

-- a state that passes the test of refusal 1; its steps' milliseconds are a u32, as in every state that the code can hold
pub record Lasting (c : Central) : Type 0 where
  pub fit : fits c ≡ true
  pub narrow : Narrow c

-- a batch's steps' milliseconds are a u32, as in every batch that the code can be given
abbrev pub narrow_batch : Batch → Bool
narrow_batch b = all (λ p. narrow p.step) (steps b)
