-- Which batches of steps are taken (01, refusals 4 and 5).
use Rattle.std.specs.Prelude.{ℕ, ◌+◌, Bool, ◌&&◌, leb, ltb}
use Rattle.lists.specs.Queue.{all}
use Rattle.state_places.specs.Sizes.{most_steps}
use Rattle.state.specs.declared.Counters.{Counters}
use Rattle.state_rules.specs.Steps.{implies, carries, step_fits}
use Rattle.state_rules.specs.Fit.{last_index}
use Rattle.script_rules.specs.declared.Placed.{Placed}
use Rattle.script_rules.specs.declared.Batch.{Batch}
use Rattle.script_rules.specs.BatchSteps.{steps}

-- a step that a batch accepts, its value within `size` lent bytes
abbrev pub placed_fits : ℕ → Placed → Bool
placed_fits size p = step_fits p.step p.len && implies (carries p.step) (leb (p.place + p.len) size)

-- refusal 4 is not given
unfoldable pub batch_fits : ℕ → Batch → Bool
batch_fits size b = leb b.count most_steps && all (placed_fits size) (steps b)

-- the most that may have been refused before a batch: refused_steps is below 2^62
abbrev pub refused_below : ℕ
refused_below = 4611686018427387904

-- refusal 5 is not given
unfoldable pub counters_fit : Counters → ℕ → ℕ → Bool
counters_fit k waiting count = leb (k.next_index + waiting + count) last_index && ltb k.refused_steps refused_below
