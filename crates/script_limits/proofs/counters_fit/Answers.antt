use Rattle.script_rules.specs.Batches.{counters_fit}
use mathlib.Core.Path.{refl}
use Rattle.script_limits.proofs.counters_fit.Goals as goal

pub returns : goal.returns
unfolding counters_fit
returns c = refl
