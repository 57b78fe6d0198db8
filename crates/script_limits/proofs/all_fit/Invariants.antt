use Rattle.script_rules.specs.Batches.{placed_fits}
use Rattle.lists.specs.Queue.{all}
use lib.ListN.{take, drop}
use mathlib.Core.Path.{◌≡◌}
use Rattle.script_limits.proofs.all_fit.Given as goal

abbrev pub invariant-loop-p : goal.invariant-loop-p
invariant-loop-p l = all (placed_fits l.size) (take l.fn.count l.fn.steps) ≡ all (placed_fits l.size) (drop l.p-index (take l.fn.count l.fn.steps))
