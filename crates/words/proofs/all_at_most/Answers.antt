use native.Mathlib.Omega.{arith}
use Rattle.words.proofs.SearchLaws.{all-none, all-more}
use Rattle.words.proofs.all_at_most.Goals as goal
use mathlib.Core.Path.{sym}

pub loop-word-init : goal.loop-word-init
loop-word-init c = sym (all-none _)

pub loop-word-preserved : goal.loop-word-preserved
loop-word-preserved c = all-more _ c.args.words.now _ _ (omega arith) c.loop-word.invariant
