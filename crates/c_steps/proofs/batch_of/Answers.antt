use mathlib.Core.Path.{refl, ◌∙◌}
use native.Mathlib.Omega.{arith}
use lib.ListN.{length-replicate, length-set}
use Rattle.c_steps.proofs.BatchLaws.{no_placed, read-on, read_all}
use Rattle.c_steps.proofs.batch_of.Goals as goal

pub loop-i-init : goal.loop-i-init
loop-i-init c = (length-replicate 64 no_placed, refl)

pub loop-i-preserved : goal.loop-i-preserved
loop-i-preserved c =
    let l = c.loop-i in (
      length-set l.all l.i _ ∙ l.invariant.0,
      read-on c.args.steps.now l.all l.i _ l.invariant.0 (omega arith) c.placed_at.ensures l.invariant.1,
    )

pub returns : goal.returns
returns c = let l = c.loop-i in read_all c.args.steps.now l.all l.i c.args.count l.invariant.0 (omega arith) l.invariant.1
