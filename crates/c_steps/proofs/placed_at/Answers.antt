use Rattle.c_steps.proofs.BatchLaws.{placed-law}
use Rattle.c_steps.proofs.placed_at.Goals as goal

pub returns : goal.returns
returns c =
    placed-law c.args.steps.now c.args.at _ _ _ _
    c.flat_at-f.ensures c.step_of-step.ensures c.word-place.ensures c.word-len.ensures
