use Rattle.script_rules.proofs.BatchLaws.{batch-many, batch-each}
use Rattle.script_limits.proofs.batch_fits.Goals as goal

pub returns-then-count-gt-MAX_STEPS : goal.returns-then-count-gt-MAX_STEPS
returns-then-count-gt-MAX_STEPS c = batch-many _ _ c.if-count-gt-MAX_STEPS.true

pub returns : goal.returns
returns c = batch-each _ _ _ c.if-count-gt-MAX_STEPS.false c.all_fit.ensures
