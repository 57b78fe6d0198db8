use Rattle.words.proofs.RowLaws.{step-at}
use Rattle.words_step.proofs.queued_at.Goals as goal

pub returns : goal.returns
returns c = rw (step-at _ _ c.requires, c.step_of.ensures, c.len_of.ensures, c.flat_at-f.ensures)
