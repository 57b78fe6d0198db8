use Rattle.words_step.proofs.flat_at.Goals as goal

pub returns : goal.returns
returns c = rw (c.top-size.ensures, c.top-interval.ensures)
