use Rattle.words_step.proofs.word_fits.Goals as goal

pub returns : goal.returns
returns c = rw c.top-size.ensures
