use Rattle.words_step.proofs.StepLaws.{words-say}
use Rattle.words_step.proofs.put_step.Goals as goal

pub returns : goal.returns
returns c =
    let flat = c.flat_of-f.ensures in
    let first = c.first_word-a.ensures in
    let connect = c.connect_word-d.ensures in
    rw (← words-say _ _ _ _ _ flat first connect) c.put_words.ensures
