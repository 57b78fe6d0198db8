use Rattle.words_characteristic.proofs.put_characteristic.Goals as goal

pub returns : goal.returns
returns c = rw (← c.word_of-word.ensures) c.put_words.ensures
