use Rattle.words_characteristic.proofs.PlaceLaws.{says_none, says_at}
use borrow.Author.Rules.{rules}
use Rattle.words_characteristic.proofs.word_of.Goals as goal

pub returns-in-None : goal.returns-in-None
returns-in-None c = says_none _ _ (search rules) c.packed.ensures

pub returns-in-Some : goal.returns-in-Some
returns-in-Some c = says_at _ _ _ (search rules) c.packed-in-Some.ensures
