-- A fresh core and tables of zeros say a fresh state.
use mathlib.Core.Path.{◌≡◌, refl, ap}
use Rattle.state.specs.Fresh.{no_options, fresh_central, fresh_with}
use Rattle.state.specs.declared.Options.{Options}
use Rattle.words.proofs.FreshLaws.{no_words, fresh-words}
use Rattle.state_core.specs.Fresh.{fresh_core}
use Rattle.state_core.specs.Reading.{central_of, central}

pub fresh-law : (o : Options) → central (fresh_core o) no_words ≡ fresh_with o
unfolding fresh_central
fresh-law o = ap (central_of (fresh_core o)) fresh-words

-- with no option chosen it is the old one
pub fresh-old : fresh_with no_options ≡ fresh_central
unfolding fresh_central
fresh-old = refl
