-- All that C has after a call: what is told, and every word and byte that the call may write.
use Rattle.std.specs.Prelude.{ℕ, List}
use Rattle.h4_stream.specs.Feed as feed
use Rattle.h4_builders.specs.Build as build
use Rattle.c_h4.specs.Words.{words_left, fed_words, built_words}

-- ---- a feed

pub record Fed : Type 0 where
  pub told : List ℕ
  pub stream : List ℕ
  pub held : List ℕ
  pub out : List ℕ

abbrev pub fed : List ℕ → List ℕ → List ℕ → List ℕ → Fed
fed told stream held out = record { told = told; stream = stream; held = held; out = out }

-- of a stream that was in the words w
abbrev pub after_feed : List ℕ → feed.Outcome → Fed
after_feed w o = fed (fed_words o.answer) (words_left o.answer.refusal o.answer.stream w) o.held o.out

-- ---- a builder

pub record Written : Type 0 where
  pub told : List ℕ
  pub out : List ℕ

abbrev pub written : List ℕ → List ℕ → Written
written told out = record { told = told; out = out }

abbrev pub after_build : build.Outcome → Written
after_build o = written (built_words o.answer) o.out
