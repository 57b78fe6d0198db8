use mathlib.Core.Path.{refl}
use native.Mathlib.Omega.{arith}
use Rattle.words_result.proofs.ResultLaws.{word_read}
use Rattle.words_result.proofs.word_of.Goals as goal

pub returns : goal.returns
returns c = word_read _ _ _ c.status_bits-bits.ensures.result_value c.status_bits-bits.ensures.small (omega arith) (rw (c.from.ensures, c.from-2.ensures))
