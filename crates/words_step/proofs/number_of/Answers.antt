use native.Mathlib.Omega.{arith}
use Rattle.adv_reports.proofs.KeyLaws.{address-key}
use Rattle.words_step.proofs.number_of.Goals as goal

pub returns : goal.returns
returns c = rw c.key_of.ensures (address-key _ (record { low = omega arith; high = omega arith }))
