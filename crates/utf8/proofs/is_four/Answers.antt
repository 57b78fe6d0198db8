use mathlib.Core.Bool.{and_assoc, and-true, or_assoc, or-false}
use Rattle.utf8.specs.Utf8.{some, begins}
use Rattle.utf8.proofs.is_four.Goals as goal

pub returns : goal.returns
unfolding some begins
returns c = simp (and_assoc, and-true, or_assoc, or-false)
