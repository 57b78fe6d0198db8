use mathlib.Core.Path.{ap}
use Rattle.c_core.specs.Layout.{flag_in}
use Rattle.c_steps.proofs.bit.Goals as goal

pub returns : goal.returns
returns c = ap flag_in c.word.ensures
