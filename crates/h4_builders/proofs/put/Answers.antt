use mathlib.Core.Path.{◌∙◌}
use Rattle.h4_builders.proofs.Pieces.{spliced}
use Rattle.h4_builders.proofs.put.Goals as goal

pub returns-clause-out_after : goal.returns-clause-out_after
returns-clause-out_after c = c.copy_in.ensures ∙ spliced _ _ _ c.requires
