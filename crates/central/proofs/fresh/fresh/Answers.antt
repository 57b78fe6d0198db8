use mathlib.Core.Path.{◌∙◌}
use Rattle.state_core.proofs.FreshLaws.{fresh-old}
use Rattle.central.proofs.fresh.fresh.Goals as goal

pub returns : goal.returns
returns c = c.fresh_with.ensures ∙ fresh-old
