use Rattle.link_rules.proofs.ServiceLaws.{into-none, into_one}
use mathlib.Core.Path.{◌∙◌}
use Rattle.link_discovery.proofs.walk_into.Goals as goal

pub returns-in-None : goal.returns-in-None
returns-in-None c = c.end_turn.ensures _ ∙ into-none _ _ _ (c.in-None.is)

pub returns-in-Some : goal.returns-in-Some
returns-in-Some c =
    c.discover_characteristics.ensures ∙ into_one _ _ _ _
    (c.in-Some.is)
