use Rattle.link_rules.proofs.CharacteristicLaws.{walked_none, walked_one}
use mathlib.Core.Path.{◌∙◌}
use Rattle.link_discovery.proofs.characteristics_done.Goals as goal

pub returns-in-None : goal.returns-in-None
returns-in-None c = c.end_turn.ensures _ ∙ walked_none _ _ _ (c.in-None.is)

pub returns-in-Some : goal.returns-in-Some
returns-in-Some c =
    c.discover_descriptors.ensures ∙ walked_one _ _ _ _
    (c.in-Some.is)
