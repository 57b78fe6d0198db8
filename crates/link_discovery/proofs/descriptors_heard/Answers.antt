use Rattle.link_rules.proofs.CharacteristicLaws.{named_none}
use Rattle.link_rules.specs.Characteristics.{descriptors_heard}
use mathlib.Core.Path.{ap, sym, ◌∙◌}
use Rattle.link_discovery.proofs.descriptors_heard.Goals as goal

pub returns-in-None : goal.returns-in-None
returns-in-None c = c.end_turn.ensures _ ∙ named_none _ _ _ _ _ (c.in-None.is)

pub returns-in-Some : goal.returns-in-Some
returns-in-Some c =
    c.descriptors_in.ensures ∙ ap (descriptors_heard _ _ _ _) (sym
    (c.in-Some.is))
