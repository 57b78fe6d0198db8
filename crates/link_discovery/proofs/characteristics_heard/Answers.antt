use Rattle.link_rules.proofs.CharacteristicLaws.{heard-none}
use Rattle.link_rules.specs.Characteristics.{characteristics_heard}
use mathlib.Core.Path.{ap, sym, ◌∙◌}
use Rattle.link_discovery.proofs.characteristics_heard.Goals as goal

pub returns-in-None : goal.returns-in-None
returns-in-None c = c.end_turn.ensures _ ∙ heard-none _ _ _ _ _ (c.in-None.is)

pub returns-in-Some : goal.returns-in-Some
returns-in-Some c =
    c.characteristics_in.ensures ∙ ap (characteristics_heard _ _ _ _) (sym
    (c.in-Some.is))
