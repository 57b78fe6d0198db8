use Rattle.link_rules.proofs.ServiceLaws.{done_all, done-of}
use mathlib.Core.Path.{◌∙◌}
use Rattle.link_discovery.proofs.services_done.Goals as goal

pub returns-in-All : goal.returns-in-All
returns-in-All c = c.end_turn.ensures _ ∙ done_all _ _ _ (c.in-All.is)

pub returns-in-Of : goal.returns-in-Of
returns-in-Of c =
    c.walk_into.ensures ∙ done-of _ _ _ _ _
    (c.in-Of.is)
    (c.find_service-x.ensures)
