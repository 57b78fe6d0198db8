use mathlib.Core.Path.{sym, ap, ◌∙◌}
use Rattle.script_rules.specs.Start.{subscribe}
use Rattle.script_rules.proofs.LinkedLaws.{subscribe-none, subscribe-one}
use Rattle.script_starts.proofs.access.start_subscribe.Goals as goal

pub returns-in-None : goal.returns-in-None
returns-in-None c =
    c.end_turn.ensures _ ∙ subscribe-none _ _ _ ∙ ap (subscribe _ _ _)
    c.in-None.ensures

pub returns-in-Some : goal.returns-in-Some
returns-in-Some c =
    c.subscribe_at.ensures ∙ subscribe-one _ _ _ _ ∙ ap (subscribe _ _ _)
    (sym c.in-Some.is ∙
    c.find_characteristic.ensures)
