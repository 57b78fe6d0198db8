use mathlib.Core.Path.{◌∙◌}
use Rattle.script_starts.proofs.StartLaws.{service-known, service-unknown}
use Rattle.script_starts.proofs.start_characteristics.Goals as goal

pub returns-in-Some : goal.returns-in-Some
returns-in-Some c =
    c.discover_characteristics.ensures ∙ service-known _ _ _ _
    c.in-Some.is

pub returns-in-None : goal.returns-in-None
returns-in-None c = c.discover_services.ensures _ _ ∙ service-unknown _ _ _ c.in-None.is
