use mathlib.Core.Path.{sym, ap, ◌∙◌}
use Rattle.script_rules.specs.Start.{read}
use Rattle.script_rules.proofs.LinkedLaws.{read_none, read_one}
use Rattle.script_starts.proofs.access.start_read.Goals as goal

pub returns-in-None : goal.returns-in-None
returns-in-None c =
    c.end_turn.ensures _ ∙ read_none _ _ ∙ ap (read _ _) (sym c.in-None.is ∙
    c.find_characteristic.ensures)

pub returns-in-Some : goal.returns-in-Some
returns-in-Some c =
    c.request.ensures _ _ ∙ read_one _ _ _ _ c.read_req-pdu.ensures ∙ ap (read _ _)
    c.in-Some.ensures
