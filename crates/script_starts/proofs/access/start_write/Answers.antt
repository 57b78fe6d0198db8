use mathlib.Core.Path.{sym, ap, ◌∙◌}
use Rattle.script_rules.specs.Start.{write}
use Rattle.script_rules.proofs.LinkedLaws.{write-none}
use Rattle.script_starts.proofs.access.start_write.Goals as goal

pub returns-in-None : goal.returns-in-None
returns-in-None c =
    c.end_turn.ensures _ ∙ write-none _ _ _ ∙ ap (write _ _ _)
    c.in-None.ensures

pub returns-in-Some : goal.returns-in-Some
returns-in-Some c =
    c.write_to.ensures ∙ ap (write _ _ _) (sym c.in-Some.is ∙
    c.find_characteristic.ensures)
