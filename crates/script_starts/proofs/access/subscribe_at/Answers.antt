use mathlib.Core.Path.{◌∙◌}
use Rattle.script_rules.proofs.LinkedLaws.{cccd-unknown, cccd-known}
use Rattle.script_starts.proofs.access.subscribe_at.Goals as goal

pub returns-in-None : goal.returns-in-None
returns-in-None c = c.end_turn.ensures _ ∙ cccd-unknown _ _ _ _ c.in-None.is

pub returns-in-Some : goal.returns-in-Some
returns-in-Some c =
    c.request.ensures _ _ ∙ cccd-known _ _ _ _ _ _ c.in-Some.is
    c.configure-pdu.ensures
