use mathlib.Core.Path.{◌∙◌}
use Rattle.script_starts.proofs.AccessLaws.{write-long, write-asks, write-tells}
use Rattle.script_starts.proofs.access.write_to.Goals as goal

pub returns-then-mtu-size : goal.returns-then-mtu-size
returns-then-mtu-size c =
    c.end_turn.ensures _ ∙ write-long _ _ _
    c.args.x c.if-mtu-size.true

pub returns-then-with_response : goal.returns-then-with_response
returns-then-with_response c =
    c.write_request.ensures _ ∙ write-asks _ _ _ _ c.if-mtu-size.false
    c.if-with_response.true

pub returns : goal.returns
returns c =
    c.write_command.ensures ∙ write-tells _ _ _ _
    c.if-mtu-size.false c.if-with_response.false
