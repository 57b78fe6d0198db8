use Rattle.script_turns.proofs.TurnLaws.{request-law}
use Rattle.script_turns.proofs.request.Goals as goal

pub returns : goal.returns
returns c = request-law c.args.t _ _ _ _ _ _ (c.send-told.ensures) (c.asked-next.ensures)
