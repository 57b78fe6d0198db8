use Rattle.script_turns.proofs.TurnLaws.{turn-law}
use Rattle.script_turns.proofs.finish_turn.Goals as goal

pub returns : goal.returns
returns c = turn-law c.args.t _ _ _ _ (c.finish-next.ensures)
