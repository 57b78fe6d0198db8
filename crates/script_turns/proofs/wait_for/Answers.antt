use Rattle.script_turns.proofs.TurnLaws.{wait-law}
use Rattle.script_turns.proofs.wait_for.Goals as goal

pub returns : goal.returns
returns c = wait-law c.args.c _ _ _ _ (c.deadline.ensures) (c.until-o.ensures)
