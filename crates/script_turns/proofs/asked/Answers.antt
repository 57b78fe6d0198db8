use Rattle.script_turns.proofs.TurnLaws.{asked-law}
use Rattle.script_turns.proofs.asked.Goals as goal

pub returns : goal.returns
returns c = asked-law c.args.c _ _ _ _ _ (c.att_deadline.ensures) (c.until-o.ensures) (c.awaiting-o.ensures)
