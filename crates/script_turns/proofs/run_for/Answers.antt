use Rattle.script_turns.proofs.TurnLaws.{run-law}
use Rattle.script_turns.proofs.run_for.Goals as goal

pub returns : goal.returns
returns c = run-law c.args.t _ _ _ (c.wait_for-next.ensures)
