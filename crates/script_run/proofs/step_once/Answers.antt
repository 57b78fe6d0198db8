use Rattle.script_run.proofs.StepLaws.{may-take, may-start, step-law}
use Rattle.script_turns.proofs.TurnLaws.{turn-law}
use Rattle.state_core.specs.Reading.{central, world}
use Rattle.script_run.proofs.step_once.Goals as goal

pub take_step-core-requires : goal.take_step-core-requires
take_step-core-requires c = may-take (central c.args.t.core c.args.tables.now) (c.requires.0.nearly) (c.requires.1)

pub start-requires : goal.start-requires
start-requires c = may-start (world c.args.t c.args.tables.now c.args.store.now c.args.out.now) _ (turn-law c.args.t _ _ _ _ (c.take_step-core.ensures) _) (c.requires.0) (c.requires.1)

pub returns : goal.returns
returns c = step-law (world c.args.t c.args.tables.now c.args.store.now c.args.out.now) _ (turn-law c.args.t _ _ _ _ (c.take_step-core.ensures) _) _ _ (c.start.ensures)
