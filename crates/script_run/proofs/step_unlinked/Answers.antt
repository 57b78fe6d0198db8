use Rattle.script_run.proofs.StepLaws.{may-take, may-start-alone, step-alone}
use Rattle.state_core.specs.Reading.{central, held}
use Rattle.script_run.proofs.step_unlinked.Goals as goal

pub take_step-d-requires : goal.take_step-d-requires
take_step-d-requires c = may-take (central c.args.c c.args.tables.now) (c.requires.0.nearly) (c.requires.1)

pub start_unlinked-requires : goal.start_unlinked-requires
start_unlinked-requires c = may-start-alone (held c.args.c c.args.tables.now c.args.store.now) _ (c.take_step-d.ensures) (c.requires.0) (c.requires.1)

pub returns : goal.returns
returns c = step-alone (held c.args.c c.args.tables.now c.args.store.now) _ (c.take_step-d.ensures) _ _ (c.start_unlinked.ensures)
