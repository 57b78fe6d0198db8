use Rattle.c_core.proofs.running_in.Goals as goal

pub returns : goal.returns
returns c = rw (c.step_of-step.ensures, c.flat_in-f.ensures)
