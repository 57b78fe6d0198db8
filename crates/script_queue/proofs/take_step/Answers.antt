use Rattle.script_queue.proofs.QueueLaws.{took}
use Rattle.script_queue.proofs.take_step.Goals as goal

pub returns : goal.returns
returns c = took _ _ _ _ _ _ _ (c.requires.0) (c.requires.1) (c.queued_at-first.ensures) (c.copy_within.ensures) (c.shift_steps.ensures) (c.start.ensures)
