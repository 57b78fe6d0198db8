use Rattle.script_queue.proofs.QueueLaws.{pushed-in, pushed-over}
use Rattle.script_queue.proofs.push_one.Goals as goal

pub returns-then-count-lt-MAX_STEPS : goal.returns-then-count-lt-MAX_STEPS
returns-then-count-lt-MAX_STEPS c = pushed-in _ _ _ _ _ _ _ _ _ (c.if-count-lt-MAX_STEPS.true) (c.value_len-n.ensures) (c.waiting_at-at.ensures) (c.copy_in.ensures) (c.put_step.ensures)

pub returns : goal.returns
returns c = pushed-over _ _ _ _ _ (c.if-count-lt-MAX_STEPS.false)
