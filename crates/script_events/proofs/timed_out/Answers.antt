use Rattle.script_events.proofs.EventLaws.{either, the-first, the_second}
use Rattle.state.specs.declared.StepStatus.TheVariants.{Ok, Timeout}
use Rattle.script_events.proofs.timed_out.Goals as goal

pub returns-then-is_kind : goal.returns-then-is_kind
returns-then-is_kind c = the-first _ _ (either c.is_kind.ensures c.is_kind-2.ensures) Ok Timeout c.if-is_kind.true

pub returns : goal.returns
returns c = the_second _ _ (either c.is_kind.ensures c.is_kind-2.ensures) Ok Timeout c.if-is_kind.false
