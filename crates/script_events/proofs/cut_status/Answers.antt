use Rattle.script_events.proofs.EventLaws.{the-first, the_second}
use Rattle.state.specs.declared.StepStatus.TheVariants.{Ok, Disconnected}
use Rattle.script_events.proofs.cut_status.Goals as goal

pub returns-then-is_kind : goal.returns-then-is_kind
returns-then-is_kind c = the-first _ _ c.is_kind.ensures Ok Disconnected c.if-is_kind.true

pub returns : goal.returns
returns c = the_second _ _ c.is_kind.ensures Ok Disconnected c.if-is_kind.false
