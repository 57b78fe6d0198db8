use Rattle.script_events.proofs.EventLaws.{give-up-law}
use Rattle.script_events.proofs.give_up.Goals as goal

pub returns : goal.returns
returns c = give-up-law c.args.t _ c.closing-core.ensures
