use Rattle.script_starts.proofs.StartLaws.{already, asks-to-end}
use Rattle.script_starts.proofs.start_disconnect.Goals as goal

pub returns-then-link : goal.returns-then-link
returns-then-link c = already _ c.if-link.true

pub returns : goal.returns
returns c = asks-to-end c.args.t _ c.if-link.false c.terminated-core.ensures
