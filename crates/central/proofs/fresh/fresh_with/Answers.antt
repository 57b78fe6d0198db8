use Rattle.state_core.proofs.FreshLaws.{fresh-law}
use Rattle.central.proofs.fresh.fresh_with.Goals as goal

pub returns : goal.returns
returns c = fresh-law _
