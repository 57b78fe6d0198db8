use Rattle.time.specs.Clock.{later}
use Rattle.time.proofs.later.Goals as goal

pub returns : goal.returns
unfolding later
returns c = rw c.saturating_add.ensures
