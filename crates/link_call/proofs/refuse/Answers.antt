use Rattle.link_call.proofs.CallLaws.{refuse-law}
use Rattle.link_call.proofs.refuse.Goals as goal

pub returns : goal.returns
returns c = refuse-law c.args.t _ _ _ _ _ _ (c.refuse-told.ensures)
