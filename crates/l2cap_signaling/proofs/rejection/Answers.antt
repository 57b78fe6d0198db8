use Rattle.l2cap_signaling.proofs.rejection.Goals as goal

pub returns : goal.returns
returns c = rw c.command-reject.ensures
