use native.Mathlib.Omega.{arith}
use Rattle.script_rules.proofs.SendLaws.{taken-fits, sent-law}
use Rattle.script_sends.proofs.send.Goals as goal

pub with_frame-requires : goal.with_frame-requires
with_frame-requires c = (omega arith, omega (arith, taken-fits _ _ _ _ _ _ c.requires c.l2cap-len.ensures))

pub returns : goal.returns
returns c = rw c.with_frame.ensures (sent-law _ _ _ _ _ _ c.l2cap-len.ensures)
