use native.Mathlib.Omega.{arith}
use Rattle.script_rules.proofs.SendLaws.{value-fits, value-law}
use Rattle.script_sends.proofs.send_value.Goals as goal

pub with_frame-requires : goal.with_frame-requires
with_frame-requires c = (omega arith, omega (arith, value-fits _ _ _ _ _ _ _ _ _ c.requires.1 c.att_frame-len.ensures c.requires.0))

pub returns : goal.returns
returns c = rw c.with_frame.ensures (value-law _ _ _ _ _ _ _ _ _ c.requires.1 c.att_frame-len.ensures)
