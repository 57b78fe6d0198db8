use mathlib.Core.Path.{◌∙◌}
use native.Mathlib.Omega.{arith}
use Rattle.h4_packets.proofs.LengthLaws.{named-err-payload}
use Rattle.h4_packets.proofs.payload_size.Goals as goal

pub returns-in-Err : goal.returns-in-Err
returns-in-Err c = (c.from.ensures ∙ named-err-payload _ _ c.in-Err.ensures _ _, omega arith)
