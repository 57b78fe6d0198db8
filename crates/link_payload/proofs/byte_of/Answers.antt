use mathlib.Core.Path.{sym}
use native.Mathlib.Omega.{arith}
use lib.ListN.{get_or-eq_default}
use Rattle.link_payload.proofs.byte_of.Goals as goal

pub returns-else-i-p : goal.returns-else-i-p
returns-else-i-p c = sym (get_or-eq_default c.args.p.now 0 (omega arith))
