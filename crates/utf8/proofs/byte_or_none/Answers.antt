use mathlib.Core.Path.{sym}
use native.Mathlib.Omega.{arith}
use lib.ListN.{get_or-eq_default}
use Rattle.utf8.proofs.Sequences.{get_d_any}
use Rattle.utf8.proofs.byte_or_none.Goals as goal

pub overflow_cast-result : goal.overflow_cast-result
overflow_cast-result c = omega (arith, c.shared_slice_known-1.given c.args.at)

pub returns-then-at-s : goal.returns-then-at-s
returns-then-at-s c = get_d_any c.args.s.now c.args.at 0 256 (omega arith)

pub returns-else-at-s : goal.returns-else-at-s
returns-else-at-s c = sym (get_or-eq_default c.args.s.now 256 (omega arith))
