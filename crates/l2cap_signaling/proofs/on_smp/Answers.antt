use native.Mathlib.Omega.{arith}
use lib.ListN.{length, get_or}
use borrow.Author.Tests.{le-leb, lt-leb, eq-eqb, ne_eqb}
use Rattle.l2cap_signaling.specs.Answer.{smp_answer}
use Rattle.l2cap_signaling.proofs.on_smp.Goals as goal

pub returns-then-pdu-ne-PAIRING_FAILED : goal.returns-then-pdu-ne-PAIRING_FAILED
unfolding smp_answer
returns-then-pdu-ne-PAIRING_FAILED c = rw (le-leb 1 (length c.args.pdu.now) (omega arith), ne_eqb (get_or c.args.pdu.now 0 0) 5 c.if-pdu-ne-PAIRING_FAILED.true)

pub returns-else-pdu-ne-PAIRING_FAILED : goal.returns-else-pdu-ne-PAIRING_FAILED
unfolding smp_answer
returns-else-pdu-ne-PAIRING_FAILED c = rw (le-leb 1 (length c.args.pdu.now) (omega arith), eq-eqb (get_or c.args.pdu.now 0 0) 5 c.if-pdu-ne-PAIRING_FAILED.false)

pub returns-else-pdu-gt0 : goal.returns-else-pdu-gt0
unfolding smp_answer
returns-else-pdu-gt0 c = rw (lt-leb 1 (length c.args.pdu.now) (omega arith))
