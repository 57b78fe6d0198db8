use native.Mathlib.Omega.{arith}
use lib.ListN.{length}
use borrow.Author.Tests.{le-leb, lt-leb}
use Rattle.l2cap_signaling.specs.Answer.{signaling_answer}
use Rattle.l2cap_signaling.proofs.on_signaling.Goals as goal

pub returns-then-pdu-lt2 : goal.returns-then-pdu-lt2
unfolding signaling_answer
returns-then-pdu-lt2 c = rw (lt-leb 2 (length c.args.pdu.now) (omega arith)) c.silence.ensures

pub returns : goal.returns
unfolding signaling_answer
returns c = rw (le-leb 2 (length c.args.pdu.now) (omega arith)) c.on_code.ensures
