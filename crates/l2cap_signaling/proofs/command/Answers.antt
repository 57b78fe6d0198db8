use Rattle.bytes_base.specs.Bytes.{le_bytes}
use Rattle.l2cap_signaling.proofs.command.Goals as goal

pub returns : goal.returns
unfolding le_bytes
returns c = rw (c.lo.ensures, c.hi.ensures)
