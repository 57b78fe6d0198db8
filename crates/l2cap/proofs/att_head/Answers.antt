use Rattle.bytes_base.specs.Bytes.{le_bytes}
use Rattle.l2cap.proofs.att_head.Goals as goal

pub returns : goal.returns
unfolding le_bytes
returns c = rw (c.header.ensures, c.to_le_bytes.ensures)
