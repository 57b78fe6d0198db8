use Rattle.bytes_base.specs.Bytes.{le_bytes}
use Rattle.l2cap.proofs.header.Goals as goal

pub returns : goal.returns
unfolding le_bytes
returns c = rw (c.to_le_bytes.ensures, c.to_le_bytes-2.ensures)
