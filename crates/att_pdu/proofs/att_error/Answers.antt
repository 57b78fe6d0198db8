use Rattle.bytes_base.specs.Bytes.{le_bytes}
use Rattle.att_pdu.proofs.att_error.Goals as goal

pub returns : goal.returns
unfolding le_bytes
returns c = rw c.to_le_bytes.ensures
