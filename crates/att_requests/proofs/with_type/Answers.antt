use Rattle.bytes_base.specs.Bytes.{le_bytes}
use Rattle.att_requests.proofs.with_type.Goals as goal

pub returns : goal.returns
unfolding le_bytes
returns c = rw (c.with_range.ensures, c.to_le_bytes.ensures)
