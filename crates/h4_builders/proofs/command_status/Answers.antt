use Rattle.bytes_base.specs.Bytes.{le_bytes}
use Rattle.h4_builders.proofs.command_status.Goals as goal

pub returns : goal.returns
unfolding le_bytes
returns c = rw c.to_le_bytes.ensures at c.event_of.ensures
