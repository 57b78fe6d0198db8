use Rattle.h4_packets.proofs.LengthLaws.{named-err}
use Rattle.h4_packets.proofs.header_size.Goals as goal

pub returns-in-Err : goal.returns-in-Err
returns-in-Err c = (named-err _ _ c.in-Err.ensures).0
