-- What a stream finds at its front (02, Three): more is needed, a whole packet, a bad indicator, or a packet that is too long.
use Rattle.std.specs.Prelude.{ℕ, List, length, leb, ltb, Option, None, Some, Result, Ok, Err}
use Rattle.bytes_base.specs.Choice.{pick}
use Rattle.h4_packets.specs.Numbers.{longest}
use Rattle.h4_packets.specs.Packet.{PacketLength, packet_length}
use Rattle.h4_packets.specs.declared.Lost.{Lost}
use Rattle.h4_packets.specs.declared.Lost.TheVariants.{ByIndicator, ByLength}

-- the length of a whole packet, None where more is needed; or how framing is lost
abbrev pub Front : Type 0
Front = Result (Option ℕ) Lost

-- of a packet whose length is told so, where `there` bytes are there: too long as soon as its length is known, whole once its last byte is there
abbrev pub front_by : PacketLength → ℕ → Front
front_by (Ok None) there = Ok None
front_by (Err i) there = Err ByIndicator
front_by (Ok (Some n)) there = pick (ltb longest n) (Err ByLength) (Ok (pick (leb n there) (Some n) None))

unfoldable pub front : List ℕ → Front
front s = front_by (packet_length s) (length s)
