-- The theorem on cuttings is not empty: lists of feeds, cut inside headers, and what they come to. Each is computed from the definitions.
use Rattle.std.specs.Prelude.{ℕ, ◌≡◌, refl, true, List, [], ◌∷◌, ◌++◌, replicate, None, Some}
use Rattle.bytes_base.specs.Bytes.{le, le_at}
use Rattle.h4_packets.specs.Packet.{length_by, packet_length}
use Rattle.h4_packets.specs.Front.{front}
use Rattle.h4_packets.specs.declared.Lost.TheVariants.{ByIndicator}
use Rattle.h4_packets.specs.declared.Refusal.TheVariants.{BadIndicator}
use Rattle.h4_stream.specs.declared.Stream.{Stream}
use Rattle.h4_stream.specs.Cut.{cutting, joined}
use Rattle.h4_stream.specs.Feed.{fresh, feeding}
use Rattle.thm_cuttings.specs.Feeds.{Feed, Result, result, feeds, all_bytes, are_taken}

-- an event of one parameter byte, and ACL data of two bytes
abbrev pub event : List ℕ
event = 0x04 ∷ 0x0E ∷ 0x01 ∷ 0x07 ∷ []

abbrev pub acl : List ℕ
acl = 0x02 ∷ 0x40 ∷ 0x20 ∷ 0x02 ∷ 0x00 ∷ 0xAA ∷ 0xBB ∷ []

abbrev pub blank : List ℕ
blank = replicate 1024 0xEE

-- with room in the output
abbrev pub lent : List ℕ → Feed
lent s = record { bytes = s; out = replicate 16 0xDD }

-- both packets in four feeds, cut inside both headers and inside the ACL length
abbrev first : Feed
first = lent (0x04 ∷ [])

abbrev others : List Feed
others = lent (0x0E ∷ 0x01 ∷ []) ∷ lent (0x07 ∷ 0x02 ∷ 0x40 ∷ 0x20 ∷ 0x02 ∷ []) ∷ lent (0x00 ∷ 0xAA ∷ 0xBB ∷ []) ∷ []

abbrev both : Result
both = record { packets = 2; bytes = event ++ acl; stream = fresh; held = []; refusal = None }

pub record Pieces : Type 0 where
  pub taken : are_taken fresh blank first others ≡ true
  pub all : all_bytes first others ≡ event ++ acl
  pub in_pieces : feeds fresh blank first others ≡ both
  pub at_once : result (feeding fresh blank (event ++ acl) (replicate 16 0xDD)) ≡ both

pub pieces : Pieces
unfolding are_taken all_bytes feeds feeding cutting joined front packet_length length_by le_at le
pieces = record { taken = refl; all = refl; in_pieces = refl; at_once = refl }

-- from a stream that holds half an event: it is completed, an indicator behind it is bad, and the feed after that is dropped
abbrev half : Stream
half = record { count = 2; lost = None }

abbrev ended : Result
ended = record { packets = 1; bytes = event; stream = record { count = 0; lost = Some ByIndicator }; held = []; refusal = Some BadIndicator }

pub record Lost-on-the-way : Type 0 where
  pub in_pieces : feeds half (event ++ blank) (lent (0x01 ∷ 0x07 ∷ 0x09 ∷ [])) (lent event ∷ []) ≡ ended
  pub at_once : result (feeding half (event ++ blank) (0x01 ∷ 0x07 ∷ 0x09 ∷ event) (replicate 16 0xDD)) ≡ ended

pub lost-on-the-way : Lost-on-the-way
unfolding are_taken all_bytes feeds feeding cutting joined front packet_length length_by le_at le
lost-on-the-way = record { in_pieces = refl; at_once = refl }
