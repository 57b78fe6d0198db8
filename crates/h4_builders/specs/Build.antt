-- What a builder does to a lent output: 02, Three.
use Rattle.std.specs.Prelude.{ℕ, ◌+◌, Bool, List, ◌++◌, length, take, drop, leb, Result, Ok, Err, ⊤}
use Rattle.bytes_base.specs.Choice.{pick}
use Rattle.h4_packets.specs.declared.Refusal.{Refusal}
use Rattle.h4_packets.specs.declared.Refusal.TheVariants.{ShortOutput, LongPacket}
use Rattle.h4_builders.specs.Packet.{acl_packet, event_packet}

-- an output, and the answer: how many of its bytes were written, or the refusal
pub record Outcome : Type 0 where
  pub out : List ℕ
  pub answer : Result ℕ Refusal

abbrev pub built : List ℕ → Result ℕ Refusal → Outcome
built out answer = record { out = out; answer = answer }

-- the first refusal of a packet that fits the output or not, and is short enough or not
unfoldable pub refusing : Bool → Bool → Result ⊤ Refusal
refusing fits short = pick fits (pick short (Ok (tt {0})) (Err LongPacket)) (Err ShortOutput)

-- a packet over the front of an output, the bytes behind it as they were; a refusal writes nothing
unfoldable pub build : List ℕ → Bool → List ℕ → Outcome
build out short packet =
    pick (leb (length packet) (length out))
    (pick short (built (packet ++ drop (length packet) out) (Ok (length packet))) (built out (Err LongPacket)))
    (built out (Err ShortOutput))

-- 'ACL data over 1,019'
abbrev pub build_acl : List ℕ → ℕ → ℕ → List ℕ → Outcome
build_acl out handle flag body = build out (leb (length body) 1019) (acl_packet handle flag body)

-- 'an event over 255 parameter bytes'
abbrev pub build_event : List ℕ → ℕ → List ℕ → Outcome
build_event out code params = build out (leb (length params) 255) (event_packet code params)

-- ---- its parts, as the code finds them

-- v over the bytes of out from at on
abbrev pub written_at : List ℕ → ℕ → List ℕ → List ℕ
written_at out at v = take at out ++ (v ++ drop (at + length v) out)

-- the output with a header, or as it was where the packet is refused
abbrev pub begun : Result ⊤ Refusal → List ℕ → List ℕ → List ℕ
begun (Ok u) headed out = headed
begun (Err why) headed out = out
