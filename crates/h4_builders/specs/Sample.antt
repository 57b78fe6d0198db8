-- Worked samples: packets by hand, and the edges of the two refusals.
use Rattle.std.specs.Prelude.{◌≡◌, refl, [], ◌∷◌, replicate, Ok, Err}
use Rattle.bytes_base.specs.Bytes.{le_bytes}
use Rattle.h4_packets.specs.declared.Refusal.TheVariants.{ShortOutput, LongPacket}
use Rattle.h4_builders.specs.Packet.{acl_packet, event_header, event_packet}
use Rattle.h4_builders.specs.Events.{code_command_complete, command_complete, code_command_status, command_status, code_completed_packets, pair_bytes, completed_packets, code_le_meta, le_meta}
use Rattle.h4_builders.specs.Build.{built, build, build_acl, build_event}

-- three bytes on handle 0040, the first of a packet (flag 10)
first-fragment : acl_packet 0x0040 2 (0xAA ∷ 0xBB ∷ 0xCC ∷ []) ≡ 0x02 ∷ 0x40 ∷ 0x20 ∷ 0x03 ∷ 0x00 ∷ 0xAA ∷ 0xBB ∷ 0xCC ∷ []
unfolding acl_packet le_bytes
first-fragment = refl

-- bits above the handle's 12 and the flag's 2 are dropped
masked : acl_packet 0xF040 5 [] ≡ 0x02 ∷ 0x40 ∷ 0x10 ∷ 0x00 ∷ 0x00 ∷ []
unfolding acl_packet le_bytes
masked = refl

-- Disconnection Complete
plain-event : event_packet 0x05 (0x00 ∷ 0x40 ∷ 0x00 ∷ 0x13 ∷ []) ≡ 0x04 ∷ 0x05 ∷ 0x04 ∷ 0x00 ∷ 0x40 ∷ 0x00 ∷ 0x13 ∷ []
unfolding event_packet event_header le_bytes
plain-event = refl

-- a Reset (0C03) is done; 5 commands may follow
reset-done : event_packet code_command_complete (command_complete 5 0x0C03 (0x00 ∷ [])) ≡ 0x04 ∷ 0x0E ∷ 0x04 ∷ 0x05 ∷ 0x03 ∷ 0x0C ∷ 0x00 ∷ []
unfolding event_packet event_header le_bytes
reset-done = refl

-- LE Create Connection (200D) is refused as disallowed (0C): the status comes before the number of commands
status-first : event_packet code_command_status (command_status 5 0x0C 0x200D) ≡ 0x04 ∷ 0x0F ∷ 0x04 ∷ 0x0C ∷ 0x05 ∷ 0x0D ∷ 0x20 ∷ []
unfolding event_packet event_header le_bytes
status-first = refl

-- one packet on 0040 and two on 0041; the odd 7 is left out
odd-tail : event_packet code_completed_packets (completed_packets (0x0040 ∷ 1 ∷ 0x0041 ∷ 2 ∷ 7 ∷ []))
    ≡ 0x04 ∷ 0x13 ∷ 0x09 ∷ 0x02 ∷ 0x40 ∷ 0x00 ∷ 0x01 ∷ 0x00 ∷ 0x41 ∷ 0x00 ∷ 0x02 ∷ 0x00 ∷ []
unfolding event_packet event_header completed_packets pair_bytes le_bytes
odd-tail = refl

meta : event_packet code_le_meta (le_meta 0x05 (0x40 ∷ 0x00 ∷ [])) ≡ 0x04 ∷ 0x3E ∷ 0x03 ∷ 0x05 ∷ 0x40 ∷ 0x00 ∷ []
unfolding event_packet event_header le_bytes
meta = refl

-- ---- the output

-- the byte behind the packet stays
stays : build_event (9 ∷ 9 ∷ 9 ∷ 9 ∷ 9 ∷ []) 0x3E (0x01 ∷ []) ≡ built (0x04 ∷ 0x3E ∷ 0x01 ∷ 0x01 ∷ 9 ∷ []) (Ok 4)
unfolding build event_packet event_header le_bytes
stays = refl

-- one byte short
short : build_event (9 ∷ 9 ∷ 9 ∷ []) 0x3E (0x01 ∷ []) ≡ built (9 ∷ 9 ∷ 9 ∷ []) (Err ShortOutput)
unfolding build event_packet event_header le_bytes
short = refl

-- 256 parameter bytes: 2 where the output has not the 259 bytes of that packet, 10 where it has
short-and-long : build_event (replicate 258 9) 0x3E (replicate 256 1) ≡ built (replicate 258 9) (Err ShortOutput)
unfolding build event_packet event_header le_bytes
short-and-long = refl

long : build_event (replicate 259 9) 0x3E (replicate 256 1) ≡ built (replicate 259 9) (Err LongPacket)
unfolding build event_packet event_header le_bytes
long = refl

-- 1,020 bytes of ACL data
long-acl : build_acl (replicate 1025 9) 1 0 (replicate 1020 1) ≡ built (replicate 1025 9) (Err LongPacket)
unfolding build acl_packet le_bytes
long-acl = refl
