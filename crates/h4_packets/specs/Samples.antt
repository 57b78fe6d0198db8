-- Worked samples: bytes at the front of a stream, and what they tell. Each is computed from the definitions.
use Rattle.std.specs.Prelude.{◌≡◌, refl, [], ◌∷◌, None, Some, Ok, Err}
use Rattle.bytes_base.specs.Bytes.{le, le_at}
use Rattle.h4_packets.specs.Names.{undefined}
use Rattle.h4_packets.specs.Packet.{length_by, packet_length}
use Rattle.h4_packets.specs.Front.{front}
use Rattle.h4_packets.specs.declared.Lost.TheVariants.{ByIndicator, ByLength}

pub record Lengths : Type 0 where
  -- HCI_Reset: no parameters, 4 + 0
  pub command : packet_length (0x01 ∷ 0x03 ∷ 0x0C ∷ 0x00 ∷ []) ≡ Ok (Some 4)
  -- length 0007 behind handle and flags: 5 + 7
  pub acl : packet_length (0x02 ∷ 0x40 ∷ 0x20 ∷ 0x07 ∷ 0x00 ∷ []) ≡ Ok (Some 12)
  -- length 30: 4 + 48
  pub sco : packet_length (0x03 ∷ 0x40 ∷ 0x00 ∷ 0x30 ∷ []) ≡ Ok (Some 52)
  -- HCI_Command_Complete of 4 parameter bytes: 3 + 4
  pub event : packet_length (0x04 ∷ 0x0E ∷ 0x04 ∷ []) ≡ Ok (Some 7)
  -- C0F0 has both reserved bits set: 5 + 00F0
  pub iso : packet_length (0x05 ∷ 0x40 ∷ 0x00 ∷ 0xF0 ∷ 0xC0 ∷ []) ≡ Ok (Some 245)
  pub nothing : packet_length [] ≡ Ok None
  pub half-a-length : packet_length (0x02 ∷ 0x40 ∷ 0x20 ∷ 0x07 ∷ []) ≡ Ok None
  pub below : packet_length (0x00 ∷ []) ≡ Err (undefined 0)
  pub above : packet_length (0x06 ∷ 0x00 ∷ 0x00 ∷ 0x00 ∷ 0x00 ∷ []) ≡ Err (undefined 6)

pub lengths : Lengths
unfolding packet_length length_by le_at le
lengths =
    record {
      command = refl;
      acl = refl;
      sco = refl;
      event = refl;
      iso = refl;
      nothing = refl;
      half-a-length = refl;
      below = refl;
      above = refl;
    }

pub record Fronts : Type 0 where
  -- an event of one parameter byte, and a byte of what follows
  pub whole : front (0x04 ∷ 0x0E ∷ 0x01 ∷ 0x07 ∷ 0x02 ∷ []) ≡ Ok (Some 4)
  -- its last byte is still to come
  pub one-short : front (0x04 ∷ 0x0E ∷ 0x01 ∷ []) ≡ Ok None
  -- 1,019 bytes of ACL data: 1,024 with indicator and header, and taken
  pub longest : front (0x02 ∷ 0x40 ∷ 0x00 ∷ 0xFB ∷ 0x03 ∷ []) ≡ Ok None
  -- 1,020: refused before any byte of the body is there
  pub too_long : front (0x02 ∷ 0x40 ∷ 0x00 ∷ 0xFC ∷ 0x03 ∷ []) ≡ Err ByLength
  -- not before the header is complete
  pub half-a-header : front (0x02 ∷ 0x40 ∷ 0x00 ∷ 0xFC ∷ []) ≡ Ok None
  -- the first byte decides before the length
  pub bad : front (0x06 ∷ []) ≡ Err ByIndicator

pub fronts : Fronts
unfolding front packet_length length_by le_at le
fronts = record { whole = refl; one-short = refl; longest = refl; too_long = refl; half-a-header = refl; bad = refl }
