-- Worked samples: what feeds come to. Each is computed from the definitions.
use Rattle.std.specs.Prelude.{ℕ, ◌≡◌, refl, List, [], ◌∷◌, ◌++◌, replicate, None, Some}
use Rattle.bytes_base.specs.Bytes.{le, le_at}
use Rattle.h4_packets.specs.Packet.{length_by, packet_length}
use Rattle.h4_packets.specs.Front.{front}
use Rattle.h4_packets.specs.declared.Lost.TheVariants.{ByIndicator, ByLength}
use Rattle.h4_packets.specs.declared.Refusal.TheVariants.{Overheld, ShortOutput}
use Rattle.h4_stream.specs.Cut.{cutting, joined}
use Rattle.h4_stream.specs.Feed.{fresh, answered, outcome, refused, feeding}

-- an event of one parameter byte, and ACL data of two bytes
abbrev event : List ℕ
event = 0x04 ∷ 0x0E ∷ 0x01 ∷ 0x07 ∷ []

abbrev acl : List ℕ
acl = 0x02 ∷ 0x40 ∷ 0x20 ∷ 0x02 ∷ 0x00 ∷ 0xAA ∷ 0xBB ∷ []

-- bytes that nothing has written
abbrev blank : ℕ → List ℕ
blank n = replicate n 0xEE

pub record Samples : Type 0 where
  -- two packets, and three bytes of a third, which are held
  pub two-and-a-part :
      feeding fresh (blank 1024) (event ++ (acl ++ (0x02 ∷ 0x40 ∷ 0x20 ∷ []))) (blank 15)
      ≡ outcome (answered 3 None 2 11) (0x02 ∷ 0x40 ∷ 0x20 ∷ blank 1021) (event ++ (acl ++ blank 4))
  -- the third is completed by the next feed: what was held goes out first, and the bytes where it was held stay
  pub completed :
      feeding (record { count = 3; lost = None }) (0x02 ∷ 0x40 ∷ 0x20 ∷ blank 1021) (0x01 ∷ 0x00 ∷ 0xCC ∷ []) (blank 6)
      ≡ outcome (answered 0 None 1 6) (0x02 ∷ 0x40 ∷ 0x20 ∷ blank 1021) (0x02 ∷ 0x40 ∷ 0x20 ∷ 0x01 ∷ 0x00 ∷ 0xCC ∷ [])
  -- a bad indicator behind two packets: they come first, then 9, and nothing is held
  pub bad-behind-two :
      feeding fresh (blank 1024) (event ++ (acl ++ (0x07 ∷ 0x04 ∷ []))) (blank 13)
      ≡ outcome (answered 0 (Some ByIndicator) 2 11) (blank 1024) (event ++ (acl ++ blank 2))
  -- ACL data of 1,020 bytes, 1,025 with its header: 10, before any of it is there
  pub long-without-a-body :
      feeding fresh (blank 1024) (0x02 ∷ 0x40 ∷ 0x20 ∷ 0xFC ∷ 0x03 ∷ []) (blank 5)
      ≡ outcome (answered 0 (Some ByLength) 0 0) (blank 1024) (blank 5)
  -- a lost stream takes nothing
  pub stays-lost :
      feeding (record { count = 0; lost = Some ByIndicator }) (blank 1024) event (blank 4) ≡ outcome (answered 0 (Some ByIndicator) 0 0) (blank 1024) (blank 4)
  -- bytes that a lost stream holds still count towards the output; then they are dropped
  pub lost-and-short :
      feeding (record { count = 3; lost = Some ByLength }) (blank 1024) event (blank 6) ≡ refused (record { count = 3; lost = Some ByLength }) (blank 1024) (blank 6) ShortOutput
  pub lost-and-dropped :
      feeding (record { count = 3; lost = Some ByLength }) (blank 1024) event (blank 7) ≡ outcome (answered 0 (Some ByLength) 0 0) (blank 1024) (blank 7)
  -- 1 before 2
  pub overheld-first :
      feeding (record { count = 1025; lost = None }) (blank 1024) event [] ≡ refused (record { count = 1025; lost = None }) (blank 1024) [] Overheld

pub samples : Samples
unfolding feeding cutting joined front packet_length length_by le_at le
samples =
    record {
      two-and-a-part = refl;
      completed = refl;
      bad-behind-two = refl;
      long-without-a-body = refl;
      stays-lost = refl;
      lost-and-short = refl;
      lost-and-dropped = refl;
      overheld-first = refl;
    }
