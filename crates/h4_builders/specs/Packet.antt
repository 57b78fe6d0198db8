-- Packets as lists of bytes: Core Vol 4 Part A 2 (the indicator), Part E 5.4.2 (ACL data) and 5.4.4 (events).
use Rattle.std.specs.Prelude.{ℕ, ◌+◌, ◌*◌, ◌%◌, List, ◌∷◌, ◌++◌, length}
use Rattle.bytes_base.specs.Bytes.{le_bytes}
use Rattle.h4_packets.specs.Numbers.{acl, event}

-- the handle in bits 0 to 11, the boundary flag in bits 12 and 13, broadcast flag 0 in bits 14 and 15
abbrev pub acl_word : ℕ → ℕ → ℕ
acl_word handle flag = handle % 4096 + 4096 * (flag % 4)

-- 5.4.2: that word and the data's length, each in two bytes, and the data
unfoldable pub acl_packet : ℕ → ℕ → List ℕ → List ℕ
acl_packet handle flag body = acl ∷ (le_bytes 2 (acl_word handle flag) ++ (le_bytes 2 (length body) ++ body))

-- 5.4.4: the event code, and the length of all parameters in one byte
unfoldable pub event_header : ℕ → ℕ → List ℕ
event_header code n = event ∷ (code ∷ le_bytes 1 n)

-- and the parameters
unfoldable pub event_packet : ℕ → List ℕ → List ℕ
event_packet code params = event_header code (length params) ++ params
