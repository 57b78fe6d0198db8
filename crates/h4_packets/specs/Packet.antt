-- How many bytes an H4 packet takes: Core Vol 4 Part A 2 (an indicator in front of each packet) and Part E 5.4.1 to 5.4.5 (headers, length fields).
use Rattle.std.specs.Prelude.{ℕ, ◌+◌, ◌*◌, ◌%◌, List, [], ◌∷◌, length, get_or, leb, eqb, Option, None, Some, Result, Ok, Err}
use Rattle.bytes_base.specs.Choice.{pick}
use Rattle.bytes_base.specs.Bytes.{le_at}
use Rattle.h4_packets.specs.Numbers.{command, acl, sco, event, iso}
use Rattle.h4_packets.specs.Names.{undefined}
use Rattle.h4_packets.specs.declared.UndefinedIndicator.{UndefinedIndicator}

-- the length of a packet, None where it is unknown; or an indicator that is undefined
abbrev pub PacketLength : Type 0
PacketLength = Result (Option ℕ) UndefinedIndicator

-- of a packet whose indicator and header take `header` bytes and whose payload takes `payload`: unknown until the header is there
abbrev pub told : ℕ → ℕ → List ℕ → PacketLength
told header payload s = pick (leb header (length s)) (Ok (Some (header + payload))) (Ok None)

-- the packet s with the indicator i
unfoldable pub length_by : ℕ → List ℕ → PacketLength
length_by i s =
    -- 5.4.1: opcode (2 bytes), parameter total length (1)
    pick (eqb i command) (told 4 (get_or s 3 0) s)
    -- 5.4.2: handle and flags (2), data total length (2)
    (pick (eqb i acl) (told 5 (le_at 2 s 3) s)
    -- 5.4.3: handle and flags (2), data total length (1)
    (pick (eqb i sco) (told 4 (get_or s 3 0) s)
    -- 5.4.4: event code (1), parameter total length (1)
    (pick (eqb i event) (told 3 (get_or s 2 0) s)
    -- 5.4.5: handle and flags (2), data load length (14 bits, and 2 that are reserved)
    (pick (eqb i iso) (told 5 (le_at 2 s 3 % 0x4000) s)
    (Err (undefined i))))))

-- the packet at the front of s: its first byte alone tells whether the indicator is defined
unfoldable pub packet_length : List ℕ → PacketLength
packet_length [] = Ok None
packet_length (i ∷ s) = length_by i (i ∷ s)

-- ---- its parts, as the code finds them

-- bytes of the indicator and the header, or 0 where the indicator is undefined
unfoldable pub header_size : ℕ → ℕ
header_size i = pick (eqb i command) 4 (pick (eqb i acl) 5 (pick (eqb i sco) 4 (pick (eqb i event) 3 (pick (eqb i iso) 5 0))))

-- bytes of the payload, by the last two bytes of the header
unfoldable pub payload_size : ℕ → ℕ → ℕ → ℕ
payload_size i before last = pick (eqb i acl) (before + 256 * last) (pick (eqb i iso) ((before + 256 * last) % 0x4000) last)
