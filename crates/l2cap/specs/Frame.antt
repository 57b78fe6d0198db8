-- Basic frames, and what writing one does to a lent output.
use Rattle.std.specs.Prelude.{ℕ, ◌+◌, Bool, ◌&&◌, List, ◌∷◌, ◌++◌, length, take, drop, leb}
use Rattle.bytes_base.specs.Choice.{pick}
use Rattle.bytes_base.specs.Bytes.{le_bytes}
use Rattle.bytes_base.specs.Splice.{inside, splice}
use Rattle.l2cap.specs.Numbers.{cid_att}

-- Core Vol 3 Part A 3.1: the payload's length and the channel, each in two bytes, and the payload
unfoldable pub l2cap_frame : ℕ → List ℕ → List ℕ
l2cap_frame channel payload = le_bytes 2 (length payload) ++ (le_bytes 2 channel ++ payload)

-- an output, and how many of its bytes were written
pub record Written : Type 0 where
  pub out : List ℕ
  pub len : ℕ

abbrev pub written : List ℕ → ℕ → Written
written out len = record { out = out; len = len }

-- whether a frame of n bytes of payload can be told in two bytes, and has room from at on
abbrev pub room : List ℕ → ℕ → ℕ → Bool
room out at n = leb n 65535 && inside out at (4 + n)

-- the frame over the output's bytes from at on, all others as they were; nothing where it has no room
unfoldable pub framed : List ℕ → ℕ → ℕ → List ℕ → Written
framed out at channel payload =
    pick (room out at (length payload))
    (written (splice out at (l2cap_frame channel payload) 0 (4 + length payload)) (4 + length payload))
    (written out 0)

-- Core Vol 3 Part F 3.3.1: an opcode, a handle, and the value that is n bytes of `value` from from on
abbrev pub att_pdu : ℕ → ℕ → List ℕ → ℕ → ℕ → List ℕ
att_pdu opcode handle value from n = opcode ∷ (le_bytes 2 handle ++ take n (drop from value))

-- the frame of that PDU on the ATT channel; nothing where the value's bytes are not there
unfoldable pub att_framed : List ℕ → ℕ → ℕ → ℕ → List ℕ → ℕ → ℕ → Written
att_framed out at opcode handle value from n =
    pick (inside value from n) (framed out at cid_att (att_pdu opcode handle value from n)) (written out 0)
