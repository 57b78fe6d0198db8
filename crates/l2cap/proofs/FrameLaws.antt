-- Laws of frames: what callers that know of room cite.
use Prim.Native.Nat.{ℕ, ◌+◌, ◌≤◌}
use mathlib.Core.Path.{◌≡◌, refl, ap, ◌∙◌}
use mathlib.Core.Bool.{Bool, true, false}
use mathlib.Core.List.{List, ◌++◌}
use native.Mathlib.Omega.{arith}
use lib.ListN.{length, take, drop, length-append, length-drop}
use lib.Seq.{take_all, length-take-le}
use borrow.Author.Tests.{le-leb}
use Rattle.bytes_base.specs.Choice.{pick}
use Rattle.bytes_base.specs.Bytes.{le_bytes}
use Rattle.bytes_base.specs.Splice.{splice}
use Rattle.bytes_base.proofs.ByteLaws.{length-le_bytes}
use Rattle.bytes_base.proofs.SpliceLaws.{splice-in, length-splice}
use Rattle.l2cap.specs.Numbers.{cid_att}
use Rattle.l2cap.specs.Frame.{l2cap_frame, written, room, framed, att_pdu, att_framed}

-- a frame is four bytes longer than its payload
pub length-frame : (channel : ℕ) (payload : List ℕ) → length (l2cap_frame channel payload) ≡ 4 + length payload
unfolding l2cap_frame
length-frame channel payload =
    simp (length-append, length-le_bytes) (omega arith)

-- where there is room
module _ (out : List ℕ) (at channel : ℕ) (payload : List ℕ) (short : length payload ≤ 65535) (fits : at + (4 + length payload) ≤ length out) where
  pub framed-in : framed out at channel payload ≡ written (splice out at (l2cap_frame channel payload) 0 (4 + length payload)) (4 + length payload)
  unfolding framed
  framed-in = rw (le-leb (length payload) 65535 short, le-leb (at + (4 + length payload)) (length out) fits)

  -- the bytes before, the frame, the bytes after
  pub framed-bytes : framed out at channel payload ≡ written (take at out ++ l2cap_frame channel payload ++ drop (at + (4 + length payload)) out) (4 + length payload)
  framed-bytes =
      let whole : take (4 + length payload) (l2cap_frame channel payload) ≡ l2cap_frame channel payload = take_all (4 + length payload) (l2cap_frame channel payload) (rw (length-frame channel payload) (omega arith)) in
      let there : 0 + (4 + length payload) ≤ length (l2cap_frame channel payload) = rw (length-frame channel payload) (omega arith) in
      framed-in ∙ ap (λ (l : List ℕ). written l (4 + length payload)) (splice-in out at (l2cap_frame channel payload) 0 (4 + length payload) fits there ∙ ap (λ (f : List ℕ). take at out ++ f ++ drop (at + (4 + length payload)) out) whole)

-- where there is none
pub framed-off : (out : List ℕ) (at channel : ℕ) (payload : List ℕ) → room out at (length payload) ≡ false → framed out at channel payload ≡ written out 0
unfolding framed
framed-off out at channel payload e = rw e

pub length-framed : (out : List ℕ) (at channel : ℕ) (payload : List ℕ) → length (framed out at channel payload).out ≡ length out
unfolding framed
length-framed out at channel payload = go (room out at (length payload))
  where
    go : (x : Bool)
        → length (pick x (written (splice out at (l2cap_frame channel payload) 0 (4 + length payload)) (4 + length payload)) (written out 0)).out ≡ length out
    go true = length-splice out at (l2cap_frame channel payload) 0 (4 + length payload)
    go false = refl

-- ---- ATT PDUs with a value

pub value-size : (value : List ℕ) (from n : ℕ) → from + n ≤ length value → length (take n (drop from value)) ≡ n
value-size value from n there = length-take-le n (drop from value) (rw length-drop (omega arith))

module _ (opcode handle : ℕ) (value : List ℕ) (from n : ℕ) (there : from + n ≤ length value) where
  pub pdu-size : length (att_pdu opcode handle value from n) ≡ 3 + n
  pdu-size =
      rw (length-append (le_bytes 2 handle) (take n (drop from value)), length-le_bytes, value-size value from n there) (omega arith)

  -- where the value is there
  pub att-framed-in : (out : List ℕ) (at : ℕ) → att_framed out at opcode handle value from n ≡ framed out at cid_att (att_pdu opcode handle value from n)
  unfolding att_framed
  att-framed-in out at = rw (le-leb (from + n) (length value) there)
