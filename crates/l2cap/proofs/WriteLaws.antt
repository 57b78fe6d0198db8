-- A frame is written in two copies: what stands before the caller's bytes, and those bytes.
use Prim.Native.Nat.{ℕ, ◌+◌, ◌≤◌}
use mathlib.Core.Path.{◌≡◌, refl, sym, ap, ◌∙◌}
use mathlib.Core.Bool.{Bool, true, false, ◌&&◌}
use mathlib.Core.List.{List, ◌∷◌, ◌++◌, append_assoc}
use native.Mathlib.Omega.{arith}
use lib.ListN.{length, take, drop, length-append, length-drop}
use lib.Seq.{paste, take-paste, drop-paste, drop-drop, take_all, take-length, length-take-le}
use borrow.Author.Tests.{le-leb, leb-true}
use Rattle.bytes_base.specs.Choice.{pick}
use Rattle.bytes_base.specs.Bytes.{le_bytes}
use Rattle.bytes_base.specs.Splice.{inside, splice}
use Rattle.bytes_base.proofs.ByteLaws.{length-le_bytes}
use Rattle.bytes_base.proofs.SpliceLaws.{splice-in, length-splice}
use Rattle.l2cap.specs.Numbers.{cid_att}
use Rattle.l2cap.specs.Frame.{l2cap_frame, written, room, framed, att_pdu, att_framed}
use Rattle.l2cap.proofs.RoomLaws.{has_room, has-att-room}
use Rattle.l2cap.proofs.FrameLaws.{length-frame, framed-in, framed-off, value-size, pdu-size}

-- two copies, one after the other, are one
pub joined : (out : List ℕ) (at : ℕ) (a v : List ℕ) (from n : ℕ) → at + (length a + n) ≤ length out → from + n ≤ length v
    → splice (splice out at a 0 (length a)) (at + length a) v from n ≡ splice out at (a ++ take n (drop from v)) 0 (length a + n)
joined out at a v from n h k =
    let la = length a in
    let x : List ℕ = take n (drop from v) in
    let hx : length x ≡ n = length-take-le n (drop from v) (rw length-drop (omega arith)) in
    let hw : length (a ++ x) ≡ la + n = length-append a x ∙ ap (λ (m : ℕ). la + m) hx in
    let first : splice out at a 0 la ≡ paste out at a la = splice-in out at a 0 la (omega arith) (omega arith) in
    let second : splice (splice out at a 0 la) (at + la) v from n ≡ paste (splice out at a 0 la) (at + la) (drop from v) n =
    splice-in (splice out at a 0 la) (at + la) v from n (rw length-splice (omega arith)) k in
    let front : take (at + la) (paste out at a la) ≡ take at out ++ take la a = take-paste out at a la (omega arith) (omega arith) in
    let back : drop (at + la + n) (paste out at a la) ≡ drop (at + la + n) out =
    sym (drop-drop n (at + la) (paste out at a la)) ∙ ap (λ (l : List ℕ). drop n l) (drop-paste out at a la (omega arith) (omega arith)) ∙ drop-drop n (at + la) out in
    let one : splice out at (a ++ x) 0 (la + n) ≡ paste out at (a ++ x) (la + n) = splice-in out at (a ++ x) 0 (la + n) h (omega arith) in
    let all : take (la + n) (a ++ x) ≡ a ++ x = take_all (la + n) (a ++ x) (omega arith) in
    let sum : at + la + n ≡ at + (la + n) = omega arith in
    second
    ∙ ap (λ (l : List ℕ). take (at + la) l ++ x ++ drop (at + la + n) l) first
    ∙ rw (front, back, take-length a, sum, append_assoc (take at out) a x) (sym (one ∙ ap (λ (l : List ℕ). take at out ++ l ++ drop (at + (la + n)) out) all))

-- ---- the sizes of what stands before a value

pub header-size : (head : List ℕ) (n channel : ℕ) → head ≡ le_bytes 2 n ++ le_bytes 2 channel → length head ≡ 4
header-size head n channel e = rw e (simp (length-append, length-le_bytes))

pub att-head-size : (head : List ℕ) (n opcode handle : ℕ) → head ≡ (le_bytes 2 n ++ le_bytes 2 cid_att) ++ (opcode ∷ le_bytes 2 handle) → length head ≡ 7
att-head-size head n opcode handle e = rw e (simp (length-append, length-le_bytes))

-- ---- a frame, from what was written

-- one law for both writers: what is put is a frame, where the frame is what was put
module _ (out : List ℕ) (at channel : ℕ) (payload head body : List ℕ) (n : ℕ) (frame : l2cap_frame channel payload ≡ head ++ body) (size : length body ≡ n) where
  sizes : length head + n ≡ 4 + length payload
  sizes = omega (arith, sym (length-append head body) ∙ ap length (sym frame) ∙ length-frame channel payload)

  pub put-frame : (o : List ℕ) (r : ℕ) → length payload ≤ 65535 → at + (4 + length payload) ≤ length out
      → o ≡ splice out at (head ++ body) 0 (length head + n) → r ≡ length head + n → written o r ≡ framed out at channel payload
  put-frame o r short fits eo er = rw (eo, er, ← frame, sizes) (sym (framed-in out at channel payload short fits))

-- the header of a payload, and the payload
frame-split : (channel : ℕ) (payload : List ℕ)
    → l2cap_frame channel payload ≡ (le_bytes 2 (length payload) ++ le_bytes 2 channel) ++ take (length payload) payload
unfolding l2cap_frame
frame-split channel payload = rw (take-length payload) (sym (append_assoc (le_bytes 2 (length payload)) (le_bytes 2 channel) payload))

pub l2cap-law : (out : List ℕ) (at channel : ℕ) (payload head o : List ℕ) (r : ℕ) (x : Bool)
    → x ≡ room out at (length payload) → x ≡ true → head ≡ le_bytes 2 (length payload) ++ le_bytes 2 channel
    → o ≡ splice out at (head ++ take (length payload) payload) 0 (length head + length payload) → r ≡ length head + length payload
    → written o r ≡ framed out at channel payload
l2cap-law out at channel payload head o r x e t h eo er =
    let (short, fits) = has_room x (length out) at (length payload) e t in
    put-frame out at channel payload head (take (length payload) payload) (length payload)
    (rw h (frame-split channel payload))
    (length-take-le (length payload) payload (omega arith))
    o
    r
    short
    fits
    eo
    er

-- the head of a PDU, and its value
module _ (opcode handle : ℕ) (value : List ℕ) (from n : ℕ) (there : from + n ≤ length value) where
  att-split : l2cap_frame cid_att (att_pdu opcode handle value from n)
      ≡ ((le_bytes 2 (3 + n) ++ le_bytes 2 cid_att) ++ (opcode ∷ le_bytes 2 handle)) ++ take n (drop from value)
  unfolding l2cap_frame
  att-split = rw (pdu-size opcode handle value from n there) (simp append_assoc)

pub att-law : (out : List ℕ) (at opcode handle : ℕ) (value : List ℕ) (from n : ℕ) (head o : List ℕ) (r : ℕ) (x : Bool)
    → x ≡ (inside value from n && room out at (3 + n)) → x ≡ true
    → head ≡ (le_bytes 2 (3 + n) ++ le_bytes 2 cid_att) ++ (opcode ∷ le_bytes 2 handle)
    → o ≡ splice out at (head ++ take n (drop from value)) 0 (length head + n) → r ≡ length head + n
    → written o r ≡ att_framed out at opcode handle value from n
unfolding att_framed
att-law out at opcode handle value from n head o r x e t h eo er =
    let (there, (short, fits)) = has-att-room x (length out) at (length value) from n e t in
    let size = pdu-size opcode handle value from n there in
    rw (le-leb (from + n) (length value) there)
    (put-frame out at cid_att (att_pdu opcode handle value from n) head (take n (drop from value)) n
    (rw h (att-split opcode handle value from n there))
    (value-size value from n there)
    o
    r
    (omega arith)
    (omega arith)
    eo
    er)

-- ---- nothing, where there is no room

pub l2cap-off : (out : List ℕ) (at channel : ℕ) (payload : List ℕ) (x : Bool) → x ≡ room out at (length payload) → x ≡ false
    → written out 0 ≡ framed out at channel payload
l2cap-off out at channel payload x e f = sym (framed-off out at channel payload (sym e ∙ f))

pub att-off : (out : List ℕ) (at opcode handle : ℕ) (value : List ℕ) (from n : ℕ) (x : Bool)
    → x ≡ (inside value from n && room out at (3 + n)) → x ≡ false → written out 0 ≡ att_framed out at opcode handle value from n
unfolding att_framed
att-off out at opcode handle value from n x e f = go (inside value from n) refl
  where
    go : (y : Bool) → inside value from n ≡ y
        → written out 0 ≡ pick (inside value from n) (framed out at cid_att (att_pdu opcode handle value from n)) (written out 0)
    go true y =
        let there : from + n ≤ length value = leb-true (from + n) (length value) y in
        let none : room out at (3 + n) ≡ false = rw y at (sym e ∙ f) in
        rw y (sym (framed-off out at cid_att (att_pdu opcode handle value from n) (rw (pdu-size opcode handle value from n there) none)))
    go false y = rw y
