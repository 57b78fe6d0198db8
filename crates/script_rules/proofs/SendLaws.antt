-- What each return of the functions that send asks, from what their callees ensure.
use Prim.Native.Nat.{ℕ, ◌+◌, ◌≤◌}
use mathlib.Core.Path.{◌≡◌, sym, ap, subst, ◌∙◌}
use mathlib.Core.List.{List}
use native.Mathlib.Omega.{arith}
use lib.ListN.{length}
use Rattle.l2cap.specs.Numbers.{cid_att}
use Rattle.l2cap.specs.Frame.{Written, written, framed, att_pdu, att_framed}
use Rattle.l2cap.proofs.FrameLaws.{framed-in, length-framed, att-framed-in, pdu-size}
use Rattle.state.specs.declared.Sent.{Sent}
use Rattle.script_rules.specs.World.{Told, told}
use Rattle.script_rules.specs.Send.{Room, more, send, request}

-- how many bytes a frame that has room takes
pub taken : (s : Sent) (out : List ℕ) (channel : ℕ) (payload out' : List ℕ) (n : ℕ) → Room s (length out) (length payload)
    → written out' n ≡ framed out s.bytes channel payload → n ≡ 4 + length payload
taken s out channel payload out' n r e = ap (λ (x : Written). x.len) (e ∙ framed-in out s.bytes channel payload r.short r.fits)

-- which fits behind what was sent
pub taken-fits : (s : Sent) (out : List ℕ) (channel : ℕ) (payload out' : List ℕ) (n : ℕ) → Room s (length out) (length payload)
    → written out' n ≡ framed out s.bytes channel payload → s.bytes + n ≤ length out
taken-fits s out channel payload out' n r e = omega (arith, taken s out channel payload out' n r e, r.fits)

pub sent-law : (s : Sent) (out : List ℕ) (channel : ℕ) (payload out' : List ℕ) (n : ℕ) → written out' n ≡ framed out s.bytes channel payload
    → told (record { frames = s.frames + 1; bytes = s.bytes + n; request = s.request }) out' ≡ send (told s out) channel payload
unfolding send
sent-law s out channel payload out' n e = ap (more s) e

-- the same of a value that stands in the store
module _ (s : Sent) (out : List ℕ) (opcode handle : ℕ) (value : List ℕ) (from n : ℕ) (out' : List ℕ) (len : ℕ) (there : from + n ≤ length value)
    (e : written out' len ≡ att_framed out s.bytes opcode handle value from n) where
  abbrev pdu : List ℕ
  pdu = att_pdu opcode handle value from n

  is_framed : written out' len ≡ framed out s.bytes cid_att pdu
  is_framed = e ∙ att-framed-in opcode handle value from n there out s.bytes

  size : length pdu ≡ 3 + n
  size = pdu-size opcode handle value from n there

  pub value-fits : Room s (length out) (3 + n) → s.bytes + len ≤ length out
  value-fits r = taken-fits s out cid_att pdu out' len (subst (λ (k : ℕ). Room s (length out) k) (sym size) r) is_framed

  pub value-law : told (record { frames = s.frames + 1; bytes = s.bytes + len; request = s.request }) out' ≡ send (told s out) cid_att pdu
  value-law = sent-law s out cid_att pdu out' len is_framed

pub length-send : (t : Told) (channel : ℕ) (payload : List ℕ) → length (send t channel payload).out ≡ length t.out
unfolding send
length-send t channel payload = length-framed t.out t.sent.bytes channel payload
