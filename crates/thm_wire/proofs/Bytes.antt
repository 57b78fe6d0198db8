-- Frames in bytes: what one frame more leaves in the output, and what is read of it.
use Prim.Native.Nat.{ℕ, suc, ◌+◌, ◌*◌, ◌/◌, ◌%◌, ◌≤◌}
use mathlib.Core.Path.{◌≡◌, refl, sym, ap, ◌∙◌}
use mathlib.Core.List.{List, [], ◌∷◌, ◌++◌, append-nil, append_assoc}
use native.Mathlib.Omega.{arith}
use lib.ListN.{length, take, drop, length-append}
use lib.Seq.{take_at, drop_at, drop-drop}
use Rattle.bytes_base.specs.Bytes.{le, le_bytes}
use Rattle.l2cap.specs.Frame.{l2cap_frame}
use Rattle.l2cap.proofs.FrameLaws.{length-frame, framed-bytes}
use Rattle.script_rules.specs.World.{Told}
use Rattle.script_rules.specs.Send.{send}
use Rattle.thm_wire.specs.Wire.{Frame, Sent, length_of, channel_of, parse, as_sent, frames_of, wire, Within}

-- ---- a frame that is read

-- its length and its channel can be told in two bytes
pub record Known (x : Frame) : Type 0 where
  pub channel : x.channel ≤ 65535
  pub size : length x.payload ≤ 65535

abbrev pub AllKnown : List Sent → Type 0
AllKnown [] = Unit {0}
AllKnown (x ∷ xs) = Known x.frame × AllKnown xs

module _ (channel : ℕ) (payload rest : List ℕ) (k : channel ≤ 65535) (s : length payload ≤ 65535) where
  length-read : length_of (l2cap_frame channel payload ++ rest) ≡ length payload
  unfolding l2cap_frame le le_bytes
  length-read = omega arith

  channel-read : channel_of (l2cap_frame channel payload ++ rest) ≡ channel
  unfolding l2cap_frame le le_bytes
  channel-read = omega arith

  behind : drop 4 (l2cap_frame channel payload ++ rest) ≡ payload ++ rest
  unfolding l2cap_frame le_bytes
  behind = refl

pub sent-frame : (channel : ℕ) (payload : List ℕ) (mtu : ℕ) → channel ≤ 65535 → length payload ≤ 65535
    → as_sent mtu (l2cap_frame channel payload) ≡ record { frame = record { channel = channel; payload = payload }; mtu = mtu } ∷ []
unfolding l2cap_frame le le_bytes
sent-frame channel payload mtu k s =
    let e : channel % 256 + 256 * (channel / 256 % 256 + 256 * 0) ≡ channel = omega arith in
    ap (λ (c : ℕ). record { frame = record { channel = c; payload = payload }; mtu = mtu } ∷ []) e

pub parse-wire : (ps : List Sent) (rest : List ℕ) → AllKnown ps → parse (length ps) (wire ps ++ rest) ≡ frames_of ps
parse-wire [] rest k = refl
parse-wire (x ∷ xs) rest k =
    let p = x.frame.payload in
    let b : List ℕ = wire xs ++ rest in
    let f : List ℕ = l2cap_frame x.frame.channel p in
    let a : wire (x ∷ xs) ++ rest ≡ f ++ b = append_assoc f (wire xs) rest in
    let n = length-read x.frame.channel p b k.0.channel k.0.size in
    let c = channel-read x.frame.channel p b k.0.channel k.0.size in
    let d = behind x.frame.channel p b k.0.channel k.0.size in
    ap (λ (l : List ℕ). parse (suc (length xs)) l) a
    ∙ rw (n, c, d, take_at p b (length p) refl, drop_at p b (length p) refl, parse-wire xs rest k.1)

-- ---- lists of frames

pub wire-append : (a b : List Sent) → wire (a ++ b) ≡ wire a ++ wire b
wire-append [] b = refl
wire-append (x ∷ a) b =
    let f : List ℕ = l2cap_frame x.frame.channel x.frame.payload in
    ap (λ (l : List ℕ). f ++ l) (wire-append a b) ∙ sym (append_assoc f (wire a) (wire b))

pub wire-one : (a : List Sent) (x : Sent) → wire (a ++ (x ∷ [])) ≡ wire a ++ l2cap_frame x.frame.channel x.frame.payload
wire-one a x = wire-append a (x ∷ []) ∙ ap (λ (l : List ℕ). wire a ++ l) (append-nil (l2cap_frame x.frame.channel x.frame.payload))

pub within-one : (a : List Sent) (x : Sent) → Within a → Within (x ∷ []) → Within (a ++ (x ∷ []))
within-one [] x p q = q
within-one (y ∷ a) x p q = (p.0, within-one a x p.1 q)

pub known-one : (a : List Sent) (x : Sent) → AllKnown a → Known x.frame → AllKnown (a ++ (x ∷ []))
known-one [] x p q = (q, tt)
known-one (y ∷ a) x p q = (p.0, known-one a x p.1 q)

-- ---- one frame more

-- behind the bytes b that stand in an output that was lent as o
module _ (t : Told) (channel : ℕ) (payload b o : List ℕ) (short : length payload ≤ 65535) (fits : t.sent.bytes + (4 + length payload) ≤ length t.out)
    (bytes : t.sent.bytes ≡ length b) (out : t.out ≡ b ++ drop t.sent.bytes o) where
  abbrev f : List ℕ
  f = l2cap_frame channel payload

  abbrev n : ℕ
  n = t.sent.bytes + (4 + length payload)

  pub sent-bytes : (send t channel payload).sent.bytes ≡ n
  unfolding send
  sent-bytes = rw (framed-bytes t.out t.sent.bytes channel payload short fits)

  pub sent-all : length (b ++ f) ≡ n
  sent-all = omega (arith, length-append b f, length-frame channel payload, bytes)

  pub sent-out : (send t channel payload).out ≡ b ++ f ++ drop n o
  unfolding send
  sent-out =
      let front : take t.sent.bytes t.out ≡ b = ap (take t.sent.bytes) out ∙ take_at b (drop t.sent.bytes o) t.sent.bytes (sym bytes) in
      let back : drop n t.out ≡ drop n o =
      sym (drop-drop (4 + length payload) t.sent.bytes t.out)
      ∙ ap (drop (4 + length payload)) (ap (drop t.sent.bytes) out ∙ drop_at b (drop t.sent.bytes o) t.sent.bytes (sym bytes))
      ∙ drop-drop (4 + length payload) t.sent.bytes o in
      rw (framed-bytes t.out t.sent.bytes channel payload short fits)
      (ap (λ (l : List ℕ). l ++ f ++ drop n t.out) front ∙ ap (λ (l : List ℕ). b ++ f ++ l) back)

  -- what was written is the frame
  pub sent-written : drop t.sent.bytes (take (send t channel payload).sent.bytes (send t channel payload).out) ≡ f
  sent-written =
      ap (λ (k : ℕ). drop t.sent.bytes (take k (send t channel payload).out)) sent-bytes
      ∙ ap (λ (l : List ℕ). drop t.sent.bytes (take n l)) sent-out
      ∙ ap (drop t.sent.bytes) (take_at (b ++ f) (drop n o) n sent-all)
      ∙ drop_at b f t.sent.bytes (sym bytes)
