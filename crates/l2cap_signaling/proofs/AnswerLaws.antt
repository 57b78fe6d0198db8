-- What callers cite of the answers.
use Prim.Native.Nat.{ℕ}
use mathlib.Core.Path.{◌≡◌, refl}
use mathlib.Core.Bool.{Bool, true, false, not, ◌&&◌}
use mathlib.Core.List.{List, ◌∷◌, ◌++◌}
use lib.ListN.{length, get_or}
use lib.Dec.{leb, eqb}
use Rattle.std.specs.Prelude.{Option, Some, None}
use Rattle.bytes_base.specs.Choice.{pick, among}
use Rattle.bytes_base.specs.Bytes.{le, le_bytes, le_at}
use Rattle.l2cap_params.specs.Params.{good_params}
use Rattle.l2cap_signaling.specs.declared.SignalingAnswer.{SignalingAnswer}
use Rattle.l2cap_signaling.specs.Numbers.{parameter_update_req, unanswered, pairing_failed}
use Rattle.l2cap_signaling.specs.Answer.{silence, rejection, parameter_request, code_answer, signaling_answer, smp_refusal, smp_silence, smp_answer}

-- ---- sizes: what goes back, if anything does, has so many bytes

abbrev pub Sized : ℕ → Option (List ℕ) → Type 0
Sized size (Some bytes) = length bytes ≡ size
Sized size None = Unit

abbrev six : SignalingAnswer → Type 0
six a = Sized 6 a.reply

picked : (b : Bool) (x y : SignalingAnswer) → six x → six y → six (pick b x y)
picked true x y p q = p
picked false x y p q = q

request-sized : (id : ℕ) (pdu : List ℕ) → six (parameter_request id pdu)
unfolding le_bytes
request-sized id pdu = refl

rejection-sized : (id : ℕ) → six (rejection id)
unfolding le_bytes
rejection-sized id = refl

code-sized : (code id : ℕ) (pdu : List ℕ) → six (code_answer code id pdu)
unfolding code_answer
code-sized code id pdu =
    picked (eqb code parameter_update_req) _ _
    (picked (leb 12 (length pdu)) (parameter_request id pdu) (rejection id) (request-sized id pdu) (rejection-sized id))
    (picked (among code unanswered) silence (rejection id) tt (rejection-sized id))

pub signaling-sized : (pdu : List ℕ) → Sized 6 (signaling_answer pdu).reply
unfolding signaling_answer
signaling-sized pdu =
    picked (leb 2 (length pdu)) (code_answer (get_or pdu 0 0) (get_or pdu 1 0) pdu) silence (code-sized (get_or pdu 0 0) (get_or pdu 1 0) pdu) tt

pub smp-sized : (pdu : List ℕ) → Sized 2 (smp_answer pdu)
unfolding smp_answer
smp-sized pdu = go (leb 1 (length pdu) && not (eqb (get_or pdu 0 0) pairing_failed))
  where
    go : (x : Bool) → Sized 2 (pick x smp_refusal smp_silence)
    go true = refl
    go false = tt

-- ---- 01's sample row P5: beside the frame that goes back, the link layer is told of the longest interval

-- a connection parameter update request, Core Vol 3 Part A 4.20
abbrev pub parameter_pdu : ℕ → ℕ → ℕ → ℕ → ℕ → List ℕ
parameter_pdu id min max latency timeout =
    parameter_update_req ∷ id ∷ (le_bytes 2 8 ++ (le_bytes 2 min ++ (le_bytes 2 max ++ (le_bytes 2 latency ++ le_bytes 2 timeout))))

pub p5-update : (signaling_answer (parameter_pdu 7 6 6 0 10)).update ≡ Some (record { interval = 6; latency = 0; timeout = 10 })
unfolding signaling_answer code_answer good_params le le_bytes le_at
p5-update = refl
