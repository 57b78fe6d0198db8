-- What goes back for a payload of the signaling channel (Core Vol 3 Part A 4) and of the security manager channel (Part H 3.5.5).
use Rattle.std.specs.Prelude.{ℕ, Bool, not, ◌&&◌, List, [], ◌∷◌, ◌++◌, length, get_or, leb, eqb, Option, Some, None, unwrap_or}
use Rattle.bytes_base.specs.Choice.{pick, among}
use Rattle.bytes_base.specs.Bytes.{le_bytes, le_at}
use Rattle.l2cap_params.specs.Params.{good_params}
use Rattle.l2cap_params.specs.declared.Parameters.{Parameters}
use Rattle.l2cap_signaling.specs.declared.SignalingAnswer.{SignalingAnswer}
use Rattle.l2cap_signaling.specs.Numbers.{command_reject_rsp, parameter_update_req, parameter_update_rsp, unanswered, pairing_failed, pairing_not_supported}

-- Part A 4: a code, the identifier of the request, the length of the data, the data
abbrev pub command : ℕ → ℕ → List ℕ → List ℕ
command code id body = code ∷ id ∷ (le_bytes 2 (length body) ++ body)

-- Part A 4.1: the reason, 0000 for a command that is not understood
abbrev pub command_reject : ℕ → List ℕ
command_reject id = command command_reject_rsp id (le_bytes 2 0x0000)

-- Part A 4.21: the result, 0000 for parameters that are taken and 0001 for those that are not
abbrev pub parameter_response : ℕ → Bool → List ℕ
parameter_response id good = command parameter_update_rsp id (le_bytes 2 (pick good 0x0000 0x0001))

abbrev pub silence : SignalingAnswer
silence = record { reply = None; update = None }

abbrev pub rejection : ℕ → SignalingAnswer
rejection id = record { reply = Some (command_reject id); update = None }

-- Part A 4.20: parameters that are good are for the link layer too, with the longest interval that the peripheral allows
abbrev pub parameter_answer : ℕ → Bool → ℕ → ℕ → ℕ → SignalingAnswer
parameter_answer id good max latency timeout =
    record { reply = Some (parameter_response id good); update = pick good (Some (record { interval = max; latency = latency; timeout = timeout })) None }

-- Part A 4.20: interval min and max, latency and timeout, each in two bytes after the packet's four
abbrev pub parameter_request : ℕ → List ℕ → SignalingAnswer
parameter_request id pdu =
    parameter_answer id (good_params (le_at 2 pdu 4) (le_at 2 pdu 6) (le_at 2 pdu 8) (le_at 2 pdu 10)) (le_at 2 pdu 6) (le_at 2 pdu 8) (le_at 2 pdu 10)

-- a whole parameter request is answered; a shorter one is rejected, as is every code but those that ask for no answer
unfoldable pub code_answer : ℕ → ℕ → List ℕ → SignalingAnswer
code_answer code id pdu =
    pick (eqb code parameter_update_req)
    (pick (leb 12 (length pdu)) (parameter_request id pdu) (rejection id))
    (pick (among code unanswered) silence (rejection id))

-- a payload without a code and an identifier gets nothing
unfoldable pub signaling_answer : List ℕ → SignalingAnswer
signaling_answer pdu = pick (leb 2 (length pdu)) (code_answer (get_or pdu 0 0) (get_or pdu 1 0) pdu) silence

-- Part H 3.5.5: pairing failed, and the reason
abbrev pub smp_refusal : Option (List ℕ)
smp_refusal = Some (pairing_failed ∷ pairing_not_supported ∷ [])

abbrev pub smp_silence : Option (List ℕ)
smp_silence = None

-- every command but pairing failed is told that pairing is not supported
unfoldable pub smp_answer : List ℕ → Option (List ℕ)
smp_answer pdu = pick (leb 1 (length pdu) && not (eqb (get_or pdu 0 0) pairing_failed)) smp_refusal smp_silence

-- the payloads that go back: no bytes where nothing does
abbrev pub signaling_payload : SignalingAnswer → List ℕ
signaling_payload a = unwrap_or a.reply []

abbrev pub smp_payload : Option (List ℕ) → List ℕ
smp_payload a = unwrap_or a []
