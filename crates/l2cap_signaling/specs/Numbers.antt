-- Codes of signaling packets, Core Vol 3 Part A 4, and of the security manager, Part H 3.3.
use Rattle.std.specs.Prelude.{ℕ, List, [], ◌∷◌}

abbrev pub command_reject_rsp : ℕ
command_reject_rsp = 0x01

abbrev pub disconnection_rsp : ℕ
disconnection_rsp = 0x07

abbrev pub parameter_update_req : ℕ
parameter_update_req = 0x12

abbrev pub parameter_update_rsp : ℕ
parameter_update_rsp = 0x13

abbrev pub le_credit_connection_rsp : ℕ
le_credit_connection_rsp = 0x15

abbrev pub flow_control_credit_ind : ℕ
flow_control_credit_ind = 0x16

abbrev pub credit_connection_rsp : ℕ
credit_connection_rsp = 0x18

abbrev pub credit_reconfigure_rsp : ℕ
credit_reconfigure_rsp = 0x1A

-- codes that ask for no answer: responses, and the indication of credits
abbrev pub unanswered : List ℕ
unanswered =
    command_reject_rsp
    ∷ disconnection_rsp
    ∷ parameter_update_rsp
    ∷ le_credit_connection_rsp
    ∷ flow_control_credit_ind
    ∷ credit_connection_rsp
    ∷ credit_reconfigure_rsp
    ∷ []

-- security manager: pairing failed, because pairing is not supported (Part H 3.5.5)
abbrev pub pairing_failed : ℕ
pairing_failed = 0x05

abbrev pub pairing_not_supported : ℕ
pairing_not_supported = 0x05
