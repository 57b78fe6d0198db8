-- A payload of the attribute channel: its opcode decides, by value and by range (01, 'Rules of the link'; Core Vol 3 Part F 3.4.8).
use Rattle.std.specs.Prelude.{ℕ, ◌%◌, Bool, ◌&&◌, ◌||◌, List, [], ◌∷◌, get_or, eqb, leb, ltb}
use Rattle.bytes_base.specs.Choice.{pick, among}
use Rattle.bytes_base.specs.Bytes.{le_at}
use Rattle.time.specs.declared.Micros.{Micros}
use Rattle.att_pdu.specs.Numbers.{op_exchange_mtu_req, op_find_information_req, op_find_by_type_value_req, op_read_by_type_req, op_read_by_group_type_req, op_read_req, op_read_blob_req, op_read_multiple_req, op_write_req, op_handle_value_ntf, op_handle_value_ind, op_handle_value_cfm, op_write_cmd, err_invalid_handle, err_request_not_supported, err_attribute_not_found}
use Rattle.script_rules.specs.World.{World, on_told}
use Rattle.link_rules.specs.Payload.{payload}
use Rattle.link_rules.specs.Replies.{refuse, exchange, notice}
use Rattle.link_rules.specs.Responses.{on_response}

-- searches: there is no such attribute
abbrev pub searches : List ℕ
searches = op_find_information_req ∷ op_find_by_type_value_req ∷ op_read_by_type_req ∷ op_read_by_group_type_req ∷ []

-- accesses: there is no such handle
abbrev pub accesses : List ℕ
accesses = op_read_req ∷ op_read_blob_req ∷ op_read_multiple_req ∷ op_write_req ∷ []

-- what asks for no answer
abbrev pub silent : List ℕ
silent = op_write_cmd ∷ op_handle_value_cfm ∷ []

-- every other request: an even opcode below the notification, or 20
abbrev pub other_request : ℕ → Bool
other_request op = (ltb op op_handle_value_ntf && eqb (op % 2) 0) || eqb op 0x20

unfoldable pub by_opcode : World → Micros → ℕ → ℕ → ℕ → World
by_opcode w at n op handle =
    pick (among op (op_handle_value_ntf ∷ op_handle_value_ind ∷ []) && leb 3 n)
    (notice w at n (eqb op op_handle_value_ind))
    (pick (eqb op op_exchange_mtu_req)
    (exchange w handle)
    (pick (among op searches)
    (on_told w (refuse w.told op handle err_attribute_not_found))
    (pick (among op accesses)
    (on_told w (refuse w.told op handle err_invalid_handle))
    (pick (among op silent)
    w
    (pick (other_request op) (on_told w (refuse w.told op 0 err_request_not_supported)) (on_response w at n))))))

-- n bytes of payload; none has no opcode
unfoldable pub on_att : World → Micros → ℕ → World
on_att w at n = let p = payload w.held n in pick (eqb n 0) w (by_opcode w at n (get_or p 0 0) (le_at 2 p 1))
