-- ATT PDUs, Core Vol 3 Part F 3.4: an opcode and its parameters, each number in two bytes.
use Rattle.std.specs.Prelude.{ℕ, List, [], ◌∷◌, ◌++◌}
use Rattle.bytes_base.specs.Bytes.{le_bytes}
use Rattle.att_pdu.specs.Numbers.{op_error_rsp, op_exchange_mtu_req, op_exchange_mtu_rsp, op_find_information_req, op_read_by_type_req, op_read_req, op_read_by_group_type_req, op_write_req, op_write_cmd, op_handle_value_cfm}

-- 3.4.1.1: the opcode of the request in error, the handle in error, the error code
abbrev pub att_error : ℕ → ℕ → ℕ → List ℕ
att_error request handle code = op_error_rsp ∷ request ∷ (le_bytes 2 handle ++ (code ∷ []))

-- 3.4.2.1: the client's receive MTU
abbrev pub exchange_mtu_req : ℕ → List ℕ
exchange_mtu_req mtu = op_exchange_mtu_req ∷ le_bytes 2 mtu

-- 3.4.2.2: the server's receive MTU
abbrev pub exchange_mtu_rsp : ℕ → List ℕ
exchange_mtu_rsp mtu = op_exchange_mtu_rsp ∷ le_bytes 2 mtu

-- 3.4.3.1: the first and the last handle
abbrev pub find_information_req : ℕ → ℕ → List ℕ
find_information_req start end = op_find_information_req ∷ (le_bytes 2 start ++ le_bytes 2 end)

-- 3.4.4.1: the first and the last handle, the type as a 16-bit UUID
abbrev pub read_by_type_req : ℕ → ℕ → ℕ → List ℕ
read_by_type_req start end uuid16 = op_read_by_type_req ∷ (le_bytes 2 start ++ (le_bytes 2 end ++ le_bytes 2 uuid16))

-- 3.4.4.3
abbrev pub read_req : ℕ → List ℕ
read_req handle = op_read_req ∷ le_bytes 2 handle

-- 3.4.4.9: the first and the last handle, the group's type as a 16-bit UUID
abbrev pub read_by_group_type_req : ℕ → ℕ → ℕ → List ℕ
read_by_group_type_req start end uuid16 = op_read_by_group_type_req ∷ (le_bytes 2 start ++ (le_bytes 2 end ++ le_bytes 2 uuid16))

-- 3.4.5.1
abbrev pub write_req : ℕ → List ℕ → List ℕ
write_req handle value = op_write_req ∷ (le_bytes 2 handle ++ value)

-- 3.4.5.3
abbrev pub write_cmd : ℕ → List ℕ → List ℕ
write_cmd handle value = op_write_cmd ∷ (le_bytes 2 handle ++ value)

-- 3.4.7.3
abbrev pub confirmation : List ℕ
confirmation = op_handle_value_cfm ∷ []
