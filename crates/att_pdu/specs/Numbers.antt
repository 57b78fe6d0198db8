-- The numbers of ATT that 01 names.
use Rattle.std.specs.Prelude.{ℕ}

-- the ATT_MTU of a link on which none was exchanged (Core Vol 3 Part F 3.2.8), and the least that LE allows (Part A 5.1, Part G 5.2.1)
abbrev pub default_mtu : ℕ
default_mtu = 23

-- no handle is after this one (Core Vol 3 Part F 3.2.2)
abbrev pub last_handle : ℕ
last_handle = 0xFFFF

-- opcodes, Core Vol 3 Part F 3.4.8
abbrev pub op_error_rsp : ℕ
op_error_rsp = 0x01

abbrev pub op_exchange_mtu_req : ℕ
op_exchange_mtu_req = 0x02

abbrev pub op_exchange_mtu_rsp : ℕ
op_exchange_mtu_rsp = 0x03

abbrev pub op_find_information_req : ℕ
op_find_information_req = 0x04

abbrev pub op_find_information_rsp : ℕ
op_find_information_rsp = 0x05

abbrev pub op_find_by_type_value_req : ℕ
op_find_by_type_value_req = 0x06

abbrev pub op_read_by_type_req : ℕ
op_read_by_type_req = 0x08

abbrev pub op_read_by_type_rsp : ℕ
op_read_by_type_rsp = 0x09

abbrev pub op_read_req : ℕ
op_read_req = 0x0A

abbrev pub op_read_rsp : ℕ
op_read_rsp = 0x0B

abbrev pub op_read_blob_req : ℕ
op_read_blob_req = 0x0C

abbrev pub op_read_multiple_req : ℕ
op_read_multiple_req = 0x0E

abbrev pub op_read_by_group_type_req : ℕ
op_read_by_group_type_req = 0x10

abbrev pub op_read_by_group_type_rsp : ℕ
op_read_by_group_type_rsp = 0x11

abbrev pub op_write_req : ℕ
op_write_req = 0x12

abbrev pub op_write_rsp : ℕ
op_write_rsp = 0x13

abbrev pub op_handle_value_ntf : ℕ
op_handle_value_ntf = 0x1B

abbrev pub op_handle_value_ind : ℕ
op_handle_value_ind = 0x1D

abbrev pub op_handle_value_cfm : ℕ
op_handle_value_cfm = 0x1E

abbrev pub op_write_cmd : ℕ
op_write_cmd = 0x52

-- error codes, Core Vol 3 Part F 3.4.1.1
abbrev pub err_invalid_handle : ℕ
err_invalid_handle = 0x01

abbrev pub err_request_not_supported : ℕ
err_request_not_supported = 0x06

abbrev pub err_attribute_not_found : ℕ
err_attribute_not_found = 0x0A
