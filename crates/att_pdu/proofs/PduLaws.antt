-- What callers cite of the PDUs: their sizes, and the PDUs that carry a value as wire writes them.
use Prim.Native.Nat.{ℕ}
use mathlib.Core.Path.{◌≡◌, refl}
use lib.ListN.{length}
use Rattle.bytes_base.specs.Bytes.{le_bytes}
use Rattle.att_pdu.specs.Pdu.{att_error, exchange_mtu_req, exchange_mtu_rsp, find_information_req, read_by_type_req, read_req, read_by_group_type_req}

pub length-att_error : (request handle code : ℕ) → length (att_error request handle code) ≡ 5
unfolding le_bytes
length-att_error request handle code = refl

pub length-exchange_mtu_req : (mtu : ℕ) → length (exchange_mtu_req mtu) ≡ 3
unfolding le_bytes
length-exchange_mtu_req mtu = refl

pub length-exchange_mtu_rsp : (mtu : ℕ) → length (exchange_mtu_rsp mtu) ≡ 3
unfolding le_bytes
length-exchange_mtu_rsp mtu = refl

pub length-find_information_req : (start end : ℕ) → length (find_information_req start end) ≡ 5
unfolding le_bytes
length-find_information_req start end = refl

pub length-read_by_type_req : (start end uuid16 : ℕ) → length (read_by_type_req start end uuid16) ≡ 7
unfolding le_bytes
length-read_by_type_req start end uuid16 = refl

pub length-read_req : (handle : ℕ) → length (read_req handle) ≡ 3
unfolding le_bytes
length-read_req handle = refl

pub length-read_by_group_type_req : (start end uuid16 : ℕ) → length (read_by_group_type_req start end uuid16) ≡ 7
unfolding le_bytes
length-read_by_group_type_req start end uuid16 = refl
