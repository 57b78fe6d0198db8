-- What an answer says by itself (Core Vol 3 Part F 3.4; 01, 'Rules of the link').
use Rattle.std.specs.Prelude.{ℕ, ◌+◌, max, min, Bool, not, ◌&&◌, List, get_or, eqb}
use Rattle.bytes_base.specs.Choice.{pick}
use Rattle.att_pdu.specs.Numbers.{op_error_rsp}
use Rattle.state_rules.specs.Steps.{default_mtu}

-- it counts if it is pending + 1, or an error naming pending
abbrev pub counts : ℕ → List ℕ → Bool
counts pending p = not (eqb pending 0) && pick (eqb (get_or p 0 0) op_error_rsp) (eqb (get_or p 1 0) pending) (eqb (get_or p 0 0) (pending + 1))

-- the smaller of both MTUs, neither below 23 (01)
abbrev pub smaller_mtu : ℕ → ℕ → ℕ
smaller_mtu server ours = min (max server default_mtu) (max ours default_mtu)

-- the size of an entry by the answer's format: handles with 16-bit types, or with 128-bit ones (Part F 3.4.3.2)
abbrev pub width_of : ℕ → ℕ
width_of format = pick (eqb format 1) 4 (pick (eqb format 2) 18 0)
