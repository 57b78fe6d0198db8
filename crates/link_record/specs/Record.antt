-- What becomes of the link record: handle, MTU, pending opcode (0: none) and terminating flag.
use Rattle.std.specs.Prelude.{ℕ, true, false}
use Rattle.att_pdu.specs.Numbers.{default_mtu}
use Rattle.state.specs.declared.Bearer.{Bearer}
use Rattle.state.specs.declared.Link.{Link}

-- a new link: the default MTU (Core Vol 3 Part F 3.2.8), nothing awaited, not asked to end; nothing stays of what was
abbrev pub new_link : ℕ → Link
new_link handle = record { handle = handle; mtu = default_mtu; pending = 0; terminating = false }

-- an MTU is agreed
abbrev pub agreed : Link → ℕ → Link
agreed l mtu = record { handle = l.handle; mtu = mtu; pending = l.pending; terminating = l.terminating }

-- the response to a request is awaited
abbrev pub awaiting : Link → ℕ → Link
awaiting l opcode = record { handle = l.handle; mtu = l.mtu; pending = opcode; terminating = l.terminating }

-- no response is awaited
abbrev pub answered : Link → Link
answered l = record { handle = l.handle; mtu = l.mtu; pending = 0; terminating = l.terminating }

-- it is asked to end
abbrev pub terminated : Link → Link
terminated l = record { handle = l.handle; mtu = l.mtu; pending = l.pending; terminating = true }

-- the record in its bearer
abbrev pub with_link : Bearer → Link → Bearer
with_link b l = record { held = b.held; link = l; present = b.present; closed = b.closed }
