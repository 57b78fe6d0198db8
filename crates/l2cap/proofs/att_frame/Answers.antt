use native.Mathlib.Omega.{arith}
use Prim.Native.Nat.{◌+◌}
use lib.ListN.{length}
use Rattle.l2cap.proofs.RoomLaws.{has-att-room}
use Rattle.l2cap.proofs.WriteLaws.{att-head-size, att-law, att-off}
use Rattle.l2cap.proofs.att_frame.Goals as goal

pub overflow_add-pdu : goal.overflow_add-pdu
overflow_add-pdu c =
    let a = c.args in
    let h = has-att-room c.has_att_room.result (length a.out.now) a.at (length a.value.now) a.from a.n c.has_att_room.ensures c.if-has_att_room.true in
    omega arith

pub overflow_cast-len : goal.overflow_cast-len
overflow_cast-len c =
    let a = c.args in
    let h = has-att-room c.has_att_room.result (length a.out.now) a.at (length a.value.now) a.from a.n c.has_att_room.ensures c.if-has_att_room.true in
    omega arith

pub put-requires : goal.put-requires
put-requires c =
    let a = c.args in
    let h = has-att-room c.has_att_room.result (length a.out.now) a.at (length a.value.now) a.from a.n c.has_att_room.ensures c.if-has_att_room.true in
    let k = att-head-size c.att_head-head.result (3 + a.n) a.opcode a.handle c.att_head-head.ensures in
    record { n_in_bounds = omega arith; n_in_bounds_2 = omega arith }

pub returns-then-has_att_room : goal.returns-then-has_att_room
returns-then-has_att_room c =
    let a = c.args in
    att-law a.out.now a.at a.opcode a.handle a.value.now a.from a.n c.att_head-head.result _ _ c.has_att_room.result
    c.has_att_room.ensures
    c.if-has_att_room.true
    c.att_head-head.ensures
    c.put.ensures.out_after
    c.put.ensures.value

pub returns : goal.returns
returns c =
    let a = c.args in
    att-off a.out.now a.at a.opcode a.handle a.value.now a.from a.n c.has_att_room.result c.has_att_room.ensures c.if-has_att_room.false
