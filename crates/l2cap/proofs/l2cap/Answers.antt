use native.Mathlib.Omega.{arith}
use lib.ListN.{length}
use Rattle.l2cap.proofs.RoomLaws.{has_room}
use Rattle.l2cap.proofs.WriteLaws.{header-size, l2cap-law, l2cap-off}
use Rattle.l2cap.proofs.l2cap.Goals as goal

pub overflow_cast-len : goal.overflow_cast-len
overflow_cast-len c =
    let a = c.args in
    let h = has_room c.has_room.result (length a.out.now) a.at (length a.payload.now) c.has_room.ensures c.if-has_room.true in
    omega arith

pub put-requires : goal.put-requires
put-requires c =
    let a = c.args in
    let h = has_room c.has_room.result (length a.out.now) a.at (length a.payload.now) c.has_room.ensures c.if-has_room.true in
    let k = header-size c.header-head.result (length a.payload.now) a.channel c.header-head.ensures in
    record { n_in_bounds = omega arith; n_in_bounds_2 = omega arith }

pub returns-then-has_room : goal.returns-then-has_room
returns-then-has_room c =
    let a = c.args in
    l2cap-law a.out.now a.at a.channel a.payload.now c.header-head.result _ _ c.has_room.result
    c.has_room.ensures
    c.if-has_room.true
    c.header-head.ensures
    c.put.ensures.out_after
    c.put.ensures.value

pub returns : goal.returns
returns c =
    let a = c.args in
    l2cap-off a.out.now a.at a.channel a.payload.now c.has_room.result c.has_room.ensures c.if-has_room.false
