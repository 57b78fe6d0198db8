use Prim.Native.Nat.{◌≤◌}
use native.Mathlib.Omega.{arith}
use lib.ListN.{length}
use Rattle.h4_stream.proofs.HandLaws.{length-hand}
use Rattle.h4_stream.proofs.FeedLaws.{found_inside, rest-fits, held_on}
use Rattle.h4_stream.proofs.take_in.Goals as goal

pub put-requires-clause-inside : goal.put-requires-clause-inside
put-requires-clause-inside c = found_inside _ _ c.find_packets-found.ensures

pub keep_rest-requires-clause-len_inside : goal.keep_rest-requires-clause-len_inside
keep_rest-requires-clause-len_inside c =
    let a = c.args in
    let big : a.count ≤ length a.held.now = omega arith in
    omega (arith, length-hand a.held.now a.count a.fed.now big, found_inside _ _ c.find_packets-found.ensures)

pub keep_rest-requires-clause-room : goal.keep_rest-requires-clause-room
keep_rest-requires-clause-room c =
    let a = c.args in
    let big : a.count ≤ length a.held.now = omega arith in
    omega (arith, length-hand a.held.now a.count a.fed.now big, rest-fits _ _ c.find_packets-found.ensures c.in-None.is)

pub overflow_sub-total : goal.overflow_sub-total
overflow_sub-total c = omega (arith, c.len-total.ensures, found_inside _ _ c.find_packets-found.ensures)

pub returns-in-None : goal.returns-in-None
returns-in-None c =
    held_on _ _ c.find_packets-found.ensures _ _ _ c.put.ensures
    c.in-None.is _ c.len-total.ensures _ c.keep_rest.ensures _ c.answer.ensures
