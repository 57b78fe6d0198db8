use native.Mathlib.Omega.{arith}
use mathlib.Core.Path.{sym, ◌∙◌}
use Rattle.h4_stream.specs.Hand.{bytes_of}
use Rattle.h4_stream.proofs.FeedLaws.{packet-fits, goes_on_lem, ends_more, ends_lost}
use Rattle.h4_stream.proofs.Hand.find_packets.Goals as goal

pub overflow_add-len : goal.overflow_add-len
overflow_add-len c =
    let l = c.loop-n in
    let is = rw c.in-Ok-Some.field-0-is at c.in-Ok-Some.ensures in
    let k = packet-fits (bytes_of c.args.self) l.packets l.len _ is l.invariant.inside in
    omega arith

pub loop-n-smaller : goal.loop-n-smaller
loop-n-smaller c =
    let l = c.loop-n in
    let is = rw c.in-Ok-Some.field-0-is at c.in-Ok-Some.ensures in
    let k = packet-fits (bytes_of c.args.self) l.packets l.len _ is l.invariant.inside in
    omega arith

pub loop-n-preserved : goal.loop-n-preserved
loop-n-preserved c =
    let l = c.loop-n in
    let is = rw c.in-Ok-Some.field-0-is at c.in-Ok-Some.ensures in
    let k = packet-fits (bytes_of c.args.self) l.packets l.len _ is l.invariant.inside in
    record {
      few = omega arith;
      inside = k.1;
      same = sym (goes_on_lem (bytes_of c.args.self) l.packets l.len _ is) ∙ l.invariant.same;
    }

pub returns-in-Ok-None : goal.returns-in-Ok-None
returns-in-Ok-None c =
    let l = c.loop-n in
    let is = rw c.in-Ok-None.field-0-is at c.in-Ok-None.ensures in
    sym (ends_more (bytes_of c.args.self) l.packets l.len is) ∙ l.invariant.same

pub returns-in-Err : goal.returns-in-Err
returns-in-Err c =
    let l = c.loop-n in
    sym (ends_lost (bytes_of c.args.self) l.packets l.len _ c.in-Err.ensures) ∙ l.invariant.same
