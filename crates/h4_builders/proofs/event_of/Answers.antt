use Prim.Native.Nat.{◌+◌}
use mathlib.Core.Path.{◌≡◌}
use mathlib.Core.List.{◌++◌}
use native.Mathlib.Omega.{arith}
use lib.ListN.{length, length-append}
use borrow.Author.Rules.{rules}
use Rattle.std.proofs.Common.{Err}
use Rattle.h4_builders.proofs.Pieces.{onward}
use Rattle.h4_builders.proofs.BuildLaws.{event-refused, event-built}
use Rattle.h4_builders.proofs.event_of.Goals as goal

pub returns-in_err-begin_event : goal.returns-in_err-begin_event
returns-in_err-begin_event c =
    let a = c.args in
    let b = c.in_err-begin_event in
    let e : c.from_residual.result ≡ Err b.field-0.0 = search rules in
    event-refused a.out.now (a.head.now ++ a.rest.now) a.code (length a.rest.now + length a.head.now) (omega (arith, length-append a.head.now a.rest.now))
    _ b.ensures.value _ b.ensures.out_after _ e

pub returns : goal.returns
returns c =
    let a = c.args in
    let b = c.in_ok-begin_event.ensures in
    let p = c.put-at in
    event-built a.out.now (a.head.now ++ a.rest.now) a.code (length a.rest.now + length a.head.now) (omega (arith, length-append a.head.now a.rest.now))
    b.there b.few _ b.out_after _
    (onward _ 3 a.head.now a.rest.now (omega arith) _ p.ensures.out_after _ p.ensures.end _ c.put.ensures.out_after)
    _ (omega (arith, p.ensures.end, c.put.ensures.end))
