use Prim.Native.Nat.{◌+◌, ◌*◌, ◌/◌}
use mathlib.Core.Path.{◌≡◌, ap, ◌∙◌}
use native.Mathlib.Omega.{arith}
use lib.ListN.{length, take}
use lib.Seq.{length-take-le}
use mathlib.Core.List.{[], ◌∷◌}
use borrow.Author.Rules.{rules}
use Rattle.std.proofs.Common.{Err}
use Rattle.h4_builders.specs.Events.{number_bytes, code_completed_packets, completed_packets}
use Rattle.h4_builders.specs.Build.{written_at}
use Rattle.h4_builders.proofs.Pieces.{onward}
use Rattle.h4_builders.proofs.BuildLaws.{event-refused, event-built, event-short, size-completed, completed_is}
use Rattle.h4_builders.proofs.number_of_completed_packets.Goals as goal

pub returns-then-out-count : goal.returns-then-out-count
returns-then-out-count c =
    let a = c.args in
    event-short a.out.now (completed_packets a.pairs.now) code_completed_packets (4 * (length a.pairs.now / 2) + 1) (size-completed a.pairs.now) (omega arith)

pub returns-in_err-begin_event : goal.returns-in_err-begin_event
returns-in_err-begin_event c =
    let a = c.args in
    let b = c.in_err-begin_event in
    let e : c.from_residual.result ≡ Err b.field-0.0 = search rules in
    event-refused a.out.now (completed_packets a.pairs.now) code_completed_packets (4 * (length a.pairs.now / 2) + 1) (size-completed a.pairs.now)
    _ b.ensures.value _ b.ensures.out_after _ e

pub returns : goal.returns
returns c =
    let a = c.args in
    let b = c.in_ok-begin_event.ensures in
    let p = c.put-at.ensures in
    event-built a.out.now (completed_packets a.pairs.now) code_completed_packets (4 * (length a.pairs.now / 2) + 1) (size-completed a.pairs.now)
    b.there b.few _ b.out_after _
    (onward _ 3 (length a.pairs.now / 2 ∷ []) (number_bytes (take (2 * (length a.pairs.now / 2)) a.pairs.now)) (omega arith) _ p.out_after _ p.end _ c.put_numbers.ensures.out_after ∙ ap (written_at _ 3) (completed_is a.pairs.now (omega (arith, b.few))))
    _ (omega (arith, p.end, c.put_numbers.ensures.end, length-take-le (2 * (length a.pairs.now / 2)) a.pairs.now (omega arith)))
