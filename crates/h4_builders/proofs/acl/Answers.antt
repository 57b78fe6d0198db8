use mathlib.Core.Path.{◌≡◌}
use native.Mathlib.Omega.{arith}
use borrow.Author.Rules.{rules}
use Rattle.std.proofs.Common.{Err}
use Rattle.h4_builders.proofs.BuildLaws.{acl-refused, acl-built}
use Rattle.h4_builders.proofs.acl.Goals as goal

pub returns-in_err-gate : goal.returns-in_err-gate
returns-in_err-gate c =
    let a = c.args in
    let g = c.in_err-gate in
    let e : c.from_residual.result ≡ Err g.field-0.0 = search rules in
    acl-refused a.out.now a.handle a.flag a.«data».now _ g.ensures.value _ e

pub returns : goal.returns
returns c =
    let a = c.args in
    let g = c.in_ok-gate.ensures in
    let p = c.put-at.ensures in
    let q = c.put_numbers-at.ensures in
    acl-built a.out.now a.handle a.flag a.«data».now g.there g.few
    _ p.out_after _ p.end _ c.acl_word.ensures
    _ q.out_after _ (omega (arith, p.end, q.end)) _ c.put.ensures.out_after
    _ (omega (arith, p.end, q.end, c.put.ensures.end))
