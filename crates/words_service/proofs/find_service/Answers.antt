use mathlib.Core.Path.{refl, ◌∙◌}
use native.Mathlib.Omega.{arith}
use Rattle.uuid_value.specs.ValueLaws.{equal-numbers}
use Rattle.words_service.proofs.ServiceLaws.{find-hit, find-pass, find-end}
use Rattle.words_service.proofs.find_service.Goals as goal

pub loop-i-init : goal.loop-i-init
loop-i-init c = refl

pub returns-then-eq : goal.returns-then-eq
returns-then-eq c =
    let l = c.loop-i in
    find-hit _ _ _ _ c.requires l.invariant (omega arith) _ (c.eq.ensures ∙ equal-numbers _ _ (omega arith) (omega arith)) c.if-eq.true _ c.service_at.ensures

pub loop-i-preserved : goal.loop-i-preserved
loop-i-preserved c =
    let l = c.loop-i in
    find-pass _ _ _ _ c.requires l.invariant (omega arith) _ (c.eq.ensures ∙ equal-numbers _ _ (omega arith) (omega arith)) c.if-eq.false

pub returns : goal.returns
returns c =
    let l = c.loop-i in
    find-end _ c.args.count l.i _ c.requires l.invariant (omega arith)
