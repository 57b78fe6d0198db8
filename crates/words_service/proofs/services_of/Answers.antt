use mathlib.Core.Path.{◌≡◌, refl, ◌∙◌}
use native.Mathlib.Omega.{arith}
use lib.ListN.{length-set}
use Rattle.words_service.proofs.ServiceLaws.{copy-on}
use Rattle.words_service.proofs.services_of.Goals as goal

pub loop-i-init : goal.loop-i-init
loop-i-init c = (refl, refl)

pub loop-i-preserved : goal.loop-i-preserved
loop-i-preserved c =
    let l = c.loop-i in
    (length-set l.kept l.i _ ∙ l.invariant.0, copy-on _ l.kept l.i _ l.invariant.0 (omega arith) c.service_at-s.ensures l.invariant.1)

pub returns : goal.returns
returns c =
    let l = c.loop-i in
    let e : l.i ≡ c.args.count = omega arith in
    (refl, rw (← e) l.invariant.1)
