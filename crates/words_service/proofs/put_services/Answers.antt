use mathlib.Core.Path.{◌≡◌}
use native.Mathlib.Omega.{arith}
use lib.ListN.{length}
use Rattle.words_service.proofs.ServiceLaws.{write-none, write-on}
use Rattle.words_service.proofs.put_services.Goals as goal

pub loop-at-init : goal.loop-at-init
loop-at-init c = write-none _ c.args.t.kept

pub loop-at-preserved : goal.loop-at-preserved
loop-at-preserved c =
    let l = c.loop-at in
    let g : length c.args.t.kept ≡ 32 = c.well_formed.1.0.1.1.0.1.0.1 in
    write-on _ _ _ c.args.t.kept l.at g (omega arith) l.invariant c.put_service.ensures

pub returns : goal.returns
returns c =
    let l = c.loop-at in
    let e : l.at ≡ c.args.t.count = omega arith in
    rw (← e) l.invariant
