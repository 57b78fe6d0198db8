use Rattle.std.proofs.Common.{◌≡◌, ◌+◌, ◌-◌, refl, ◌∙◌, length, arith}
use Rattle.gatt_descriptors.proofs.GiveLaws.{below-start, below-pass, give-at, give-nowhere}
use Rattle.gatt_descriptors.proofs.give_to.Goals as goal

pub loop-i-init : goal.loop-i-init
loop-i-init c =
    let g : length c.args.t.kept ≡ 64 = c.well_formed.0.1.1.0.1.0.1 in
    (below-start c.args.h c.args.t.kept c.args.t.count (omega arith), refl)

pub returns-then-c-h : goal.returns-then-c-h
returns-then-c-h c =
    let l = c.loop-i in
    let s = c.args in
    let g : length c.args.t.kept ≡ 64 = c.well_formed.0.1.1.0.1.0.1 in
    let e : l.i ≡ l.i - 1 + 1 = omega arith in
    give-at s.h s.t l.t (l.i - 1) _ l.invariant.1 (omega arith) (omega arith) g (rw (← e) l.invariant.0) c.if-c-h.true c.mark.ensures

pub loop-i-preserved : goal.loop-i-preserved
loop-i-preserved c =
    let l = c.loop-i in
    let g : length c.args.t.kept ≡ 64 = c.well_formed.0.1.1.0.1.0.1 in
    let e : l.i ≡ l.i - 1 + 1 = omega arith in
    let same = l.invariant.1 in
    (rw same (below-pass c.args.h c.args.t.kept c.args.t.count (omega arith) (l.i - 1) (omega arith) (rw (← e, ← same) l.invariant.0) (rw same at c.if-c-h.false)), same)

pub returns : goal.returns
returns c =
    let l = c.loop-i in
    let g : length c.args.t.kept ≡ 64 = c.well_formed.0.1.1.0.1.0.1 in
    let e : l.i ≡ 0 = omega arith in
    l.invariant.1 ∙ give-nowhere c.args.h c.args.t (omega arith) g (rw (e, l.invariant.1) at l.invariant.0)
