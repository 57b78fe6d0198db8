use mathlib.Core.Path.{refl, sym, ◌∙◌}
use native.Mathlib.Omega.{arith}
use lib.ListN.{drop}
use Rattle.utf8.proofs.Sequences.{utf8-end, utf8-step, utf8-bad, within-rest, length-told, none-told}
use Rattle.utf8.proofs.is_utf8.Goals as goal

pub loop-at-init : goal.loop-at-init
loop-at-init c = (omega arith, refl)

pub returns-in-None : goal.returns-in-None
returns-in-None c =
    let s = c.args.s.now in
    let l = c.loop-at in
    sym (utf8-bad s l.at 0 (none-told (drop l.at s) c.in-None.ensures) (omega arith) refl) ∙ l.invariant.1

pub overflow_add-at : goal.overflow_add-at
overflow_add-at c =
    let s = c.args.s.now in
    let l = c.loop-at in
    let t = length-told (drop l.at s) c.in-Some.n c.in-Some.ensures in
    omega (arith, within-rest s l.at c.in-Some.n t.0 (omega arith))

pub loop-at-smaller : goal.loop-at-smaller
loop-at-smaller c =
    let s = c.args.s.now in
    let l = c.loop-at in
    let t = length-told (drop l.at s) c.in-Some.n c.in-Some.ensures in
    omega (arith, within-rest s l.at c.in-Some.n t.0 (omega arith), t.1)

pub loop-at-preserved : goal.loop-at-preserved
loop-at-preserved c =
    let s = c.args.s.now in
    let l = c.loop-at in
    let t = length-told (drop l.at s) c.in-Some.n c.in-Some.ensures in
    (omega (arith, within-rest s l.at c.in-Some.n t.0 (omega arith)), sym (utf8-step s l.at c.in-Some.n t.0 (omega arith) t.1) ∙ l.invariant.1)

pub returns : goal.returns
returns c =
    let s = c.args.s.now in
    let l = c.loop-at in
    sym (utf8-end s l.at (omega arith)) ∙ l.invariant.1
