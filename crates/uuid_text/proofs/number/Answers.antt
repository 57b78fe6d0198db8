use Prim.Native.Nat.{◌≤◌}
use mathlib.Core.Path.{◌∙◌}
use native.Mathlib.Omega.{arith}
use lib.ListN.{length}
use Rattle.uuid_text.proofs.Laws.{unsigned-length, small-reading, digit-told, digit-more, digit-none, digits-end}
use Rattle.uuid_text.proofs.number.Goals as goal

pub returns-in_err-d : goal.returns-in_err-d
returns-in_err-d c =
    let l = c.loop-b in
    c.from_residual.ensures ∙ digit-none c.unsigned-digits.result.now l.b-index l.v l.invariant c.loop-b-test.true c.args.text.now c.unsigned-digits.ensures c.in_err-d.ensures

pub overflow_mul-v : goal.overflow_mul-v
overflow_mul-v c =
    let l = c.loop-b in
    let n : length c.unsigned-digits.result.now ≤ 4 = rw c.unsigned-digits.ensures (omega (arith, unsigned-length c.args.text.now)) in
    omega (arith, small-reading _ l.b-index l.v l.invariant (omega arith))

pub overflow_add-v : goal.overflow_add-v
overflow_add-v c =
    let l = c.loop-b in
    let d = digit-told _ c.in_ok-d.d c.in_ok-d.ensures in
    let n : length c.unsigned-digits.result.now ≤ 4 = rw c.unsigned-digits.ensures (omega (arith, unsigned-length c.args.text.now)) in
    omega (arith, d.1, small-reading _ l.b-index l.v l.invariant (omega arith))

pub loop-b-preserved : goal.loop-b-preserved
loop-b-preserved c =
    let l = c.loop-b in
    digit-more c.unsigned-digits.result.now l.b-index l.v l.invariant c.loop-b-test.true c.in_ok-d.d c.in_ok-d.ensures

pub returns : goal.returns
returns c =
    let l = c.loop-b in
    digits-end c.unsigned-digits.result.now l.b-index l.v l.invariant (omega arith) c.args.text.now c.unsigned-digits.ensures (omega arith)
