use Prim.Native.Nat.{◌+◌, ◌*◌}
use mathlib.Core.Path.{◌≡◌, ◌∙◌}
use native.Mathlib.Omega.{arith}
use Rattle.uuid_text.proofs.Laws.{start-long, high-room, pair-none, pair_small, pair-more, long-end}
use Rattle.uuid_text.proofs.long.Goals as goal

pub loop-i-init : goal.loop-i-init
loop-i-init c = start-long c.args.hex.now

pub returns-in_err-v : goal.returns-in_err-v
returns-in_err-v c =
    let l = c.loop-i in
    c.from_residual.ensures ∙ pair-none c.args.hex.now l.low l.high (2 * l.i) 0 (omega arith) l.invariant (omega arith) c.in_err-v.ensures

pub overflow_mul-high : goal.overflow_mul-high
overflow_mul-high c =
    let l = c.loop-i in
    omega (arith, high-room c.args.hex.now l.low l.high (2 * l.i) 0 (omega arith) l.invariant (omega arith))

pub overflow_add-high : goal.overflow_add-high
overflow_add-high c =
    let l = c.loop-i in
    omega (arith, high-room c.args.hex.now l.low l.high (2 * l.i) 0 (omega arith) l.invariant (omega arith))

pub overflow_add-low : goal.overflow_add-low
overflow_add-low c =
    let l = c.loop-i in
    omega (arith, pair_small c.args.hex.now l.low l.high (2 * l.i) c.in_ok-v.v (omega arith) l.invariant (omega arith) c.in_ok-v.ensures)

pub loop-i-preserved : goal.loop-i-preserved
loop-i-preserved c =
    let l = c.loop-i in
    let e : 2 * (l.i + 1) ≡ 2 * l.i + 2 = omega arith in
    rw e (pair-more c.args.hex.now l.low l.high (2 * l.i) c.in_ok-v.v (omega arith) l.invariant (omega arith) c.in_ok-v.ensures)

pub returns : goal.returns
returns c =
    let l = c.loop-i in
    long-end c.args.hex.now l.low l.high (2 * l.i) 0 (omega arith) l.invariant (omega arith)
