use Prim.Native.Nat.{◌-◌}
use mathlib.Core.Path.{ap}
use mathlib.Core.List.{[]}
use native.Mathlib.Omega.{arith}
use lib.ListN.{length}
use Rattle.words_notification.proofs.SearchLaws.{own-small, joined_length, joined_end}
use Rattle.words_notification.proofs.joined_size.Goals as goal

pub loop-i-init : goal.loop-i-init
loop-i-init c = ((λ s h. omega arith), omega arith)

pub overflow_add-n : goal.overflow_add-n
overflow_add-n c =
    let l = c.loop-i in
    let a = c.args in
    let q = c.requires in
    let t = c.loop-i-test.true in
    let z = c.own_size-size.ensures in
    omega (arith, z, own-small a.wanted a.tables.now [] a.count l.i q.0 t q.1)

pub loop-i-preserved : goal.loop-i-preserved
loop-i-preserved c =
    let l = c.loop-i in
    let a = c.args in
    let q = c.requires in
    let t = c.loop-i-test.true in
    let z = c.own_size-size.ensures in (
      λ s h. omega (arith, z, l.invariant.0 s h, joined_length a.wanted a.tables.now s a.count l.i q.0 t q.1 h),
      omega (arith, z, l.invariant.1, own-small a.wanted a.tables.now [] a.count l.i q.0 t q.1),
    )

pub returns : goal.returns
returns c =
    let l = c.loop-i in
    let a = c.args in
    λ s h. omega (arith, l.invariant.0 s h, ap length (joined_end a.wanted a.tables.now s a.count l.i c.requires.0 c.loop-i-test.false))
