use Prim.Native.Nat.{◌+◌, ◌-◌}
use mathlib.Core.Path.{refl, sym, ◌∙◌}
use native.Mathlib.Omega.{arith}
use borrow.Author.Tests.{not-true, not-false}
use Rattle.words_notification.proofs.SearchLaws.{still-on, size_small, value-differs, value_same, value-far, goes_end}
use Rattle.words_notification.proofs.goes_on.Goals as goal

pub loop-j-init : goal.loop-j-init
loop-j-init c =
    let a = c.args in
    let q = c.requires in
    (omega (arith, q.0.4), refl, q.1, q.2, still-on a.wanted a.tables.now a.store.now a.count a.first q.0.0 a.from 1 a.m q.2)

pub own_size-size-requires : goal.own_size-size-requires
own_size-size-requires c = let p = c.loop-j.invariant.4 c.loop-j-test.true in omega arith

pub overflow_sub-size : goal.overflow_sub-size
overflow_sub-size c = omega (arith, c.own_size-size.ensures, c.loop-j.invariant.2)

pub notification_at-requires : goal.notification_at-requires
notification_at-requires c = let p = c.loop-j.invariant.4 c.loop-j-test.true in omega arith

pub overflow_add-place : goal.overflow_add-place
overflow_add-place c =
    let l = c.loop-j in
    let a = c.args in
    let q = c.requires.0 in
    let t = c.loop-j-test.true in
    let p = l.invariant.4 t in
    omega (arith, c.notification_at.ensures, l.invariant.2, size_small a.wanted a.tables.now a.store.now a.count l.i a.at a.m q p)

pub overflow_add-at : goal.overflow_add-at
overflow_add-at c = omega (arith, c.requires.0.3)

pub are_equal-requires : goal.are_equal-requires
are_equal-requires c =
    let l = c.loop-j in
    let a = c.args in
    let q = c.requires.0 in
    let t = c.loop-j-test.true in
    let p = l.invariant.4 t in
    let place = c.notification_at.ensures in
    let z = c.own_size-size.ensures in
    let n = c.min-n.ensures in
    (omega (arith, place, q.2, n, z, l.invariant.2, size_small a.wanted a.tables.now a.store.now a.count l.i a.at a.m q p), omega (arith, n, q.3))

pub returns-then-not-are_equal : goal.returns-then-not-are_equal
returns-then-not-are_equal c =
    let l = c.loop-j in
    let a = c.args in
    let q = c.requires.0 in
    let t = c.loop-j-test.true in
    let p = l.invariant.4 t in
    let place = c.notification_at.ensures in
    let z = c.own_size-size.ensures in
    let n = c.min-n.ensures in
    sym (l.invariant.1
    ∙ value-differs a.wanted a.tables.now a.store.now a.count l.i a.at a.m q p _ _ place z l.j l.o _ _ t l.invariant.2 n
    c.are_equal.ensures c.if-not-are_equal.true)

pub overflow_add-i : goal.overflow_add-i
overflow_add-i c =
    let p = c.loop-j.invariant.4 c.loop-j-test.true in
    omega arith

pub loop-j-smaller : goal.loop-j-smaller
loop-j-smaller c =
    let p = c.loop-j.invariant.4 c.loop-j-test.true in
    omega arith

pub loop-j-preserved : goal.loop-j-preserved
loop-j-preserved c =
    let l = c.loop-j in
    let a = c.args in
    let q = c.requires.0 in
    let t = c.loop-j-test.true in
    let p = l.invariant.4 t in
    let place = c.notification_at.ensures in
    let z = c.own_size-size.ensures in
    let n = c.min-n.ensures in
    let far =
    value-far a.wanted a.tables.now a.store.now a.count l.i a.at a.m q p _ _ place z l.j l.o _ _ t l.invariant.2 n
    c.are_equal.ensures l.invariant.3 in (
      omega (arith, n),
      l.invariant.1
          ∙ value_same a.wanted a.tables.now a.store.now a.count l.i a.at a.m q p _ _ place z l.j l.o _ _ t l.invariant.2 n
          c.are_equal.ensures c.if-not-are_equal.false,
      omega arith,
      far,
      still-on a.wanted a.tables.now a.store.now a.count (l.i + 1) q.0 0 (l.j + c.min-n.result) a.m far,
    )

pub returns : goal.returns
returns c =
    let l = c.loop-j in
    let a = c.args in
    sym (l.invariant.1 ∙ goes_end a.store.now a.at a.m c.requires.0.3 l.j _ c.loop-j-test.false)
