use Prim.Native.Nat.{ℕ, ◌+◌, ◌-◌}
use mathlib.Core.Path.{◌≡◌, refl, ap, ◌∙◌}
use native.Mathlib.Omega.{arith}
use lib.ListN.{length-drop}
use Rattle.words_notification.specs.Search.{joined, stands}
use Rattle.words_notification.proofs.SearchLaws.{size_small, byte-found, byte-passed, byte-differs}
use Rattle.words_notification.proofs.begins_in.Goals as goal
use Rattle.words_notification.proofs.begins_in.Goals.{then-store-place+else-goes_on, else-store-place}

pub notification_at-place-requires : goal.notification_at-place-requires
notification_at-place-requires c = omega (arith, c.requires.0.0, c.requires.1)

pub bounds-store-at : goal.bounds-store-at
bounds-store-at c = omega (arith, c.requires.0.3, c.requires.0.4)

pub loop-k-init : goal.loop-k-init
loop-k-init c = refl

pub overflow_add-place : goal.overflow_add-place
overflow_add-place c =
    let l = c.loop-k in
    let a = c.args in
    let q = c.requires in
    omega (
      arith,
      c.notification_at-place.ensures,
      q.0.0,
      q.1,
      q.2,
      size_small a.wanted a.tables.now a.store.now a.count a.i
          a.at a.m q.0 q.1,
    )

pub bounds-store-place : goal.bounds-store-place
bounds-store-place c =
    let l = c.loop-k in
    let a = c.args in
    let q = c.requires in
    omega (
      arith,
      c.notification_at-place.ensures,
      q.0.0,
      q.0.2,
      q.1,
      q.2,
      size_small a.wanted a.tables.now a.store.now
          a.count a.i a.at a.m q.0 q.1,
    )

pub overflow_add-k : goal.overflow_add-k
overflow_add-k c =
    let l = c.loop-k in
    let a = c.args in
    let q = c.requires in
    omega (arith, q.2, size_small a.wanted a.tables.now a.store.now a.count a.i a.at a.m q.0 q.1)

pub goes_on-requires : goal.goes_on-requires
goes_on-requires c =
    let l = c.loop-k in
    let a = c.args in
    let q = c.requires in
    (q.0, omega (arith, q.2), omega (arith, q.0.4, q.3, length-drop (l.k + 1) (joined a.wanted a.tables.now a.store.now a.count a.i)))

pub returns-then-goes_on : goal.returns-then-goes_on
returns-then-goes_on c =
    let l = c.loop-k in
    let a = c.args in
    let q = c.requires in
    let place = c.notification_at-place.ensures in
    l.invariant
    ∙ byte-found a.wanted a.tables.now a.store.now a.count a.i a.at a.m q.0 q.1 _ _ place refl l.k (omega (arith, q.2))
    c.if-store-place.true _ c.goes_on.ensures c.if-goes_on.true

pub loop-k-preserved : goal.loop-k-preserved
loop-k-preserved c =
    let l = c.loop-k in
    let a = c.args in
    let q = c.requires in
    let place = c.notification_at-place.ensures in
    l.invariant
    ∙ elim c.if-store-place.branch [
      | then-store-place+else-goes_on w ↦ byte-passed a.wanted a.tables.now a.store.now a.count a.i a.at a.m q.0 q.1 _ _ place refl l.k (omega (arith, q.2)) w.if-store-place.true _ w.goes_on.ensures w.if-goes_on.false
      | else-store-place w ↦ byte-differs a.wanted a.tables.now a.store.now a.count a.i a.at a.m q.0 q.1 _ _ place refl l.k (omega (arith, q.2)) w.if-store-place.false
    ]

pub returns : goal.returns
returns c =
    let l = c.loop-k in
    let a = c.args in
    let e : l.k ≡ a.tries = omega (arith, c.loop-k-test.false) in
    l.invariant ∙ ap (λ (k : ℕ). stands a.wanted a.tables.now a.store.now a.count a.i k a.at a.m) e
