use Prim.Native.Nat.{◌+◌, ◌-◌}
use mathlib.Core.Path.{◌≡◌, refl, sym, ◌∙◌}
use native.Mathlib.Omega.{arith}
use lib.ListN.{length}
use Rattle.words_notification.specs.Search.{joined}
use Rattle.words_notification.proofs.SearchLaws.{still, size-length, place_found, place-passed, none_left}
use Rattle.words_notification.proofs.is_found.Goals as goal

pub joined_size-rest-requires : goal.joined_size-rest-requires
joined_size-rest-requires c = (c.requires.0, c.requires.1)

pub loop-rest-init : goal.loop-rest-init
loop-rest-init c =
    let a = c.args in
    let q = c.requires in
    let e = c.joined_size-rest.ensures a.store.now q.2 in
    (refl, e, λ t. still a.wanted a.tables.now a.store.now a.count a.skip q.0 (omega (arith, e, t, q.4)))

pub own_size-size-requires : goal.own_size-size-requires
own_size-size-requires c = let p = c.loop-rest.invariant.2 c.loop-rest-test.true in omega (arith, c.requires.0)

pub overflow_sub-m : goal.overflow_sub-m
overflow_sub-m c = omega (arith, c.requires.4)

pub overflow_sub-rest : goal.overflow_sub-rest
overflow_sub-rest c = omega (arith, c.requires.4)

pub begins_in-requires : goal.begins_in-requires
begins_in-requires c =
    let l = c.loop-rest in
    let a = c.args in
    let q = c.requires in
    let t = c.loop-rest-test.true in
    let p = l.invariant.2 t in
    let z = c.own_size-size.ensures in
    let n = c.min-tries.ensures in
    (q, p, omega (arith, z, n), omega (arith, n, t, l.invariant.1, q.4))

pub returns-then-begins_in : goal.returns-then-begins_in
returns-then-begins_in c =
    let l = c.loop-rest in
    let a = c.args in
    let q = c.requires in
    let t = c.loop-rest-test.true in
    let p = l.invariant.2 t in
    let z = c.own_size-size.ensures in
    sym (l.invariant.0
    ∙ place_found a.wanted a.tables.now a.store.now a.count l.i a.at a.m q p _ _ refl z c.begins_in.result
    c.min-tries.result c.begins_in.ensures c.if-begins_in.true)

pub overflow_sub-rest-in-loop-rest : goal.overflow_sub-rest-in-loop-rest
overflow_sub-rest-in-loop-rest c =
    let l = c.loop-rest in
    let a = c.args in
    let q = c.requires in
    let t = c.loop-rest-test.true in
    let p = l.invariant.2 t in
    let z = c.own_size-size.ensures in
    omega (arith, z, l.invariant.1, size-length a.wanted a.tables.now a.store.now a.count l.i a.at a.m q p)

pub overflow_add-i : goal.overflow_add-i
overflow_add-i c =
    let p = c.loop-rest.invariant.2 c.loop-rest-test.true in
    omega (arith, c.requires.0)

pub loop-rest-smaller : goal.loop-rest-smaller
loop-rest-smaller c =
    let p = c.loop-rest.invariant.2 c.loop-rest-test.true in
    omega (arith, c.requires.0)

pub loop-rest-preserved : goal.loop-rest-preserved
loop-rest-preserved c =
    let l = c.loop-rest in
    let a = c.args in
    let q = c.requires in
    let t = c.loop-rest-test.true in
    let p = l.invariant.2 t in
    let z = c.own_size-size.ensures in
    let e : l.rest - c.own_size-size.result ≡ length (joined a.wanted a.tables.now a.store.now a.count (l.i + 1)) =
    omega (arith, z, l.invariant.1, size-length a.wanted a.tables.now a.store.now a.count l.i a.at a.m q p) in (
      l.invariant.0
          ∙ place-passed a.wanted a.tables.now a.store.now a.count l.i a.at a.m q p _ _ refl z c.begins_in.result
          c.min-tries.result c.begins_in.ensures c.if-begins_in.false l.rest l.invariant.1 t c.min-tries.ensures,
      e,
      λ u. still a.wanted a.tables.now a.store.now a.count (l.i + 1) q.0 (omega (arith, e, u, q.4)),
    )

pub returns : goal.returns
returns c =
    let l = c.loop-rest in
    let a = c.args in
    let q = c.requires in
    sym (l.invariant.0 ∙ none_left a.wanted a.tables.now a.store.now a.count l.i a.at a.m l.rest q.3 l.invariant.1 c.loop-rest-test.false)
