use Prim.Native.Nat.{◌-◌}
use mathlib.Core.Path.{refl, sym, ◌∙◌}
use Rattle.words_notification.proofs.SearchLaws.{is-hit, is-pass, is-end}
use Rattle.words_notification.proofs.is_any.Goals as goal

pub loop-i-init : goal.loop-i-init
loop-i-init c = λ s. refl

pub returns-then-does_count : goal.returns-then-does_count
returns-then-does_count c =
    let l = c.loop-i in
    let a = c.args in
    let t = c.loop-i-test.true in
    let x = c.notification_at-x.ensures in
    λ s. sym (l.invariant s ∙ is-hit a.tables.now a.count l.i a.wanted c.requires _ _ t x c.does_count.ensures s c.if-does_count.true)

pub loop-i-preserved : goal.loop-i-preserved
loop-i-preserved c =
    let l = c.loop-i in
    let a = c.args in
    let t = c.loop-i-test.true in
    let x = c.notification_at-x.ensures in
    λ s. l.invariant s ∙ is-pass a.tables.now a.count l.i a.wanted c.requires _ _ t x c.does_count.ensures s c.if-does_count.false

pub returns : goal.returns
returns c =
    let l = c.loop-i in
    let a = c.args in
    λ s. sym (l.invariant s ∙ is-end a.tables.now a.count l.i a.wanted c.requires s c.loop-i-test.false)
