use Prim.Native.Nat.{◌-◌}
use mathlib.Core.Path.{sym, ◌∙◌}
use mathlib.Core.Bool.{true, false}
use Rattle.words_notification.proofs.SearchLaws.{is-newest, newest-all}
use Rattle.words_notification.proofs.newest_counted.Goals as goal
use Rattle.words_notification.proofs.newest_counted.Goals.{then-does_count, else-does_count}

pub loop-i-preserved : goal.loop-i-preserved
loop-i-preserved c =
    let l = c.loop-i in
    let a = c.args in
    let t = c.loop-i-test.true in
    let x = c.notification_at-x.ensures in
    let next =
    is-newest a.tables.now a.count l.i a.wanted c.requires.0 _ _ t x c.does_count.ensures
    a.first l.newest c.if-does_count.newest in
    l.invariant ∙ elim c.if-does_count.branch [ then-does_count w ↦ next true w.if-does_count.true w.newest-is | else-does_count w ↦ next false w.if-does_count.false w.newest-is ]

pub returns : goal.returns
returns c =
    let l = c.loop-i in
    let a = c.args in
    sym (l.invariant ∙ newest-all a.tables.now a.count l.i a.wanted c.requires.0 a.first l.newest c.loop-i-test.false)
