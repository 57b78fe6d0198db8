use Rattle.std.proofs.Common.{◌-◌, refl, arith}
use Rattle.words.specs.Tables.{notifications_in}
use Rattle.words.proofs.RowLaws.{length-notifications}
use Rattle.state_readers.proofs.PassedLaws.{named-before, named-behind, named_here}
use Rattle.state_readers.proofs.named.Goals as goal

pub returns-then-heard-first : goal.returns-then-heard-first
returns-then-heard-first c =
    let a = c.args in
    named-before a.first a.heard a.count (notifications_in a.tables.now) (omega (arith, length-notifications a.tables.now)) c.if-heard-first.true

pub returns-then-count-i : goal.returns-then-count-i
returns-then-count-i c =
    let a = c.args in
    named-behind a.first a.heard a.count (notifications_in a.tables.now) (omega (arith, length-notifications a.tables.now))
    (a.heard - 1 - a.first) (omega arith) refl c.if-count-i.true

pub returns : goal.returns
returns c =
    let a = c.args in
    named_here a.first a.heard a.count (notifications_in a.tables.now) (omega (arith, length-notifications a.tables.now))
    (a.heard - 1 - a.first) _ _ _ (omega arith) refl (omega arith)
    c.notification_at-x.ensures c.notification_at.ensures c.from.ensures
