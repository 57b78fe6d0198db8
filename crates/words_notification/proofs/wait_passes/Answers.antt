use mathlib.Core.Path.{refl}
use Rattle.notifications.proofs.WaitLaws.{passes-empty, passes-some}
use Rattle.words_notification.specs.Search.{joined}
use Rattle.words_notification.proofs.wait_passes.Goals as goal

pub returns-then-len-eq0 : goal.returns-then-len-eq0
returns-then-len-eq0 c =
    let a = c.args in
    passes-empty a.wanted _ a.store.now a.at a.len _ c.if-len-eq0.true (c.is_any.ensures a.store.now)

pub returns : goal.returns
returns c =
    let a = c.args in
    passes-some a.wanted _ a.store.now a.at a.len (joined a.wanted a.tables.now a.store.now a.count a.skip) _
    c.requires.3 c.if-len-eq0.false refl c.is_found.ensures
