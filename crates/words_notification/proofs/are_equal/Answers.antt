use mathlib.Core.Path.{sym, ◌∙◌}
use Rattle.words_notification.proofs.SearchLaws.{equal-on, equal-off, goes_end}
use Rattle.words_notification.proofs.are_equal.Goals as goal

pub returns-then-store-p : goal.returns-then-store-p
returns-then-store-p c =
    let a = c.args in
    sym (c.loop-j.invariant ∙ equal-off a.store.now a.p a.q a.n c.requires.0 c.requires.1 c.loop-j.j c.loop-j-test.true c.if-store-p.true)

pub loop-j-preserved : goal.loop-j-preserved
loop-j-preserved c =
    let a = c.args in
    c.loop-j.invariant ∙ equal-on a.store.now a.p a.q a.n c.requires.0 c.requires.1 c.loop-j.j c.loop-j-test.true c.if-store-p.false

pub returns : goal.returns
returns c =
    let a = c.args in
    sym (c.loop-j.invariant ∙ goes_end a.store.now a.q a.n c.requires.1 c.loop-j.j _ c.loop-j-test.false)
