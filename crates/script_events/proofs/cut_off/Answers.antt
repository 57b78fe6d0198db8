use Rattle.script_events.proofs.EventLaws.{cut-ends, cut-rests}
use Rattle.script_events.proofs.cut_off.Goals as goal

pub returns-then-goes_on : goal.returns-then-goes_on
returns-then-goes_on c =
    let a = c.args in
    cut-rests a.c a.tables.now a.store.now a.at
    _ c.goes_on.ensures
    c.if-goes_on.true

pub returns : goal.returns
returns c =
    let a = c.args in
    cut-ends a.c a.tables.now a.store.now a.at
    _ c.goes_on.ensures
    _ _ _ _ c.if-goes_on.false
    c.cut_status.ensures
    c.end.ensures
