use Rattle.script_events.proofs.EventLaws.{greet-ends, greet-rests}
use Rattle.script_events.proofs.greet.Goals as goal

pub returns-then-is_kind : goal.returns-then-is_kind
returns-then-is_kind c =
    let a = c.args in
    greet-ends a.c a.tables.now a.store.now a.at
    _ c.is_kind.ensures
    _ _ _ c.if-is_kind.true
    c.end.ensures

pub returns : goal.returns
returns c =
    let a = c.args in
    greet-rests a.c a.tables.now a.store.now a.at
    _ c.is_kind.ensures
    c.if-is_kind.false
