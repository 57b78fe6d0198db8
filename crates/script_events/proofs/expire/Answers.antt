use Rattle.script_events.proofs.EventLaws.{late-few, expire-may, expire-done, expire-rests}
use Rattle.script_events.proofs.expire.Goals as goal

pub end_turn-u-requires : goal.end_turn-u-requires
end_turn-u-requires c =
    let a = c.args in
    let ready = c.requires.0.ready in
    (ready.store, late-few a.t _ a.tables.now a.store.now c.give_up-late.ensures ready.results)

pub advance-requires : goal.advance-requires
advance-requires c =
    let a = c.args in
    let p = c.requires in (
      expire-may a.t a.tables.now a.store.now a.out.now a.at
          _ c.is_due.ensures
          c.if-is_due.true
          _ c.timed_out.ensures
          _ c.give_up-late.ensures
          _ _ _ c.end_turn-u.ensures
          p.0,
      p.1,
    )

pub returns-then-is_due : goal.returns-then-is_due
returns-then-is_due c =
    let a = c.args in
    expire-done a.t a.tables.now a.store.now a.out.now a.at
    _ c.is_due.ensures
    c.if-is_due.true
    _ c.timed_out.ensures
    _ c.give_up-late.ensures
    _ _ _ c.end_turn-u.ensures
    _ _ _ _ c.advance.ensures

pub returns : goal.returns
returns c =
    let a = c.args in
    expire-rests a.t a.tables.now a.store.now a.out.now a.at
    _ c.is_due.ensures
    c.if-is_due.false
