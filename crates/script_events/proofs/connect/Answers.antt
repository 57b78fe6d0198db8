use Rattle.script_events.proofs.EventLaws.{connect-may, connect-done}
use Rattle.script_events.proofs.connect.Goals as goal

pub advance-requires : goal.advance-requires
advance-requires c =
    let a = c.args in
    let p = c.requires in (
      connect-may a.t a.tables.now a.store.now a.out.now a.handle a.at
          _ c.opened-bearer.ensures
          _ c.count_link-core.ensures
          _ _ _ c.greet-next.ensures
          p.0 p.2,
      p.1,
    )

pub returns : goal.returns
returns c =
    let a = c.args in
    connect-done a.t a.tables.now a.store.now a.out.now a.handle a.at
    _ c.opened-bearer.ensures
    _ c.count_link-core.ensures
    _ _ _ c.greet-next.ensures
    _ _ _ _ c.advance.ensures
