use Rattle.script_events.proofs.EventLaws.{lose-may, lose-done}
use Rattle.script_events.proofs.lose.Goals as goal

pub advance_unlinked-requires : goal.advance_unlinked-requires
advance_unlinked-requires c =
    let a = c.args in
    let p = c.requires in (
      lose-may a.c a.tables.now a.store.now a.at
          _ _ _ c.cut_off-cut.ensures
          p.0,
      p.1,
    )

pub returns : goal.returns
returns c =
    let a = c.args in
    lose-done a.c a.tables.now a.store.now a.at
    _ _ _ c.cut_off-cut.ensures
    _ _ _ c.advance_unlinked.ensures
