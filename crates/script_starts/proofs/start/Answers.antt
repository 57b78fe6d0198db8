use Rattle.script_starts.proofs.StartLaws.{carried-fits, start-barred, start-with, start-without}
use Rattle.script_starts.proofs.start.Goals as goal

pub returns-then-is_barred : goal.returns-then-is_barred
returns-then-is_barred c =
    let a = c.args in
    start-barred a.t a.tables.now a.store.now a.out.now a.at
    c.if-bearer.true
    _ c.is_barred.ensures
    _ _ _ c.if-is_barred.true c.end_turn.ensures

pub start_linked-requires : goal.start_linked-requires
start_linked-requires c =
    let given = c.requires in
    (given.0, given.1, carried-fits _ given.1 given.2)

pub returns-then-bearer : goal.returns-then-bearer
returns-then-bearer c =
    let a = c.args in
    start-with a.t a.tables.now a.store.now a.out.now a.at
    c.if-bearer.true
    _ c.is_barred.ensures
    _ _ _ _ c.if-is_barred.false c.start_linked.ensures

pub returns : goal.returns
returns c =
    start-without c.args.t _ _ _ _ _ _ _
    c.if-bearer.false c.start_unlinked-next.ensures
