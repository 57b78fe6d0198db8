use Rattle.state.specs.Central.{Central}
use Rattle.script_rules.specs.Events.{on_connected}
use Rattle.c_central.proofs.ExportLaws.{exported}
use Rattle.c_central.proofs.barleyrope_on_connected_words.Goals as goal

pub returns : goal.returns
returns c =
    let a = c.args in
    let told = exported (λ (x : Central). on_connected x a.store.now a.out.now a.handle (record { 0 = a.at }))
    a.core.now a.tables.now a.store.now a.out.now
    _ c.decode-c.ensures
    _ _ _ _ c.on_connected-answer.ensures.out_after c.on_connected-answer.ensures.refused
    _ _ c.give.ensures in
    record { out_after = told.0; refused = told.1.0; whole = told.1.1 }
