use Rattle.state.specs.Central.{Central}
use Rattle.script_rules.specs.Events.{on_disconnected}
use Rattle.c_central.proofs.ExportLaws.{exported-quietly}
use Rattle.c_central.proofs.barleyrope_on_disconnected_words.Goals as goal

pub returns : goal.returns
returns c =
    let a = c.args in
    let told = exported-quietly (λ (x : Central). on_disconnected x a.store.now (record { 0 = a.at }))
    a.core.now a.tables.now a.store.now
    _ c.decode-c.ensures
    _ _ _ c.on_disconnected-answer.ensures.store_after c.on_disconnected-answer.ensures.refused
    _ _ c.give_quietly.ensures in
    record { store_after = told.0; refused = told.1.0; whole = told.1.1 }
