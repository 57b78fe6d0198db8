use Rattle.state.specs.declared.Address.{Address}
use Rattle.state.specs.Central.{Central}
use Rattle.radio_rules.specs.Hearing.{scan_responded}
use Rattle.c_central.proofs.ExportLaws.{exported-response}
use Rattle.c_central.proofs.barleyrope_on_scan_response_words.Goals as goal

pub returns : goal.returns
returns c =
    let a = c.args in
    let told = exported-response (λ (who : Address) (x : Central). scan_responded x a.store.now (record { 0 = a.at }) who a.«data».now)
    a.core.now a.tables.now a.store.now
    _ c.decode-c.ensures _ _ c.address_of-who.ensures
    _ _ _ c.on_scan_response-answer.ensures.store_after c.on_scan_response-answer.ensures.refused
    _ _ c.give_quietly.ensures in
    record { store_after = told.0; refused = told.1.0; whole = told.1.1 }
