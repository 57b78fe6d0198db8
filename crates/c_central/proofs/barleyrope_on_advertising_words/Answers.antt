use Rattle.state.specs.declared.Address.{Address}
use Rattle.state.specs.Central.{Central}
use Rattle.radio_rules.specs.Hearing.{adv, advertised}
use Rattle.c_central.proofs.ExportLaws.{exported-action}
use Rattle.c_central.proofs.barleyrope_on_advertising_words.Goals as goal

pub returns : goal.returns
returns c =
    let a = c.args in
    let told = exported-action (λ (who : Address) (x : Central). advertised x a.store.now (adv (record { 0 = a.at }) a.channel a.pdu who a.«data».now a.to_central))
    a.core.now a.tables.now a.store.now
    _ c.decode-c.ensures _ _ c.address_of-who.ensures
    _ _ _ c.on_advertising-answer.ensures.store_after c.on_advertising-answer.ensures.refused
    _ _ c.give_action.ensures in
    record { store_after = told.0; refused = told.1.0; whole = told.1.1 }
