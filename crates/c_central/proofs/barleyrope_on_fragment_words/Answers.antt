use Rattle.state.specs.Central.{Central}
use Rattle.link_rules.specs.Link.{on_fragment}
use Rattle.c_central.proofs.ExportLaws.{exported-fragment}
use Rattle.c_central.proofs.barleyrope_on_fragment_words.Goals as goal

pub returns : goal.returns
returns c =
    let a = c.args in
    let told = exported-fragment (λ (x : Central). on_fragment x a.store.now a.out.now (record { 0 = a.at }) a.start a.fragment.now)
    a.core.now a.tables.now a.store.now a.out.now
    _ c.decode-c.ensures
    _ _ _ _ c.on_fragment-answer.ensures.out_after c.on_fragment-answer.ensures.refused
    _ _ c.give_fragment.ensures in
    record { out_after = told.0; refused = told.1.0; whole = told.1.1 }
