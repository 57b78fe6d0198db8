use Rattle.state.specs.Central.{Central}
use Rattle.script_rules.specs.declared.Batch.{Batch}
use Rattle.script_rules.specs.Batch.{push_steps}
use Rattle.c_central.proofs.ExportLaws.{exported-batch}
use Rattle.c_central.proofs.barleyrope_push_steps_words.Goals as goal

pub returns : goal.returns
returns c =
    let a = c.args in
    let told = exported-batch (λ (b : Batch) (x : Central). push_steps x a.store.now a.out.now (record { 0 = a.at }) b a.values.now)
    a.core.now a.tables.now a.store.now a.out.now
    _ c.decode-c.ensures _ _ c.batch_of-batch.ensures
    _ _ _ _ c.push_steps-answer.ensures.out_after c.push_steps-answer.ensures.refused
    _ _ c.give.ensures in
    record { out_after = told.0; refused = told.1.0; whole = told.1.1 }
