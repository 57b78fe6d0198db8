use mathlib.Core.Path.{refl}
use Rattle.state_refusals.proofs.RefusalLaws.{not-accepted}
use Rattle.central_answers.proofs.AnswerLaws.{refused-told, done-told, refused-leaves, not-refused}
use Rattle.script_batch.proofs.CallLaws.{may-wait, may-advance, batch-done, batch-refused}
use Rattle.script_batch.proofs.push_steps.Goals as goal

pub push_all-queued-requires : goal.push_all-queued-requires
push_all-queued-requires c =
    let a = c.args in
    may-wait
    a.core a.tables.now a.store.now a.out.now a.at a.batch a.values.now
    _ c.in_default.ensures refl

pub advance-t-requires : goal.advance-t-requires
advance-t-requires c =
    let a = c.args in
    may-advance
    a.core a.tables.now a.store.now a.out.now a.at a.batch a.values.now
    _ c.in_default.ensures refl
    _ _ _ c.push_all-queued.ensures
    _ c.begin.ensures

pub returns-in-Err : goal.returns-in-Err
returns-in-Err c =
    let a = c.args in record {
      out_after = batch-refused
          a.core a.tables.now a.store.now a.out.now a.at a.batch a.values.now
          _ c.in-Err.ensures
          _ (not-accepted c.in-Err.why)
          (refused-told a.core c.in-Err.why _ c.refuse.ensures);
      refused = (refused-leaves _ a.core c.in-Err.why _ c.refuse.ensures _ _, λ h. refl);
    }

pub returns : goal.returns
returns c =
    let a = c.args in record {
      out_after = batch-done
          a.core a.tables.now a.store.now a.out.now a.at a.batch a.values.now
          _ c.in_default.ensures refl
          _ _ _ c.push_all-queued.ensures
          _ c.begin.ensures
          _ _ _ _ _ c.advance-t.ensures
          (done-told _ _ c.done.ensures);
      refused = (not-refused _ _ _ c.done.ensures, not-refused _ _ _ c.done.ensures);
    }
