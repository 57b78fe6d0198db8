use mathlib.Core.Path.{refl, ap}
use Rattle.state.specs.declared.Sent.{Sent}
use Rattle.state_refusals.specs.Refusals.{number, told_number}
use Rattle.state_refusals.proofs.RefusalLaws.{not-accepted}
use Rattle.state_core.specs.declared.Core.{Core}
use Rattle.state_core.specs.Reading.{central}
use Rattle.central_answers.specs.declared.Answer.{Answer}
use Rattle.central_answers.proofs.AnswerLaws.{refused-told, done-told, not-refused}
use Rattle.link_call.proofs.CallLaws.{may-hear, fragment-done, fragment-refused, left-core, leaves}
use Rattle.link_call.proofs.on_fragment.Goals as goal

pub hear-t-requires : goal.hear-t-requires
hear-t-requires c =
    let a = c.args in
    may-hear (central a.core a.tables.now) a.store.now a.out.now a.at a.start a.fragment.now
    _ c.in_default.ensures refl
    _ (c.begin-begun.ensures a.tables.now a.store.now a.out.now)

pub returns-in-Err : goal.returns-in-Err
returns-in-Err c =
    let a = c.args in
    let why = c.in-Err.why in
    let left = c.refusing-left.ensures a.tables.now in record {
      out_after = fragment-refused (central a.core a.tables.now) a.store.now a.out.now a.at a.start a.fragment.now
          _ c.in-Err.ensures
          _ _ (not-accepted why) left
          (refused-told _ why _ c.refuse.ensures _ _ _);
      refused = leaves a.core _ _ _ _ _ (number why) _
          (left-core a.core c.refusing-left.result a.tables.now (number why) left)
          (ap (λ (x : Answer Core Sent). x.state) c.refuse.ensures)
          (ap (λ (x : Answer Core Sent). told_number x.refusal) c.refuse.ensures);
    }

pub returns : goal.returns
returns c =
    let a = c.args in record {
      out_after = fragment-done (central a.core a.tables.now) a.store.now a.out.now a.at a.start a.fragment.now
          _ c.in_default.ensures refl
          _ (c.begin-begun.ensures a.tables.now a.store.now a.out.now)
          _ _ c.hear-t.ensures
          (done-told _ _ c.done.ensures _ _ _);
      refused = (not-refused _ _ _ c.done.ensures, not-refused _ _ _ c.done.ensures);
    }
