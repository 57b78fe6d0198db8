use mathlib.Core.Path.{refl, sym}
use Rattle.state_refusals.proofs.RefusalLaws.{not-accepted}
use Rattle.central_answers.proofs.AnswerLaws.{refused-told, done-told, refused-leaves, not-refused}
use Rattle.script_events.proofs.GateLaws.{call-begins, call-done, call-refused}
use Rattle.script_rules.proofs.CallBeginLaws.{may-begin}
use Rattle.state_core.specs.Reading.{central}
use Rattle.script_rules.specs.Comings.{expire}
use Rattle.script_rules.specs.Events.{on_timer}
use Rattle.script_rules.specs.World.{World}
use Rattle.script_events.proofs.on_timer.Goals as goal

pub expire-ended-requires : goal.expire-ended-requires
expire-ended-requires c =
    let a = c.args in
    let m = may-begin (central a.core a.tables.now) a.store.now a.out.now a.at (sym c.in_default.ensures) in (
      call-begins (λ (w : World). expire w a.at)
          a.core a.tables.now a.store.now a.out.now
          _ _ c.in_default.ensures refl
          _ c.begin-begun.ensures
          m.0,
      m.1,
    )

pub returns-in-Err : goal.returns-in-Err
unfolding on_timer
returns-in-Err c =
    let a = c.args in record {
      out_after = call-refused (λ (w : World). expire w a.at)
          a.core a.tables.now a.store.now a.out.now
          _ _ c.in-Err.ensures
          _ (not-accepted c.in-Err.why)
          (refused-told a.core c.in-Err.why _ c.refuse.ensures);
      refused = (refused-leaves _ a.core c.in-Err.why _ c.refuse.ensures _ _, λ h. refl);
    }

pub returns : goal.returns
unfolding on_timer
returns c =
    let a = c.args in record {
      out_after = call-done (λ (w : World). expire w a.at)
          a.core a.tables.now a.store.now a.out.now
          _ _ c.in_default.ensures refl
          _ c.begin-begun.ensures
          _ _ _ _ _ c.expire-ended.ensures
          (done-told _ _ c.done.ensures);
      refused = (not-refused _ _ _ c.done.ensures, not-refused _ _ _ c.done.ensures);
    }
