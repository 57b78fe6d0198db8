use mathlib.Core.Path.{refl, sym}
use Rattle.state_refusals.proofs.RefusalLaws.{not-accepted}
use Rattle.central_answers.proofs.AnswerLaws.{refused-told, done-told, refused-leaves, not-refused}
use Rattle.script_events.proofs.GateLaws.{call-begins, call-done, call-refused, few-links}
use Rattle.script_rules.proofs.CallBeginLaws.{may-connect}
use Rattle.state_core.specs.Reading.{central}
use Rattle.script_rules.specs.Comings.{connect}
use Rattle.script_rules.specs.Events.{on_connected}
use Rattle.script_rules.specs.World.{World}
use Rattle.script_events.proofs.on_connected.Goals as goal

pub connect-t-requires : goal.connect-t-requires
connect-t-requires c =
    let a = c.args in
    let m = may-connect (central a.core a.tables.now) a.store.now a.out.now a.at (sym c.in_default.ensures) in
    let b = c.begin.ensures in (
      call-begins (λ (w : World). connect w a.handle a.at)
          a.core a.tables.now a.store.now a.out.now
          _ _ c.in_default.ensures refl
          _ b m.0,
      m.1,
      few-links a.core a.tables.now a.store.now a.out.now _ b m.2,
    )

pub returns-in-Err : goal.returns-in-Err
unfolding on_connected
returns-in-Err c =
    let a = c.args in record {
      out_after = call-refused (λ (w : World). connect w a.handle a.at)
          a.core a.tables.now a.store.now a.out.now
          _ _ c.in-Err.ensures
          _ (not-accepted c.in-Err.why)
          (refused-told a.core c.in-Err.why _ c.refuse.ensures);
      refused = (refused-leaves _ a.core c.in-Err.why _ c.refuse.ensures _ _, λ h. refl);
    }

pub returns : goal.returns
unfolding on_connected
returns c =
    let a = c.args in record {
      out_after = call-done (λ (w : World). connect w a.handle a.at)
          a.core a.tables.now a.store.now a.out.now
          _ _ c.in_default.ensures refl
          _ c.begin.ensures
          _ _ _ _ _ c.connect-t.ensures
          (done-told _ _ c.done.ensures);
      refused = (not-refused _ _ _ c.done.ensures, not-refused _ _ _ c.done.ensures);
    }
