use mathlib.Core.Path.{refl}
use Rattle.state_refusals.proofs.RefusalLaws.{not-accepted}
use Rattle.central_answers.proofs.AnswerLaws.{refused-quietly, done-quietly, refused-leaves, not-refused}
use Rattle.script_events.proofs.GateLaws.{quiet-begins, quiet-done, quiet-refused}
use Rattle.script_rules.specs.Comings.{lose}
use Rattle.script_rules.specs.Events.{on_disconnected}
use Rattle.script_rules.specs.World.{Held}
use Rattle.script_events.proofs.on_disconnected.Goals as goal

pub lose-left-requires : goal.lose-left-requires
lose-left-requires c =
    let a = c.args in
    quiet-begins (λ (h : Held). lose h a.at)
    a.core a.tables.now a.store.now a.at
    _ c.in_default.ensures refl

pub returns-in-Err : goal.returns-in-Err
unfolding on_disconnected
returns-in-Err c =
    let a = c.args in record {
      store_after = quiet-refused (λ (h : Held). lose h a.at)
          a.core a.tables.now a.store.now a.at
          _ c.in-Err.ensures
          _ (not-accepted c.in-Err.why)
          (refused-quietly a.core c.in-Err.why _ c.refuse.ensures);
      refused = refused-leaves _ a.core c.in-Err.why _ c.refuse.ensures _ _;
    }

pub returns : goal.returns
unfolding on_disconnected
returns c =
    let a = c.args in record {
      store_after = quiet-done (λ (h : Held). lose h a.at)
          a.core a.tables.now a.store.now a.at
          _ c.in_default.ensures refl
          _ _ _ _ c.lose-left.ensures
          (done-quietly _ _ c.done.ensures);
      refused = not-refused _ _ _ c.done.ensures;
    }
