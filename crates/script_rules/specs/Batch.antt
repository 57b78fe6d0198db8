-- push_steps: a batch of steps waits, and the script goes on (01, refusals 4 and 5).
use Rattle.std.specs.Prelude.{ℕ, List, length, eqb}
use Rattle.bytes_base.specs.Choice.{pick}
use Rattle.time.specs.declared.Micros.{Micros}
use Rattle.state.specs.Central.{Central}
use Rattle.state_rules.specs.Gate.{gate}
use Rattle.state_rules.specs.Refusals.{accepted, bad_batch, counter_full}
use Rattle.script_rules.specs.declared.Batch.{Batch}
use Rattle.script_rules.specs.BatchSteps.{steps}
use Rattle.script_rules.specs.Waiting.{push_all}
use Rattle.script_rules.specs.World.{on_held}
pub use Rattle.script_rules.specs.Batches.{placed_fits, refused_below}
unfoldable pub use Rattle.script_rules.specs.Batches.{batch_fits, counters_fit}
use Rattle.script_rules.specs.Script.{advance}
use Rattle.script_rules.specs.Outcome.{Outcome, begins, done, refused}

unfoldable pub gate_batch : Central → ℕ → ℕ → Micros → Batch → ℕ → ℕ
gate_batch c store out at b size =
    let g = gate c store out at in
    pick (eqb g accepted)
    (pick (batch_fits size b) (pick (counters_fit c.counters c.queue.count b.count) accepted counter_full) bad_batch)
    g

unfoldable pub push_steps : Central → List ℕ → List ℕ → Micros → Batch → List ℕ → Outcome
push_steps c store out at b values =
    let g = gate_batch c (length store) (length out) at b (length values) in
    let w = begins c store out in
    pick (eqb g accepted) (done (advance (on_held w (push_all w.held values (steps b))) at)) (refused c g store out)
