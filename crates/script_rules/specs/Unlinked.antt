-- What the loop with no output computes, for the contracts of crate script_run alone: with no link it is what `advance` does, and nothing goes
-- out (`advance-unlinked`, proofs/UnlinkedLaws). No call's definition names it.
use Rattle.std.specs.Prelude.{ℕ, zero, suc}
use Rattle.bytes_base.specs.Choice.{pick}
use Rattle.time.specs.declared.Micros.{Micros}
use Rattle.script_rules.specs.World.{Held}
use Rattle.script_rules.specs.Waiting.{take_step}
use Rattle.script_rules.specs.Start.{start_unlinked}
use Rattle.script_rules.specs.Script.{can_go}

abbrev pub step_unlinked : Held → Micros → Held
step_unlinked h at = let g = take_step h in start_unlinked g at g.state.running.step

unfoldable pub advances_unlinked : ℕ → Held → Micros → Held
advances_unlinked zero h at = h
advances_unlinked (suc n) h at = pick (can_go h.state) (advances_unlinked n (step_unlinked h at) at) h

unfoldable pub advance_unlinked : Held → Micros → Held
advance_unlinked h at = advances_unlinked h.state.queue.count h at
