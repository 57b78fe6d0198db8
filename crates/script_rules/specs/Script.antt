-- The script goes on: while no step runs and some wait, the first of them begins.
use Rattle.std.specs.Prelude.{ℕ, zero, suc, Bool, not, ◌&&◌, ltb}
use Rattle.bytes_base.specs.Choice.{pick}
use Rattle.time.specs.declared.Micros.{Micros}
use Rattle.state.specs.Central.{Central}
use Rattle.script_rules.specs.World.{World, on_held}
use Rattle.script_rules.specs.Waiting.{take_step}
use Rattle.script_rules.specs.Start.{start}

abbrev pub can_go : Central → Bool
can_go c = not c.running.active && ltb 0 c.queue.count

-- the first waiting step begins
abbrev pub step_once : World → Micros → World
step_once w at = start (on_held w (take_step w.held)) at

-- at most n of them
unfoldable pub advances : ℕ → World → Micros → World
advances zero w at = w
advances (suc n) w at = pick (can_go w.held.state) (advances n (step_once w at) at) w

-- as many as wait
unfoldable pub advance : World → Micros → World
advance w at = advances w.held.state.queue.count w at
