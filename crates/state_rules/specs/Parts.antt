-- The clauses of fit as the code takes them: those of numbers in one function, whatever the layout of the tables.
use Rattle.std.specs.Prelude.{ℕ, Bool, ◌&&◌}
use Rattle.state.specs.declared.Counts.{Counts}
use Rattle.state.specs.declared.Counters.{Counters}
use Rattle.state.specs.declared.Bearer.{Bearer}
use Rattle.state.specs.declared.Running.{Running}
use Rattle.state_rules.specs.Fit.{counts_fit, held_fits, mtu_fits, running_fits, phase_fits, pending_fits, idle_fits, deadline_fits}
unfoldable pub use Rattle.state_counters.specs.Counters.{counters_fit}

unfoldable pub step_fit : Running → ℕ → Bool
step_fit r waiting = running_fits r && phase_fits r && idle_fits r waiting && deadline_fits r

unfoldable pub bearer_fits : Bearer → Running → Bool
bearer_fits b r = held_fits b && mtu_fits b && pending_fits b r

unfoldable pub head_fits : Counts → Counters → Bearer → Running → ℕ → ℕ → Bool
head_fits n k b r reports keys =
    counts_fit n reports keys && counters_fit k n && step_fit r n.waiting && bearer_fits b r
