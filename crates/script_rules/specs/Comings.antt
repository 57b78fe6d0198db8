-- What a timer, a link that comes and a link that goes do (01, 'Rules of the link': what each ends, what each keeps).
use Rattle.std.specs.Prelude.{ℕ, ◌+◌, Bool, ◌||◌, []}
use Rattle.bytes_base.specs.Choice.{pick}
use Rattle.time.specs.declared.Micros.{Micros}
use Rattle.state.specs.Central.{Central, with_bearer, with_counters}
use Rattle.state.specs.declared.Counters.{Counters}
use Rattle.state.specs.declared.Step.{Step}
use Rattle.state.specs.declared.StepStatus.{StepStatus}
use Rattle.state.specs.declared.StepStatus.TheVariants.{Ok, Disconnected}
use Rattle.script_rules.specs.World.{Held, World, on_held, on_state}
use Rattle.script_rules.specs.Start.{ends}
use Rattle.state_kinds.specs.Kinds.{is_scan, is_wait, is_disconnect}
pub use Rattle.state_kinds.specs.Kinds.{is_connect}
pub use Rattle.script_rules.specs.Bearers.{linked, unlinked}
pub use Rattle.script_rules.specs.Timeouts.{timed_out, due, closing}
use Rattle.script_rules.specs.Outcome.{begins}
use Rattle.script_rules.specs.Script.{advance}

-- ---- the timer

-- the bearer as the end of the running step by its deadline leaves it: what is awaited is read before the end clears it
abbrev pub given_up : Held → Held
given_up h = let c = h.state in on_state h (with_bearer c (closing c.options c.running c.bearer))

unfoldable pub expire : World → Micros → World
expire w at =
    let r = w.held.state.running in
    pick (due r at) (advance (on_held w (ends (given_up w.held) at (timed_out r.step))) at) w

-- ---- a link comes

-- a running Connect is done (a step that does not run is not ended)
abbrev pub greeted : Held → Micros → Held
greeted h at = pick (is_connect h.state.running.step) (ends h at Ok) h

-- one link more is counted: its number is the count (02, One)
abbrev pub link_counted : Counters → Counters
link_counted k =
    record { next_index = k.next_index; refused_steps = k.refused_steps; notified = k.notified; wait_from = k.wait_from; links = k.links + 1 }

abbrev pub with_new_link : Central → ℕ → Central
with_new_link c handle = with_counters (with_bearer c (linked handle)) (link_counted c.counters)

unfoldable pub connect : World → ℕ → Micros → World
connect w handle at = advance (on_held w (greeted (on_state w.held (with_new_link w.held.state handle)) at)) at

-- ---- a link goes

-- what becomes of a running step: a scan, a wait and a connect go on; a Disconnect is done; every other step is cut off
abbrev pub goes_on : Step → Bool
goes_on s = is_scan s || (is_connect s || is_wait s)

abbrev pub cut_status : Step → StepStatus
cut_status s = pick (is_disconnect s) Ok Disconnected

unfoldable pub cut_off : Held → Micros → Step → Held
cut_off h at step = pick (goes_on step) h (ends h at (cut_status step))

-- no output is lent: with no link nothing goes out (`advance-unlinked`, proofs/UnlinkedLaws)
abbrev pub silent : Held → World
silent h = begins h.state h.store []

unfoldable pub lose : Held → Micros → Held
lose h at =
    let g = on_state h (with_bearer h.state (unlinked h.state.bearer)) in
    (advance (silent (cut_off g at g.state.running.step)) at).held
