-- A step whose deadline has come (01, 'Rules of the link': what each ends, what each keeps).
use Rattle.std.specs.Prelude.{Bool, ◌&&◌, ◌||◌, leb}
use Rattle.bytes_base.specs.Choice.{pick}
use Rattle.time.specs.declared.Micros.{Micros}
use Rattle.state.specs.declared.Bearer.{Bearer}
use Rattle.state.specs.declared.Options.{Options}
use Rattle.state.specs.declared.Running.{Running}
use Rattle.state.specs.declared.Step.{Step}
use Rattle.state.specs.declared.StepStatus.{StepStatus}
use Rattle.state.specs.declared.StepStatus.TheVariants.{Ok, Timeout}
use Rattle.state_kinds.specs.Kinds.{is_scan, is_wait, att_step}
use Rattle.state_rules.specs.Fit.{awaits}

-- a step runs, and its deadline is now or before
abbrev pub due : Running → Micros → Bool
due r at = r.active && (r.dated && leb r.deadline.0 at.0)

-- a scan or a wait is over; any other step is late
abbrev pub timed_out : Step → StepStatus
timed_out s = pick (is_scan s || is_wait s) Ok Timeout

-- an ATT step runs whose request is still awaited: no answer came in the ATT timeout (02, Four; Core Vol 3 Part F 3.3.3)
abbrev pub unanswered : Running → Bearer → Bool
unanswered r b = att_step r.step && awaits b

-- in strict mode the end of such a step closes its bearer
abbrev pub closing : Options → Running → Bearer → Bearer
closing o r b = record { held = b.held; link = b.link; present = b.present; closed = b.closed || (o.strict && unanswered r b) }
