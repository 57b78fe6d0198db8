-- The trail of a call: each world that it passes through, one hop at a time. In a hop at most one step ends, at most one begins, and at
-- most one frame goes out; every log of the promises is read off two neighbouring worlds.
use Rattle.std.specs.Prelude.{ℕ, zero, suc, Bool, List, [], ◌∷◌, eqb}
use Rattle.bytes_base.specs.Choice.{pick}
use Rattle.time.specs.declared.Micros.{Micros}
use Rattle.l2cap.specs.Numbers.{cid_att}
use Rattle.state.specs.Central.{with_bearer}
use Rattle.state.specs.declared.StepStatus.TheVariants.{Ok}
use Rattle.script_rules.specs.World.{Held, World, on_held, on_state}
use Rattle.script_rules.specs.Start.{ends}
use Rattle.script_rules.specs.BatchSteps.{steps}
use Rattle.script_rules.specs.Waiting.{push_all}
use Rattle.script_rules.specs.Script.{can_go, step_once}
use Rattle.script_rules.specs.Outcome as outcome
use Rattle.script_rules.specs.Events.{timed_out, due, given_up, with_new_link, is_connect, unlinked, goes_on, cut_status}
use Rattle.radio_rules.specs.Hearing as radio
use Rattle.link_rules.specs.Payload.{payload}
use Rattle.link_rules.specs.Channel.{on_channel}
use Rattle.link_rules.specs.Fragment.{dropped, with_held, gathered, frame_length, frame_channel, whole}
use Rattle.thm_trail.specs.Calls.{Call, batch, timer, connected, disconnected, advertising, scan_response, fragment, reads, blank}

-- what comes in from outside: a link by its handle, its loss, the payload of a frame on the attribute channel
pub data News : Type 0 where
  link-came : ℕ → News
  link-went : News
  att-heard : List ℕ → News

-- a world that a call passes through, and what came in on the way to it
pub record Pass : Type 0 where
  pub came : List News
  pub to : World

abbrev pub pass : World → Pass
pass w = record { came = []; to = w }

abbrev pub final : World → List Pass → World
final w [] = w
final w (p ∷ ps) = final p.to ps

-- ---- the script goes on: a hop for each step that begins

unfoldable pub onwards : ℕ → World → Micros → List Pass
onwards zero w at = []
onwards (suc n) w at = pick (can_go w.held.state) (pass (step_once w at) ∷ onwards n (step_once w at) at) []

abbrev pub onward : World → Micros → List Pass
onward w at = onwards w.held.state.queue.count w at

-- a hop, and then the script goes on
abbrev pub then_onward : World → Micros → List Pass
then_onward v at = pass v ∷ onward v at

-- ---- each call's

-- the bearer is given up, or not; then the step ends
unfoldable pub timer_trail : World → Micros → List Pass
timer_trail w at =
    let r = w.held.state.running in
    let u = on_held w (given_up w.held) in
    pick (due r at) (pass u ∷ then_onward (on_held u (ends u.held at (timed_out r.step))) at) []

abbrev pub met : World → ℕ → World
met w handle = on_held w (on_state w.held (with_new_link w.held.state handle))

unfoldable pub connected_trail : World → ℕ → Micros → List Pass
connected_trail w handle at =
    let u = met w handle in
    record { came = link-came handle ∷ []; to = u } ∷ pick (is_connect u.held.state.running.step) (then_onward (on_held u (ends u.held at Ok)) at) (onward u at)

abbrev pub parted : World → World
parted w = on_held w (on_state w.held (with_bearer w.held.state (unlinked w.held.state.bearer)))

unfoldable pub disconnected_trail : World → Micros → List Pass
disconnected_trail w at =
    let u = parted w in
    let step = u.held.state.running.step in
    record { came = link-went ∷ []; to = u } ∷ pick (goes_on step) (onward u at) (then_onward (on_held u (ends u.held at (cut_status step))) at)

-- the ATT payload of a frame
abbrev pub came_on : ℕ → List ℕ → List News
came_on channel p = pick (eqb channel cid_att) (att-heard p ∷ []) []

-- the bytes are held; a whole frame is taken from them, then read
unfoldable pub fragment_trail : World → Micros → Bool → List ℕ → List Pass
fragment_trail w at start bytes =
    let v = on_held w (gathered w.held start bytes) in
    let u = on_held v (on_state v.held (with_held v.held.state 0)) in
    let n = frame_length v.held in
    let channel = frame_channel v.held in
    pick (dropped w.held.state.bearer start)
    []
    (pass v
    ∷ pick (whole v.held)
    (pass u ∷ record { came = came_on channel (payload u.held n); to = on_channel u at channel n } ∷ onward (on_channel u at channel n) at)
    [])

-- ---- all of them

-- the world in which a call begins: with the batch in
abbrev pub begins : Held → Call → World
begins h (batch out at b values) =
    let w = outcome.begins h.state h.store out in
    on_held w (push_all w.held values (steps b))
begins h (timer out at) = outcome.begins h.state h.store out
begins h (connected out handle at) = outcome.begins h.state h.store out
begins h (disconnected at) = outcome.begins h.state h.store blank
begins h (advertising v) = outcome.begins h.state h.store blank
begins h (scan_response at a d) = outcome.begins h.state h.store blank
begins h (fragment out at start bytes) = outcome.begins h.state h.store out
begins h (reads r) = outcome.begins h.state h.store blank

-- the worlds that it passes through
abbrev pub goes : Held → Call → List Pass
goes h (batch out at b values) = onward (begins h (batch out at b values)) at
goes h (timer out at) = timer_trail (begins h (timer out at)) at
goes h (connected out handle at) = connected_trail (begins h (connected out handle at)) handle at
goes h (disconnected at) = disconnected_trail (begins h (disconnected at)) at
goes h (advertising v) = pass (on_held (begins h (advertising v)) (let x = radio.advertised h.state h.store v in record { state = x.state; store = x.store })) ∷ []
goes h (scan_response at a d) =
    pass (on_held (begins h (scan_response at a d)) (let x = radio.scan_responded h.state h.store at a d in record { state = x.state; store = x.store })) ∷ []
goes h (fragment out at start bytes) = fragment_trail (begins h (fragment out at start bytes)) at start bytes
goes h (reads r) = []
