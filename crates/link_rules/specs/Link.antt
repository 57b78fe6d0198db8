-- on_fragment (01, 'Rules of the link' and refusals 1, 2, 3, 5, 7; Core Vol 3 Part A 7.2.1, 3.1).
use Rattle.std.specs.Prelude.{ℕ, ◌+◌, ◌≤◌, ◌≡◌, Bool, List, length, eqb}
use Rattle.bytes_base.specs.Choice.{pick}
use Rattle.time.specs.declared.Micros.{Micros}
use Rattle.time.specs.Clock.{latest}
use Rattle.state.specs.Central.{Central}
use Rattle.state_rules.specs.Fit.{most_notified}
use Rattle.state_rules.specs.Refusals.{accepted}
use Rattle.script_rules.specs.World.{World, on_held, on_state}
use Rattle.script_rules.specs.Sound.{Sound}
use Rattle.script_rules.specs.Script.{advance}
use Rattle.script_rules.specs.Outcome.{Outcome, begins, done, refused}
use Rattle.link_rules.specs.Channel.{on_channel}
use Rattle.link_rules.specs.Fragment.{with_held, dropped, gathered, frame_length, frame_channel, whole, gate_fragment, refusing}

-- held is emptied, surplus dropped; the frame is read and the script goes on
unfoldable pub frame_read : World → Micros → World
frame_read w at =
    let h = w.held in
    advance (on_channel (on_held w (on_state h (with_held h.state 0))) at (frame_channel h) (frame_length h)) at

unfoldable pub gather : World → Micros → Bool → List ℕ → World
gather w at start fragment =
    let v = on_held w (gathered w.held start fragment) in
    pick (whole v.held) (frame_read v at) v

unfoldable pub hear : World → Micros → Bool → List ℕ → World
hear w at start fragment = pick (dropped w.held.state.bearer start) w (gather w at start fragment)

unfoldable pub on_fragment : Central → List ℕ → List ℕ → Micros → Bool → List ℕ → Outcome
on_fragment c store out at start fragment =
    let g = gate_fragment c (length store) (length out) at start (length fragment) in
    pick (eqb g accepted) (done (hear (begins c store out) at start fragment)) (refused (refusing c g) g store out)

-- ---- what the call has in hand until a frame is read: nothing went out, and one more may be notified

pub record Hears (w : World) (at : Micros) : Type 0 where
  pub sound : Sound 65 w
  pub silent : w.told.sent.frames ≡ 0
  pub notified : w.held.state.counters.notified + 1 ≤ most_notified
  pub time : at.0 ≤ latest
