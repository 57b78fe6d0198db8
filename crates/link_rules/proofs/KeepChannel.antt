-- A payload of any channel keeps what holds through a call, and leaves each step that waits the room to send its frame.
use Prim.Native.Nat.{ℕ, ◌+◌, ◌≤◌}
use mathlib.Core.Path.{◌≡◌}
use mathlib.Core.Bool.{true}
use native.Mathlib.Omega.{arith}
use lib.Dec.{eqb}
use Rattle.time.specs.declared.Micros.{Micros}
use Rattle.time.specs.Clock.{latest}
use Rattle.l2cap.specs.Numbers.{cid_att, cid_signaling, cid_smp}
use Rattle.state_rules.specs.Fit.{most_notified}
use Rattle.script_rules.specs.World.{World}
use Rattle.script_rules.specs.Ready.{Ready}
use Rattle.script_rules.proofs.ReadyLaws.{ready-more}
use Rattle.script_rules.specs.Nearly.{Nearly}
use Rattle.script_rules.specs.Timed.{Timed}
use Rattle.script_rules.specs.Sound.{Sound}
use Rattle.script_rules.proofs.KeepTurns.{Goes}
use Rattle.link_rules.specs.Payload.{payload_size, payload}
use Rattle.link_rules.specs.Channel.{on_channel}
use Rattle.link_rules.proofs.KeepWork.{goes-pick, goes-not}
use Rattle.link_rules.proofs.KeepReplies.{goes-signaling, goes-smp}
use Rattle.link_rules.proofs.KeepAtt.{goes-payload}

goes-frame : (k : ℕ) (w : World) (at : Micros) (channel n : ℕ) → k ≤ 64 → at.0 ≤ latest → Ready k w → Nearly w.held.state
    → n ≤ payload_size → w.held.state.counters.notified + 1 ≤ most_notified → Goes (k + 1) w (on_channel w at channel n)
unfolding on_channel
goes-frame k w at channel n few l ready f short room =
    let p = payload w.held n in
    goes-pick (k + 1) w (eqb channel cid_att) _ _
    (goes-payload k w at n few l ready f short room)
    (goes-pick (k + 1) w (eqb channel cid_signaling) _ _
    (goes-signaling k w few ready f p)
    (goes-pick (k + 1) w (eqb channel cid_smp) _ _ (goes-smp k w few ready f p) (goes-not k w ready f)))

-- ---- as the first work of a call

module _ (w : World) (at : Micros) (channel n : ℕ) (l : at.0 ≤ latest) (s : Sound 65 w) (none : w.told.sent.frames ≡ 0)
    (p : w.held.state.bearer.present ≡ true) (short : n ≤ payload_size) (room : w.held.state.counters.notified + 1 ≤ most_notified) where
  -- one frame went out at most
  first : Goes 1 w (on_channel w at channel n)
  first =
      let r : Ready 0 w = record { store = s.ready.store; out = s.ready.out; results = s.ready.results; frames = omega arith; bytes = s.ready.bytes } in
      goes-frame 0 w at channel n (omega arith) l r s.nearly short room

  pub sound-channel : Sound 65 (on_channel w at channel n)
  sound-channel =
      let v = on_channel w at channel n in
      record {
        ready = ready-more 1 65 v first.ready (omega arith);
        nearly = first.stays.nearly;
        budget = omega (arith, first.ready.frames, first.stays.nearly.waits.few);
      }

  pub timed-channel : Timed w.held.state → Timed (on_channel w at channel n).held.state
  timed-channel t = first.stays.timed t
