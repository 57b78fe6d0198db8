-- Fit goes to fit for on_fragment: whatever it is given, and whether it is refused or not.
use Prim.Native.Nat.{ℕ, ◌+◌, ◌≤◌}
use mathlib.Core.Path.{◌≡◌, refl}
use mathlib.Core.Bool.{Bool, true, false}
use mathlib.Core.List.{List, []}
use native.Mathlib.Omega.{arith}
use lib.ListN.{length}
use lib.Dec.{eqb}
use borrow.Author.Tests.{eqb-true}
use Rattle.bytes_base.specs.Choice.{pick}
use Rattle.state_places.specs.Sizes.{frame_size}
use Rattle.time.specs.declared.Micros.{Micros}
use Rattle.time.specs.Clock.{latest}
use Rattle.state.specs.Central.{Central}
use Rattle.state_rules.specs.Fit.{most_notified}
use Rattle.state_rules.specs.Refusals.{accepted, long_frame}
use Rattle.script_rules.specs.World.{Held, World, on_held, on_state}
use Rattle.script_rules.specs.Timed.{Timed}
use Rattle.script_rules.specs.Sound.{Sound}
use Rattle.script_rules.proofs.KeepTurns.{Stays, fit_of, of-fit}
use Rattle.script_rules.specs.Outcome.{Outcome, begins, done, refused}
use Rattle.script_rules.proofs.CallBeginLaws.{begins-sound, sound-stays}
use Rattle.link_rules.specs.Payload.{payload_size}
use Rattle.link_rules.specs.Channel.{on_channel}
use Rattle.link_rules.proofs.KeepChannel.{sound-channel, timed-channel}
use Rattle.link_rules.specs.Fragment.{with_held, dropped, held_before, gathered, frame_length, frame_channel, whole, gate_fragment, refusing}
use Rattle.link_rules.proofs.FragmentLaws.{passed-fragment}
use Rattle.link_rules.specs.Link.{frame_read, gather, hear, on_fragment}
use Rattle.link_rules.proofs.KeepFrames.{comes-linked, whole-short, stays-held, stays-gathered}
use Rattle.thm_fit.specs.Lasting.{Lasting}
use Rattle.thm_fit.proofs.FitGoesToFit.{Kept, kept_of, lasts, advances}

-- another number of bytes held: no step begins or ends
kept-held : (c : Central) (n : ℕ) → n ≤ frame_size → Kept c → Kept (with_held c n)
kept-held c n few k =
    let s = stays-held (record { state = c; store = [] }) n [] few refl (of-fit c k.fit) in
    record { fit = fit_of (with_held c n) s.nearly k.fit.head.idle k.fit.head.deadline; timed = s.timed k.timed }

-- ---- a fragment that is not dropped, once its gate is passed

module _ (at : Micros) (l : at.0 ≤ latest) where
  -- a whole frame
  read-lasts : (w : World) → Sound 65 w → w.told.sent.frames ≡ 0 → Timed w.held.state → w.held.state.bearer.present ≡ true
      → frame_length w.held ≤ payload_size → w.held.state.counters.notified + 1 ≤ most_notified → Kept (frame_read w at).held.state
  unfolding frame_read
  read-lasts w s none t linked short room =
      let g : Held = on_state w.held (with_held w.held.state 0) in
      let channel = frame_channel w.held in
      let n = frame_length w.held in
      let e = stays-held w.held 0 w.held.store (omega arith) refl s.nearly in
      let v = sound-stays 65 w g s e in
      advances at l (on_channel (on_held w g) at channel n)
      (sound-channel (on_held w g) at channel n l v none linked short room)
      (timed-channel (on_held w g) at channel n l v none linked short room (e.timed t))

  module _ (w : World) (start : Bool) (fragment : List ℕ) (s : Sound 65 w) (none : w.told.sent.frames ≡ 0) (k : Kept w.held.state)
      (room : w.held.state.counters.notified + 1 ≤ most_notified) where
    gather-lasts : w.held.state.bearer.present ≡ true → held_before w.held.state.bearer start + length fragment ≤ frame_size
        → Kept (gather w at start fragment).held.state
    unfolding gather gathered
    gather-lasts linked few = by (whole v.held) refl
      where
        v : World
        v = on_held w (gathered w.held start fragment)

        e : Stays w.held v.held
        e = stays-gathered w.held start fragment few s.nearly

        by : (b : Bool) → whole v.held ≡ b → Kept (pick b (frame_read v at) v).held.state
        by true h = read-lasts v (sound-stays 65 w v.held s e) none (e.timed k.timed) linked (whole-short v.held few h) room
        by false h = kept-held w.held.state (held_before w.held.state.bearer start + length fragment) few k

    hear-lasts : (dropped w.held.state.bearer start ≡ false → held_before w.held.state.bearer start + length fragment ≤ frame_size) → Kept (hear w at start fragment).held.state
    unfolding hear
    hear-lasts fits = by (dropped w.held.state.bearer start) refl
      where
        by : (b : Bool) → dropped w.held.state.bearer start ≡ b → Kept (pick b w (gather w at start fragment)).held.state
        by true e = k
        by false e = gather-lasts (comes-linked w.held.state.bearer start e) (fits e)

-- ---- the call

-- refusal 7 alone changes the state
refusing-lasts : (c : Central) (why : ℕ) → Lasting c → Lasting (refusing c why)
refusing-lasts c why l = by (eqb why long_frame)
  where
    by : (b : Bool) → Lasting (pick b (with_held c 0) c)
    by true = lasts (with_held c 0) (kept-held c 0 (omega arith) (kept_of c l))
    by false = l

pub on-fragment-lasts : (c : Central) → Lasting c → (store out : List ℕ) (at : Micros) (start : Bool) (fragment : List ℕ)
    → Lasting (on_fragment c store out at start fragment).state
unfolding on_fragment
on-fragment-lasts c l store out at start fragment = by (eqb g accepted) refl
  where
    g : ℕ
    g = gate_fragment c (length store) (length out) at start (length fragment)

    w : World
    w = begins c store out

    by : (x : Bool) → eqb g accepted ≡ x → Lasting (pick {A = Outcome} x (done (hear w at start fragment)) (refused (refusing c g) g store out)).state
    by false e = refusing-lasts c g l
    by true e =
        let p = passed-fragment c (length store) (length out) at start (length fragment) (eqb-true g 0 e) in
        let s = begins-sound w.held out p.shared.store p.shared.out (of-fit c p.shared.fit) in
        lasts (hear w at start fragment).held.state (hear-lasts at p.shared.time w start fragment s refl (kept_of c l) p.notified p.room)
