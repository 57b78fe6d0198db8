-- A fragment that is gathered and a frame that is taken keep what holds through a call.
use Prim.Native.Nat.{ℕ, ◌+◌, ◌≤◌}
use mathlib.Core.Path.{◌≡◌, refl, sym}
use mathlib.Core.Bool.{Bool, true, false, not, ◌&&◌, ◌||◌, false≢true}
use mathlib.Core.List.{List}
use native.Mathlib.Omega.{arith}
use lib.ListN.{length}
use lib.Dec.{eqb, leb}
use borrow.Author.Tests.{leb-true}
use Rattle.bytes_base.specs.Splice.{splice}
use Rattle.bytes_base.proofs.SpliceLaws.{length-splice}
use Rattle.bytes_base.proofs.TestLaws.{both}
use Rattle.state_places.specs.Sizes.{held_at, frame_size}
use Rattle.time.specs.declared.Micros.{Micros}
use Rattle.state.specs.declared.Bearer.{Bearer}
use Rattle.script_rules.specs.World.{Held, World, on_held, on_state}
use Rattle.script_rules.specs.Nearly.{Nearly}
use Rattle.script_rules.specs.Sound.{Sound}
use Rattle.script_rules.proofs.KeepTurns.{Stays}
use Rattle.script_rules.proofs.CallBeginLaws.{sound-stays}
use Rattle.link_rules.specs.Payload.{payload_size, Reads}
use Rattle.link_rules.specs.Fragment.{with_held, dropped, held_before, gathered, frame_length, whole}
use Rattle.link_rules.specs.Link.{Hears}

-- ---- what is held

-- a fragment that is not dropped comes on a link
pub comes-linked : (b : Bearer) (start : Bool) → dropped b start ≡ false → b.present ≡ true
comes-linked b start e = go b.present e
  where
    go : (p : Bool) → (not p || (not start && eqb b.held 0)) ≡ false → p ≡ true
    go true h = refl
    go false h = absurd (false≢true (sym h))

-- a frame that is whole has a payload that fits
pub whole-short : (h : Held) → h.state.bearer.held ≤ frame_size → whole h ≡ true → frame_length h ≤ payload_size
whole-short h few e =
    omega (arith, leb-true (4 + frame_length h) h.state.bearer.held (both (leb 4 h.state.bearer.held) (leb (4 + frame_length h) h.state.bearer.held) e).1)

module _ (h : Held) (n : ℕ) (store : List ℕ) (few : n ≤ frame_size) (same : length store ≡ length h.store) (f : Nearly h.state) where
  pub stays-held : Stays h (record { state = with_held h.state n; store = store })
  stays-held =
      record {
        nearly = record {
          waits = f.waits;
          keys = f.keys;
          results = f.results;
          peer = f.peer;
          heard = f.heard;
          tally = f.tally;
          linked = record { held = λ p. few; mtu_low = f.linked.mtu_low; mtu_high = f.linked.mtu_high };
          runs = f.runs;
          asks = record { request = f.asks.request; asking = f.asks.asking; att = f.asks.att };
        };
        store = same;
        queue = refl;
        timed = λ t. record { running = t.running; waiting = t.waiting; deadline = t.deadline };
      }

module _ (h : Held) (start : Bool) (fragment : List ℕ) where
  pub stays-gathered : held_before h.state.bearer start + length fragment ≤ frame_size → Nearly h.state → Stays h (gathered h start fragment)
  unfolding gathered
  stays-gathered few f =
      let from = held_before h.state.bearer start in
      stays-held h (from + length fragment) (splice h.store (held_at + from) fragment 0 (length fragment)) few (length-splice h.store (held_at + from) fragment 0 (length fragment)) f

  pub still-linked : (gathered h start fragment).state.bearer.present ≡ h.state.bearer.present
  unfolding gathered
  still-linked = refl

-- ---- what the call has in hand

module _ (w : World) (at : Micros) (x : Hears w at) where
  pub hears-gathered : (start : Bool) (fragment : List ℕ) → held_before w.held.state.bearer start + length fragment ≤ frame_size
      → Hears (on_held w (gathered w.held start fragment)) at
  unfolding gathered
  hears-gathered start fragment m =
      record {
        sound = sound-stays 65 w (gathered w.held start fragment) x.sound (stays-gathered w.held start fragment m x.sound.nearly);
        silent = x.silent;
        notified = x.notified;
        time = x.time;
      }

  pub sound-emptied : Sound 65 (on_held w (on_state w.held (with_held w.held.state 0)))
  sound-emptied = sound-stays 65 w _ x.sound (stays-held w.held 0 w.held.store (omega arith) refl x.sound.nearly)

  module _ (p : w.held.state.bearer.present ≡ true) (k : whole w.held ≡ true) where
    pub short-payload : frame_length w.held ≤ payload_size
    short-payload = whole-short w.held (x.sound.nearly.linked.held p) k

    pub reads-emptied : Reads (frame_length w.held) (on_held w (on_state w.held (with_held w.held.state 0)))
    reads-emptied =
        let s = sound-emptied in
        record {
          ready = record { store = s.ready.store; out = s.ready.out; results = s.ready.results; frames = omega (arith, x.silent); bytes = s.ready.bytes };
          nearly = s.nearly;
          short = short-payload;
        }
