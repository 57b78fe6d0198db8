-- What gathering a fragment, reading a frame and the channels ask of what they call, and what each of their returns asks.
use Prim.Native.Nat.{ℕ, ◌+◌, ◌≤◌, ◌<◌}
use mathlib.Core.Path.{◌≡◌, sym, ap, subst, ◌∙◌}
use mathlib.Core.Bool.{Bool, true, false}
use mathlib.Core.List.{List}
use native.Mathlib.Omega.{arith}
use lib.ListN.{length}
use borrow.Author.Tests.{ne_eqb}
use Rattle.bytes_base.specs.Choice.{pick}
use Rattle.lists.specs.Blocks.{bytes}
use Rattle.state_places.specs.Sizes.{frame_size}
use Rattle.time.specs.declared.Micros.{Micros}
use Rattle.time.specs.Clock.{latest}
use Rattle.l2cap.specs.Numbers.{cid_att, cid_signaling, cid_smp}
use Rattle.state_rules.specs.Fit.{most_notified}
use Rattle.script_rules.specs.World.{Told, World, on_held, on_told, on_state}
use Rattle.script_rules.specs.Sound.{Sound}
use Rattle.script_rules.specs.Script.{advance}
use Rattle.link_rules.specs.Payload.{Reads, payload_at}
use Rattle.link_rules.specs.Replies.{on_signaling, on_smp}
use Rattle.link_rules.specs.Att.{on_att}
use Rattle.link_rules.specs.Channel.{on_channel}
use Rattle.link_rules.proofs.KeepChannel.{sound-channel}
use Rattle.link_rules.specs.Fragment.{with_held, dropped, held_before, gathered, frame_length, frame_channel, whole}
use Rattle.link_rules.specs.Link.{Hears, frame_read, gather, hear}
use Rattle.link_rules.proofs.KeepFrames.{still-linked, comes-linked, hears-gathered, sound-emptied, short-payload, reads-emptied}

-- ---- the channels

module _ (w : World) (at : Micros) (channel n : ℕ) where
  pub channel-att : channel ≡ cid_att → (v : World) → v ≡ on_att w at n → v ≡ on_channel w at channel n
  unfolding on_channel
  channel-att h v e = e ∙ rw h

  pub channel-signaling : channel ≡ cid_signaling → (x : Told) → x ≡ on_signaling w.told (bytes w.held.store payload_at n) → on_told w x ≡ on_channel w at channel n
  unfolding on_channel
  channel-signaling h x e = ap (λ (y : Told). on_told w y) e ∙ rw h

  pub channel-smp : channel ≡ cid_smp → (x : Told) → x ≡ on_smp w.told (bytes w.held.store payload_at n) → on_told w x ≡ on_channel w at channel n
  unfolding on_channel
  channel-smp h x e = ap (λ (y : Told). on_told w y) e ∙ rw h

  pub channel-else : (channel ≡ cid_att → ⊥) → (channel ≡ cid_signaling → ⊥) → (channel ≡ cid_smp → ⊥) → w ≡ on_channel w at channel n
  unfolding on_channel
  channel-else a b d = rw (ne_eqb channel cid_att a, ne_eqb channel cid_signaling b, ne_eqb channel cid_smp d)

-- ---- a frame is read

abbrev pub emptied : World → World
emptied w = on_held w (on_state w.held (with_held w.held.state 0))

module _ (w : World) (at : Micros) (x : Hears w at × (w.held.state.bearer.present ≡ true) × (whole w.held ≡ true))
    (n channel : ℕ) (en : n ≡ frame_length w.held) (ec : channel ≡ frame_channel w.held) (v : World) (ev : v ≡ emptied w) where
  pub may-channel : Reads n v × (v.held.state.counters.notified < most_notified)
  may-channel =
      let r = reads-emptied w at x.0 x.1 x.2 in (
        subst (λ (y : World). Reads n y) (sym ev) (subst (λ (m : ℕ). Reads m (emptied w)) (sym en) r),
        omega (arith, x.0.notified, ap (λ (y : World). y.held.state.counters.notified) ev),
      )

  module _ (u : World) (eu : u ≡ on_channel v at channel n) where
    read : u ≡ on_channel (emptied w) at (frame_channel w.held) (frame_length w.held)
    read =
        eu
        ∙ ap (λ (y : World). on_channel y at channel n) ev
        ∙ ap (λ (k : ℕ). on_channel (emptied w) at k n) ec
        ∙ ap (λ (m : ℕ). on_channel (emptied w) at (frame_channel w.held) m) en

    pub may-advance : Sound 65 u × (at.0 ≤ latest)
    may-advance = (
      subst (λ (y : World). Sound 65 y) (sym read)
          (sound-channel (emptied w) at (frame_channel w.held) (frame_length w.held) x.0.time (sound-emptied w at x.0) x.0.silent x.1
          (short-payload w at x.0 x.1 x.2) x.0.notified),
      x.0.time,
    )

    pub read_done : (z : World) → z ≡ advance u at → z ≡ frame_read w at
    unfolding frame_read
    read_done z e = e ∙ ap (λ (y : World). advance y at) read

-- ---- a fragment is gathered

module _ (w : World) (at : Micros) (start : Bool) (fragment : List ℕ)
    (x : Hears w at × (dropped w.held.state.bearer start ≡ false) × (held_before w.held.state.bearer start + length fragment ≤ frame_size))
    (v : World) (ev : v ≡ on_held w (gathered w.held start fragment)) (b : Bool) (eb : b ≡ whole v.held) where
  abbrev more : World
  more = on_held w (gathered w.held start fragment)

  there : b ≡ whole more.held
  there = eb ∙ ap (λ (y : World). whole y.held) ev

  pub gather-may : b ≡ true → Hears v at × (v.held.state.bearer.present ≡ true) × (whole v.held ≡ true)
  gather-may h = (
    subst (λ (y : World). Hears y at) (sym ev) (hears-gathered w at x.0 start fragment x.2),
    ap (λ (y : World). y.held.state.bearer.present) ev ∙ still-linked w.held start fragment ∙ comes-linked w.held.state.bearer start x.1,
    sym eb ∙ h,
  )

  pub gather-read : b ≡ true → (z : World) → z ≡ frame_read v at → z ≡ gather w at start fragment
  unfolding gather
  gather-read h z e =
      e ∙ ap (λ (y : World). frame_read y at) ev ∙ ap (λ (y : Bool). pick y (frame_read more at) more) (sym h ∙ there)

  pub gather-rests : b ≡ false → v ≡ gather w at start fragment
  unfolding gather
  gather-rests h = ev ∙ ap (λ (y : Bool). pick y (frame_read more at) more) (sym h ∙ there)

-- ---- or dropped

module _ (w : World) (at : Micros) (start : Bool) (fragment : List ℕ) (d : Bool) (ed : d ≡ dropped w.held.state.bearer start) where
  pub hear-drops : d ≡ true → w ≡ hear w at start fragment
  unfolding hear
  hear-drops h = ap (λ (y : Bool). pick y w (gather w at start fragment)) (sym h ∙ ed)

  module _ (h : d ≡ false) where
    pub hear-may : Hears w at × (dropped w.held.state.bearer start ≡ false → held_before w.held.state.bearer start + length fragment ≤ frame_size)
        → Hears w at × (dropped w.held.state.bearer start ≡ false) × (held_before w.held.state.bearer start + length fragment ≤ frame_size)
    hear-may x = (x.0, sym ed ∙ h, x.1 (sym ed ∙ h))

    pub hear-gathers : (z : World) → z ≡ gather w at start fragment → z ≡ hear w at start fragment
    unfolding hear
    hear-gathers z e = e ∙ ap (λ (y : Bool). pick y w (gather w at start fragment)) (sym h ∙ ed)
