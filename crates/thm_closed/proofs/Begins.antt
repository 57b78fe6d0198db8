-- A step that begins on a closed bearer sends nothing.
use mathlib.Core.Path.{◌≡◌, refl, sym}
use mathlib.Core.Bool.{Bool, true, false, ◌&&◌, false≢true}
use Rattle.bytes_base.specs.Choice.{pick}
use Rattle.time.specs.declared.Micros.{Micros}
use Rattle.state.specs.Central.{with_bearer}
use Rattle.state.specs.declared.Step.{Step}
use Rattle.state.specs.declared.Step.TheVariants.{Scan, Connect, ExchangeMtu, DiscoverServices, DiscoverCharacteristics, Subscribe, Write, Read, WaitNotification, Wait, Disconnect, Capture, CaptureSecrets}
use Rattle.state.specs.declared.StepStatus.TheVariants.{BearerClosed}
use Rattle.state_rules.specs.Steps.{att_step}
use Rattle.script_rules.specs.World.{Held, World, on_held, on_state}
use Rattle.script_rules.specs.Finish.{with_link}
use Rattle.script_rules.specs.Start.{ends, start_unlinked, terminated, asks_to, disconnect, start_linked, barred, start_on, start}
use Rattle.thm_requests.proofs.Asks.{As, itself}

-- the link is asked to end: no frame
mute-disconnect : (w : World) → As w.told (disconnect w).told
unfolding disconnect
mute-disconnect w = go w.held.state.bearer.link.terminating
  where
    g : Held
    g = on_state w.held (with_bearer w.held.state (with_link w.held.state.bearer (terminated w.held.state.bearer.link)))

    go : (b : Bool) → As w.told (pick b w (record { held = g; told = asks_to w.told })).told
    go true = itself w.told
    go false = record { frames = refl; bytes = refl; out = refl }

-- a step that could send no ATT
mute-linked : (w : World) (at : Micros) (s : Step) → att_step s ≡ false → As w.told (start_linked w at s).told
unfolding start_linked
mute-linked w at (Scan ms) e = itself w.told
mute-linked w at (Connect target interval latency timeout ms) e = itself w.told
mute-linked w at (ExchangeMtu mtu) e = absurd (false≢true (sym e))
mute-linked w at DiscoverServices e = absurd (false≢true (sym e))
mute-linked w at (DiscoverCharacteristics u) e = absurd (false≢true (sym e))
mute-linked w at (Subscribe u indicate) e = absurd (false≢true (sym e))
mute-linked w at (Write u response) e = absurd (false≢true (sym e))
mute-linked w at (Read u) e = absurd (false≢true (sym e))
mute-linked w at (WaitNotification u ms age) e = itself w.told
mute-linked w at (Wait ms) e = itself w.told
mute-linked w at Disconnect e = mute-disconnect w
mute-linked w at (Capture enabled) e = itself w.told
mute-linked w at (CaptureSecrets secrets) e = itself w.told

third : (x y z d : Bool) → x ≡ true → y ≡ true → (x && (y && z)) ≡ d → z ≡ d
third true true z d p q e = e
third true false z d p q e = absurd (false≢true q)
third false y z d p q e = absurd (false≢true p)

pub mute-start : (w : World) (at : Micros) → w.held.state.options.strict ≡ true → w.held.state.bearer.closed ≡ true → As w.told (start w at).told
unfolding start start_on
mute-start w at k c = go w.held.state.bearer.present (barred w.held.state.options w.held.state.bearer s) refl
  where
    s : Step
    s = w.held.state.running.step

    go : (b d : Bool) → barred w.held.state.options w.held.state.bearer s ≡ d
        → As w.told (pick b (pick d (on_held w (ends w.held at BearerClosed)) (start_linked w at s)) (on_held w (start_unlinked w.held at s))).told
    go true true e = itself w.told
    go true false e = mute-linked w at s (third w.held.state.options.strict w.held.state.bearer.closed (att_step s) false k c e)
    go false d e = itself w.told
