-- What each return of `start` asks, from what its callees ensure.
use Prim.Native.Nat.{ℕ, ◌≤◌, max}
use mathlib.Core.Path.{◌≡◌, sym, ap, subst, ◌∙◌}
use mathlib.Core.Bool.{Bool}
use Rattle.state_places.specs.Sizes.{value_size}
use Rattle.time.specs.declared.Micros.{Micros}
use Rattle.time.specs.declared.Millis.{Millis}
use Rattle.uuid_value.specs.declared.Uuid.{Uuid}
use Rattle.att_pdu.specs.Pdu.{exchange_mtu_req}
use Rattle.notifications.specs.declared.Age.{Age}
use Rattle.gatt_services.specs.Service as service
use Rattle.state.specs.declared.Target.{Target}
use Rattle.state.specs.declared.Step.{Step}
use Rattle.state.specs.declared.Step.TheVariants.{Scan, Connect, ExchangeMtu, DiscoverServices, DiscoverCharacteristics, Subscribe, Write, Read, WaitNotification, Wait, Disconnect, Capture, CaptureSecrets}
use Rattle.state.specs.declared.StepStatus.TheVariants.{Ok}
use Rattle.state_rules.specs.Steps.{default_mtu}
use Rattle.script_rules.specs.World.{World, on_held, on_state}
use Rattle.script_rules.specs.Send.{request}
use Rattle.script_rules.specs.Discovery.{discover_services}
use Rattle.script_rules.specs.Wait.{check_wait}
use Rattle.script_rules.specs.Start.{ends, waits_for, forgotten, discover_in, subscribe, write, read, disconnect, named, carried, start_linked}

module _ (w : World) (at : Micros) (step : Step) where
  -- a step that is known to be k begins as k does
  same-as : (k : Step) → step ≡ k → start_linked w at k ≡ start_linked w at step
  same-as k e = ap (start_linked w at) (sym e)

  pub begin-scan : (ms : Millis) → step ≡ Scan ms → on_held w (waits_for w.held at ms) ≡ start_linked w at step
  unfolding start_linked
  begin-scan ms e = same-as (Scan ms) e

  pub begin-connect : (t : Target) (i l o : ℕ) (ms : Millis) → step ≡ Connect t i l o ms → on_held w (ends w.held at Ok) ≡ start_linked w at step
  unfolding start_linked
  begin-connect t i l o ms e = same-as (Connect t i l o ms) e

  pub begin-mtu : (m : ℕ) → step ≡ ExchangeMtu m → request w at (exchange_mtu_req (max m default_mtu)) ≡ start_linked w at step
  unfolding start_linked
  begin-mtu m e = same-as (ExchangeMtu m) e

  pub begin-services : step ≡ DiscoverServices → discover_services (on_held w (on_state w.held (forgotten w.held.state))) at 1 ≡ start_linked w at step
  unfolding start_linked
  begin-services e = same-as DiscoverServices e

  pub begin-characteristics : (u : Uuid) → step ≡ DiscoverCharacteristics u → discover_in w at (service.service_with u (service.known w.held.state.services)) ≡ start_linked w at step
  unfolding start_linked
  begin-characteristics u e = same-as (DiscoverCharacteristics u) e

  pub begin-subscribe : (u : Uuid) (b : Bool) → step ≡ Subscribe u b → subscribe w at b (named w u) ≡ start_linked w at step
  unfolding start_linked
  begin-subscribe u b e = same-as (Subscribe u b) e

  pub begin-write : (u : Uuid) (b : Bool) → step ≡ Write u b → write w at b (named w u) ≡ start_linked w at step
  unfolding start_linked
  begin-write u b e = same-as (Write u b) e

  pub begin-read : (u : Uuid) → step ≡ Read u → read w at (named w u) ≡ start_linked w at step
  unfolding start_linked
  begin-read u e = same-as (Read u) e

  pub begin-notification : (u : Uuid) (ms : Millis) (age : Age) → step ≡ WaitNotification u ms age → on_held w (check_wait (waits_for w.held at ms) at) ≡ start_linked w at step
  unfolding start_linked
  begin-notification u ms age e = same-as (WaitNotification u ms age) e

  pub begin-wait : (ms : Millis) → step ≡ Wait ms → on_held w (waits_for w.held at ms) ≡ start_linked w at step
  unfolding start_linked
  begin-wait ms e = same-as (Wait ms) e

  pub begin-disconnect : step ≡ Disconnect → disconnect w ≡ start_linked w at step
  unfolding start_linked
  begin-disconnect e = same-as Disconnect e

  pub begin-capture : (b : Bool) → step ≡ Capture b → on_held w (ends w.held at Ok) ≡ start_linked w at step
  unfolding start_linked
  begin-capture b e = same-as (Capture b) e

  pub begin-secrets : (b : Bool) → step ≡ CaptureSecrets b → on_held w (ends w.held at Ok) ≡ start_linked w at step
  unfolding start_linked
  begin-secrets b e = same-as (CaptureSecrets b) e

pub write-fits : (step : Step) (n : ℕ) (u : Uuid) (b : Bool) → step ≡ Write u b → carried step n ≤ value_size → n ≤ value_size
write-fits step n u b e h = subst (λ (s : Step). carried s n ≤ value_size) e h
