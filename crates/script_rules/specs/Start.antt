-- What each step does when it begins (the Rust's `start`; 01, 'Rules of the link').
use Rattle.std.specs.Prelude.{ℕ, ◌+◌, max, Bool, true, false, ◌&&◌, List, [], ◌∷◌, ltb, Option, Some, None}
use Rattle.bytes_base.specs.Choice.{pick}
use Rattle.state_places.specs.Sizes.{running_at, held_at}
use Rattle.time.specs.declared.Micros.{Micros}
use Rattle.time.specs.declared.Millis.{Millis}
use Rattle.time.specs.Clock.{deadline}
use Rattle.l2cap.specs.Numbers.{cid_att}
use Rattle.l2cap.specs.Frame.{att_pdu}
use Rattle.att_pdu.specs.Numbers.{op_write_req, op_write_cmd}
use Rattle.att_pdu.specs.Pdu.{exchange_mtu_req, read_req, write_req}
use Rattle.uuid_value.specs.declared.Uuid.{Uuid}
use Rattle.gatt_services.specs.Service as service
use Rattle.gatt_characteristics.specs.Characteristic as characteristic
use Rattle.state.specs.Central.{Central, with_running, with_bearer, with_services, with_characteristics}
use Rattle.state.specs.declared.LinkRequest.TheVariants.{Terminate}
use Rattle.state.specs.declared.Bearer.{Bearer}
use Rattle.state.specs.declared.Options.{Options}
use Rattle.state.specs.declared.Step.{Step}
use Rattle.state.specs.declared.Step.TheVariants.{Scan, Connect, ExchangeMtu, DiscoverServices, DiscoverCharacteristics, Subscribe, Write, Read, WaitNotification, Wait, Disconnect, Capture, CaptureSecrets}
use Rattle.state.specs.declared.StepStatus.{StepStatus}
use Rattle.state.specs.declared.StepStatus.TheVariants.{Ok, NotConnected, NotFound, TooLong, BearerClosed}
use Rattle.state_rules.specs.Steps.{default_mtu, carries, att_step}
use Rattle.script_rules.specs.World.{Held, Told, World, on_held, on_state}
pub use Rattle.link_record.specs.Record.{terminated}
use Rattle.script_rules.specs.Finish.{with_link, finish}
use Rattle.script_rules.specs.Send.{until, send, request}
use Rattle.script_rules.specs.Discovery.{discover_services, discover_characteristics}
use Rattle.script_rules.specs.declared.Alone.{Alone}
use Rattle.script_rules.specs.declared.Alone.TheVariants as alone
use Rattle.script_rules.specs.Wait.{check_wait}
use Rattle.gatt_characteristics.specs.declared.Characteristic.{Characteristic}
use Rattle.gatt_services.specs.declared.Service.{Service}

-- the step ends at once, with no value
abbrev pub ends : Held → Micros → StepStatus → Held
ends h at status = finish h at status held_at 0 0

-- the step runs until its milliseconds are over
abbrev pub waits_for : Held → Micros → Millis → Held
waits_for h at ms = on_state h (with_running h.state (until h.state.running (deadline at ms)))

-- ---- with no link

-- a scan, a wait and a connect run for their milliseconds; the capture steps are done; every other step needs a link
abbrev pub unlinked_step : Step → Alone
unlinked_step (Scan ms) = alone.Runs ms
unlinked_step (Connect target interval latency timeout ms) = alone.Runs ms
unlinked_step (ExchangeMtu mtu) = alone.NeedsLink
unlinked_step DiscoverServices = alone.NeedsLink
unlinked_step (DiscoverCharacteristics service) = alone.NeedsLink
unlinked_step (Subscribe characteristic indicate) = alone.NeedsLink
unlinked_step (Write characteristic response) = alone.NeedsLink
unlinked_step (Read characteristic) = alone.NeedsLink
unlinked_step (WaitNotification characteristic ms age) = alone.NeedsLink
unlinked_step (Wait ms) = alone.Runs ms
unlinked_step Disconnect = alone.NeedsLink
unlinked_step (Capture enabled) = alone.Done
unlinked_step (CaptureSecrets secrets) = alone.Done

unfoldable pub start_alone : Held → Micros → Alone → Held
start_alone h at (alone.Runs ms) = waits_for h at ms
start_alone h at alone.Done = ends h at Ok
start_alone h at alone.NeedsLink = ends h at NotConnected

abbrev pub start_unlinked : Held → Micros → Step → Held
start_unlinked h at step = start_alone h at (unlinked_step step)

-- ---- with a link

-- nothing is known of the peer
abbrev pub forgotten : Central → Central
forgotten c = with_characteristics (with_services c (service.cleared c.services)) (characteristic.cleared c.characteristics)

-- the characteristics of a service that is known, or else the services first
unfoldable pub discover_in : World → Micros → Option Service → World
discover_in w at (Some svc) = discover_characteristics w at svc svc.start
discover_in w at None = discover_services w at 1

-- the value of the client characteristic configuration, Core Vol 3 Part G 3.3.3.3: 1 notifications, 2 indications
abbrev pub configuration : Bool → List ℕ
configuration true = 0x02 ∷ 0x00 ∷ []
configuration false = 0x01 ∷ 0x00 ∷ []

-- by where the descriptor stands
unfoldable pub subscribe_at : World → Micros → Bool → Option ℕ → World
subscribe_at w at indicate None = on_held w (ends w.held at NotFound)
subscribe_at w at indicate (Some handle) = request w at (write_req handle (configuration indicate))

unfoldable pub subscribe : World → Micros → Bool → Option Characteristic → World
subscribe w at indicate None = on_held w (ends w.held at NotFound)
subscribe w at indicate (Some x) = subscribe_at w at indicate x.cccd

-- n bytes of the running step's value go out as a command, and that is all
abbrev pub commanded : World → Micros → ℕ → ℕ → World
commanded w at handle n =
    record { held = ends w.held at Ok; told = send w.told cid_att (att_pdu op_write_cmd handle w.held.store running_at n) }

-- a value and its 3 bytes in front are within the MTU, or too long
unfoldable pub write : World → Micros → Bool → Option Characteristic → World
write w at response None = on_held w (ends w.held at NotFound)
write w at response (Some x) =
    pick (ltb w.held.state.bearer.link.mtu (w.held.state.running.len + 3))
    (on_held w (ends w.held at TooLong))
    (pick response
    (request w at (att_pdu op_write_req x.value_handle w.held.store running_at w.held.state.running.len))
    (commanded w at x.value_handle w.held.state.running.len))

unfoldable pub read : World → Micros → Option Characteristic → World
read w at None = on_held w (ends w.held at NotFound)
read w at (Some x) = request w at (read_req x.value_handle)

-- Remote User Terminated Connection, Core Vol 1 Part F 1.3
abbrev pub remote_user_terminated : ℕ
remote_user_terminated = 0x13

abbrev pub asks_to : Told → Told
asks_to t = record { sent = record { frames = t.sent.frames; bytes = t.sent.bytes; request = Some (Terminate remote_user_terminated) }; out = t.out }

-- the link is asked to end, once
unfoldable pub disconnect : World → World
disconnect w =
    let c = w.held.state in
    pick c.bearer.link.terminating
    w
    (record { held = on_state w.held (with_bearer c (with_link c.bearer (terminated c.bearer.link))); told = asks_to w.told })

abbrev pub named : World → Uuid → Option Characteristic
named w u = characteristic.characteristic_with u (characteristic.known w.held.state.characteristics)

unfoldable pub start_linked : World → Micros → Step → World
start_linked w at (Scan ms) = on_held w (waits_for w.held at ms)
start_linked w at (Connect target interval latency timeout ms) = on_held w (ends w.held at Ok)
start_linked w at (ExchangeMtu mtu) = request w at (exchange_mtu_req (max mtu default_mtu))
start_linked w at DiscoverServices = discover_services (on_held w (on_state w.held (forgotten w.held.state))) at 1
start_linked w at (DiscoverCharacteristics u) = discover_in w at (service.service_with u (service.known w.held.state.services))
start_linked w at (Subscribe u indicate) = subscribe w at indicate (named w u)
start_linked w at (Write u response) = write w at response (named w u)
start_linked w at (Read u) = read w at (named w u)
start_linked w at (WaitNotification u ms age) = on_held w (check_wait (waits_for w.held at ms) at)
start_linked w at (Wait ms) = on_held w (waits_for w.held at ms)
start_linked w at Disconnect = disconnect w
start_linked w at (Capture enabled) = on_held w (ends w.held at Ok)
start_linked w at (CaptureSecrets secrets) = on_held w (ends w.held at Ok)

-- how many bytes of a step's value may go out
abbrev pub carried : Step → ℕ → ℕ
carried step n = pick (carries step) n 0

-- ---- on a bearer that an ATT timeout has closed (02, Four; Core Vol 3 Part F 3.3.3)

-- a step that could send ATT; in the old mode none, whatever the flag says
abbrev pub barred : Options → Bearer → Step → Bool
barred o b step = o.strict && (b.closed && att_step step)

-- it ends at once, before any lookup and before a discovery forgets what is known; every other step begins
unfoldable pub start_on : World → Micros → Step → World
start_on w at step =
    let c = w.held.state in
    pick (barred c.options c.bearer step) (on_held w (ends w.held at BearerClosed)) (start_linked w at step)

-- ---- either

unfoldable pub start : World → Micros → World
start w at =
    let c = w.held.state in
    pick c.bearer.present (start_on w at c.running.step) (on_held w (start_unlinked w.held at c.running.step))
