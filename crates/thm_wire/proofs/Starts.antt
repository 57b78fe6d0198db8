-- What a step that begins sends: nothing, or one frame.
use Rattle.std.specs.Prelude.{Option, Some, None}
use Prim.Native.Nat.{ℕ, ◌+◌, ◌≤◌, max}
use mathlib.Core.Path.{◌≡◌, refl}
use mathlib.Core.Bool.{Bool, true, false, ◌||◌}
use mathlib.Core.List.{List, [], ◌∷◌}
use native.Mathlib.Omega.{arith}
use lib.ListN.{length, take, drop, length-take, length-append}
use lib.Dec.{eqb, ltb}
use borrow.Author.Tests.{ltb-false}
use Rattle.bytes_base.specs.Choice.{pick}
use Rattle.bytes_base.specs.Bytes.{le_bytes}
use Rattle.bytes_base.proofs.ByteLaws.{length-le_bytes}
use Rattle.state_places.specs.Sizes.{running_at}
use Rattle.time.specs.declared.Micros.{Micros}
use Rattle.l2cap.specs.Frame.{att_pdu}
use Rattle.att_pdu.specs.Numbers.{op_write_req, op_write_cmd}
use Rattle.att_pdu.specs.Pdu.{write_req}
use Rattle.att_pdu.proofs.PduLaws.{length-exchange_mtu_req, length-find_information_req, length-read_by_type_req, length-read_by_group_type_req, length-read_req}
use Rattle.gatt_services.specs.declared.Service.{Service}
use Rattle.gatt_descriptors.specs.Range.{descriptor_range}
use Rattle.state.specs.declared.Step.{Step}
use Rattle.state.specs.declared.Step.TheVariants.{Scan, Connect, ExchangeMtu, DiscoverServices, DiscoverCharacteristics, Subscribe, Write, Read, WaitNotification, Wait, Disconnect, Capture, CaptureSecrets}
use Rattle.state.specs.declared.StepStatus.TheVariants.{TooLong, BearerClosed}
use Rattle.state_rules.specs.Steps.{default_mtu}
use Rattle.script_rules.specs.World.{World, on_held, on_state}
use Rattle.script_rules.specs.Send.{request}
use Rattle.script_rules.specs.Discovery.{primary_service, characteristic_type, last_handle, asking, discover_services, ask_range, discover_descriptors, discover_characteristics}
use Rattle.script_rules.specs.Start.{ends, start_unlinked, forgotten, discover_in, configuration, subscribe_at, subscribe, commanded, write, read, disconnect, start_linked, barred, start_on, start}
use Rattle.thm_wire.specs.Wire.{mtu_of}
use Rattle.thm_wire.proofs.Sends.{Sends, quiet, nothing, either, Mtu, sends-att, sends-request}
use Rattle.gatt_characteristics.specs.declared.Characteristic.{Characteristic}

-- ---- discovery's requests: 7 bytes at most

module _ (m : ℕ) (k : Mtu m) (w : World) (at : Micros) where
  pub sends-services : (from : ℕ) → Sends m w.told (discover_services w at from).told
  unfolding discover_services
  sends-services from = sends-request m (asking w 0 from) at _ k (omega (arith, k.low, length-read_by_group_type_req from last_handle primary_service))

  sends-range : (r : Option (ℕ × ℕ)) → Sends m w.told (ask_range w at r).told
  unfolding ask_range
  sends-range None = nothing m w.told
  sends-range (Some (start, end)) = sends-request m (asking w 2 start) at _ k (omega (arith, k.low, length-find_information_req start end))

  pub sends-descriptors : (svc : Service) (from : ℕ) → Sends m w.told (discover_descriptors w at svc from).told
  unfolding discover_descriptors
  sends-descriptors svc from = sends-range (descriptor_range w.held.state.characteristics svc.start svc.end from)

  pub sends-characteristics : (svc : Service) (from : ℕ) → Sends m w.told (discover_characteristics w at svc from).told
  unfolding discover_characteristics
  sends-characteristics svc from =
      either (ltb svc.end from || eqb from 0) _ _
      (sends-descriptors svc svc.start)
      (sends-request m (asking w 1 from) at _ k (omega (arith, k.low, length-read_by_type_req from svc.end characteristic_type)))

-- ---- each step

-- a PDU with a value of n bytes has 3 more
value-pdu : (opcode handle : ℕ) (value : List ℕ) (from n : ℕ) → length (att_pdu opcode handle value from n) ≤ n + 3
value-pdu opcode handle value from n =
    omega (arith, length-append (le_bytes 2 handle) (take n (drop from value)), length-le_bytes 2 handle, length-take n (drop from value))

module _ (m : ℕ) (k : Mtu m) (w : World) (at : Micros) where
  sends-in : (x : Option Service) → Sends m w.told (discover_in w at x).told
  unfolding discover_in
  sends-in (Some svc) = sends-characteristics m k w at svc svc.start
  sends-in None = sends-services m k w at 1

  sends-subscribe-at : (indicate : Bool) (x : Option ℕ) → Sends m w.told (subscribe_at w at indicate x).told
  unfolding subscribe_at
  sends-subscribe-at indicate None = nothing m w.told
  sends-subscribe-at indicate (Some handle) = sends-request m w at _ k (configured handle indicate)
    where
      configured : (handle : ℕ) (b : Bool) → length (write_req handle (configuration b)) ≤ m
      configured handle true = omega (arith, k.low, length-append (le_bytes 2 handle) (2 ∷ 0 ∷ []), length-le_bytes 2 handle)
      configured handle false = omega (arith, k.low, length-append (le_bytes 2 handle) (1 ∷ 0 ∷ []), length-le_bytes 2 handle)

  sends-subscribe : (indicate : Bool) (x : Option Characteristic) → Sends m w.told (subscribe w at indicate x).told
  unfolding subscribe
  sends-subscribe indicate None = nothing m w.told
  sends-subscribe indicate (Some x) = sends-subscribe-at indicate x.cccd

  sends-read : (x : Option Characteristic) → Sends m w.told (read w at x).told
  unfolding read
  sends-read None = nothing m w.told
  sends-read (Some x) = sends-request m w at _ k (omega (arith, k.low, length-read_req x.value_handle))

  -- what is too long is not sent
  sends-write : w.held.state.bearer.link.mtu ≡ m → (response : Bool) (x : Option Characteristic) → Sends m w.told (write w at response x).told
  unfolding write
  sends-write e response None = nothing m w.told
  sends-write e response (Some x) = go (ltb w.held.state.bearer.link.mtu (n + 3)) refl response
    where
      n : ℕ
      n = w.held.state.running.len

      go : (b : Bool) → ltb w.held.state.bearer.link.mtu (n + 3) ≡ b → (c : Bool)
          → Sends m w.told
          (pick b (on_held w (ends w.held at TooLong)) (pick c (request w at (att_pdu op_write_req x.value_handle w.held.store running_at n)) (commanded w at x.value_handle n))).told
      go true f c = nothing m w.told
      go false f true =
          sends-request m w at _ k
          (omega (arith, e, ltb-false w.held.state.bearer.link.mtu (n + 3) f, value-pdu op_write_req x.value_handle w.held.store running_at n))
      go false f false =
          sends-att m w.told _ k
          (omega (arith, e, ltb-false w.held.state.bearer.link.mtu (n + 3) f, value-pdu op_write_cmd x.value_handle w.held.store running_at n))

  sends-disconnect : Sends m w.told (disconnect w).told
  unfolding disconnect
  sends-disconnect = either w.held.state.bearer.link.terminating _ _ (nothing m w.told) (quiet (record { frames = refl; bytes = refl; out = refl }))

  sends-linked : w.held.state.bearer.link.mtu ≡ m → (s : Step) → Sends m w.told (start_linked w at s).told
  unfolding start_linked
  sends-linked e (Scan ms) = nothing m w.told
  sends-linked e (Connect target interval latency timeout ms) = nothing m w.told
  sends-linked e (ExchangeMtu mtu) = sends-request m w at _ k (omega (arith, k.low, length-exchange_mtu_req (max mtu default_mtu)))
  sends-linked e DiscoverServices = sends-services m k (on_held w (on_state w.held (forgotten w.held.state))) at 1
  sends-linked e (DiscoverCharacteristics u) = sends-in _
  sends-linked e (Subscribe u indicate) = sends-subscribe indicate _
  sends-linked e (Write u response) = sends-write e response _
  sends-linked e (Read u) = sends-read _
  sends-linked e (WaitNotification u ms age) = nothing m w.told
  sends-linked e (Wait ms) = nothing m w.told
  sends-linked e Disconnect = sends-disconnect
  sends-linked e (Capture enabled) = nothing m w.told
  sends-linked e (CaptureSecrets secrets) = nothing m w.told

-- with no link, nothing
pub sends-start : (w : World) (at : Micros) → (w.held.state.bearer.present ≡ true → Mtu w.held.state.bearer.link.mtu) → Sends (mtu_of w) w.told (start w at).told
unfolding start start_on
sends-start w at k = go w.held.state.bearer.present refl (barred w.held.state.options w.held.state.bearer s)
  where
    s : Step
    s = w.held.state.running.step

    m : ℕ
    m = w.held.state.bearer.link.mtu

    go : (b : Bool) → w.held.state.bearer.present ≡ b → (c : Bool) → Sends (pick b m 0) w.told (pick b (pick c (on_held w (ends w.held at BearerClosed)) (start_linked w at s)) (on_held w (start_unlinked w.held at s))).told
    go true e true = nothing m w.told
    go true e false = sends-linked m (k e) w at refl s
    go false e c = nothing 0 w.told
