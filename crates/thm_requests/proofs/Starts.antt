-- What a step that begins does to the request that is awaited.
use Rattle.std.specs.Prelude.{Option, Some, None}
use Prim.Native.Nat.{ℕ, ◌+◌, ◌≤◌, max}
use mathlib.Core.Path.{◌≡◌, refl}
use mathlib.Core.Bool.{Bool, true, false, ◌||◌, false≢true}
use mathlib.Core.List.{List, [], ◌∷◌}
use native.Mathlib.Omega.{arith}
use lib.ListN.{length}
use lib.Dec.{eqb, ltb}
use Rattle.bytes_base.specs.Choice.{pick}
use Rattle.state_places.specs.Sizes.{held_at, running_at}
use Rattle.time.specs.declared.Micros.{Micros}
use Rattle.notifications.specs.declared.Age.{Age}
use Rattle.notifications.specs.declared.Wanted.{Wanted}
use Rattle.gatt_services.specs.declared.Service.{Service}
use Rattle.gatt_descriptors.specs.Range.{descriptor_range}
use Rattle.state.specs.Central.{with_counters, with_bearer}
use Rattle.state.specs.declared.Step.{Step}
use Rattle.state.specs.declared.Step.TheVariants.{Scan, Connect, ExchangeMtu, DiscoverServices, DiscoverCharacteristics, Subscribe, Write, Read, WaitNotification, Wait, Disconnect, Capture, CaptureSecrets}
use Rattle.state.specs.declared.StepStatus.{StepStatus}
use Rattle.state.specs.declared.StepStatus.TheVariants.{Ok, TooLong, BearerClosed}
use Rattle.script_rules.specs.World.{Held, World, on_held, on_state}
use Rattle.script_rules.specs.Finish.{ended, finish, with_link}
use Rattle.script_rules.specs.Send.{request}
use Rattle.l2cap.specs.Frame.{att_pdu}
use Rattle.att_pdu.specs.Numbers.{op_write_req}
use Rattle.att_pdu.specs.Pdu.{read_by_type_req}
use Rattle.script_rules.specs.Discovery.{characteristic_type, asking, discover_services, ask_range, discover_descriptors, discover_characteristics}
use Rattle.script_rules.specs.declared.Alone.{Alone}
use Rattle.script_rules.specs.declared.Alone.TheVariants as alone
use Rattle.script_rules.specs.declared.Awaited.{Awaited}
use Rattle.std.specs.Prelude.{Option, Some, None}
use Rattle.script_rules.specs.Wait.{wanted, wait_passes, passed_on, passed, passing, check_one, awaited, check_for, check_wait}
use Rattle.script_rules.specs.Start.{ends, waits_for, unlinked_step, start_alone, start_unlinked, forgotten, discover_in, subscribe_at, subscribe, commanded, write, read, terminated, asks_to, disconnect, start_linked, barred, start_on, start}
use Rattle.script_rules.specs.Send.{send}
use Rattle.l2cap.specs.Numbers.{cid_att}
use Rattle.att_pdu.specs.Numbers.{op_write_cmd}
use Rattle.state_rules.specs.Steps.{default_mtu, most_mtu}
use Rattle.script_rules.specs.Discovery.{last_handle, primary_service}
use Rattle.script_rules.specs.Start.{configuration}
use Rattle.att_pdu.specs.Pdu.{write_req}
use Rattle.bytes_base.specs.Bytes.{le_bytes}
use lib.ListN.{take, drop, length-append, length-take}
use borrow.Author.Tests.{ltb-false}
use Rattle.bytes_base.proofs.ByteLaws.{length-le_bytes}
use Rattle.att_pdu.proofs.PduLaws.{length-exchange_mtu_req, length-find_information_req, length-read_by_type_req, length-read_by_group_type_req, length-read_req}
use Rattle.thm_requests.proofs.Asks.{itself, speaks, Asks, calm, none, hushed, asks_none, mild, asks-then, asks-finish, asks-request, asks-asking, not-awaited}
use Rattle.gatt_characteristics.specs.declared.Characteristic.{Characteristic}

pub asks-ends : (w : World) (at : Micros) (st : StepStatus) → Asks w (on_held w (ends w.held at st))
asks-ends w at st = asks-finish w at st held_at 0 0

-- ---- discovery

pub asks-services : (w : World) (at : Micros) (from : ℕ) → w.held.state.running.active ≡ true → Asks w (discover_services w at from)
unfolding discover_services
asks-services w at from a = asks-asking w 0 from at _ a (omega (arith, length-read_by_group_type_req from last_handle primary_service)) refl

asks-range : (w : World) (at : Micros) (r : Option (ℕ × ℕ)) → w.held.state.running.active ≡ true → Asks w (ask_range w at r)
unfolding ask_range
asks-range w at None a = asks-ends w at Ok
asks-range w at (Some (start, end)) a = asks-asking w 2 start at _ a (omega (arith, length-find_information_req start end)) refl

pub asks-descriptors : (w : World) (at : Micros) (svc : Service) (from : ℕ) → w.held.state.running.active ≡ true → Asks w (discover_descriptors w at svc from)
unfolding discover_descriptors
asks-descriptors w at svc from a = asks-range w at (descriptor_range w.held.state.characteristics svc.start svc.end from) a

pub asks-characteristics : (w : World) (at : Micros) (svc : Service) (from : ℕ) → w.held.state.running.active ≡ true → Asks w (discover_characteristics w at svc from)
unfolding discover_characteristics
asks-characteristics w at svc from a = go (ltb svc.end from || eqb from 0)
  where
    go : (b : Bool) → Asks w (pick b (discover_descriptors w at svc svc.start) (request (asking w 1 from) at (read_by_type_req from svc.end characteristic_type)))
    go true = asks-descriptors w at svc svc.start a
    go false = asks-asking w 1 from at _ a (omega (arith, length-read_by_type_req from svc.end characteristic_type)) refl

-- ---- the wait check

asks-passing : (w : World) (at : Micros) (x : Wanted) → Asks w (on_held w (passing w.held at x))
asks-passing w at x =
    let g = on_state w.held (with_counters w.held.state (passed w.held.state.counters)) in
    asks-then (mild {w = w} {g = g} refl refl refl refl) (asks-finish (on_held w g) at Ok held_at 0 (passed_on w.held.state x x.age))

asks-one : (w : World) (at : Micros) (age : Age) (x : Option Characteristic) → Asks w (on_held w (check_one w.held at age x))
unfolding check_one
asks-one w at age None = asks-finish w at _ held_at 0 0
asks-one w at age (Some x) = let y = wanted w.held.state at x.value_handle age in go y (wait_passes w.held y)
  where
    go : (y : Wanted) (b : Bool) → Asks w (on_held w (pick b (passing w.held at y) w.held))
    go y true = asks-passing w at y
    go y false = asks_none w

asks-for : (w : World) (at : Micros) (x : Option Awaited) → Asks w (on_held w (check_for w.held at x))
unfolding check_for
asks-for w at None = asks_none w
asks-for w at (Some a) = asks-one w at a.age _

pub asks-check : (w : World) (at : Micros) → Asks w (on_held w (check_wait w.held at))
unfolding check_wait
asks-check w at = go w.held.state.running.active
  where
    go : (b : Bool) → Asks w (on_held w (pick b (check_for w.held at (awaited w.held.state.running.step)) w.held))
    go true = asks-for w at (awaited w.held.state.running.step)
    go false = asks_none w

-- ---- lengths

value-pdu : (opcode handle : ℕ) (value : List ℕ) (from n : ℕ) → length (att_pdu opcode handle value from n) ≤ n + 3
value-pdu opcode handle value from n =
    omega (arith, length-append (le_bytes 2 handle) (take n (drop from value)), length-le_bytes 2 handle, length-take n (drop from value))

configured : (handle : ℕ) (b : Bool) → length (write_req handle (configuration b)) ≤ most_mtu
configured handle true = omega (arith, length-append (le_bytes 2 handle) (2 ∷ 0 ∷ []), length-le_bytes 2 handle)
configured handle false = omega (arith, length-append (le_bytes 2 handle) (1 ∷ 0 ∷ []), length-le_bytes 2 handle)

-- ---- each step

asks-alone : (w : World) (at : Micros) (x : Alone) → Asks w (on_held w (start_alone w.held at x))
unfolding start_alone
asks-alone w at (alone.Runs ms) = calm (mild refl refl refl refl)
asks-alone w at alone.Done = asks-ends w at _
asks-alone w at alone.NeedsLink = asks-ends w at _

module _ (w : World) (at : Micros) (a : w.held.state.running.active ≡ true) (hi : w.held.state.bearer.link.mtu ≤ most_mtu) where
  asks-in : (x : Option Service) → Asks w (discover_in w at x)
  unfolding discover_in
  asks-in (Some svc) = asks-characteristics w at svc svc.start a
  asks-in None = asks-services w at 1 a

  asks-subscribe-at : (indicate : Bool) (x : Option ℕ) → Asks w (subscribe_at w at indicate x)
  unfolding subscribe_at
  asks-subscribe-at indicate None = asks-ends w at _
  asks-subscribe-at indicate (Some handle) = asks-request w at _ a (configured handle indicate) refl

  asks-subscribe : (indicate : Bool) (x : Option Characteristic) → Asks w (subscribe w at indicate x)
  unfolding subscribe
  asks-subscribe indicate None = asks-ends w at _
  asks-subscribe indicate (Some x) = asks-subscribe-at indicate x.cccd

  -- a command is no request, and its step ends
  asks-commanded : (handle n : ℕ) → n + 3 ≤ most_mtu → Asks w (commanded w at handle n)
  unfolding finish ended
  asks-commanded handle n k = go w.held.state.running.active a
    where
      go : (b : Bool) → b ≡ true → Asks w (record { held = pick b (ended w.held at Ok held_at 0 0) w.held; told = send w.told cid_att (att_pdu op_write_cmd handle w.held.store running_at n) })
      go true e =
          let pdu = att_pdu op_write_cmd handle w.held.store running_at n in
          none (not-awaited w.held.state.bearer.present)
          (speaks cid_att pdu (omega arith) (omega (arith, k, value-pdu op_write_cmd handle w.held.store running_at n)) refl (itself (send w.told cid_att pdu)))
      go false e = absurd (false≢true e)

  asks_write : (response : Bool) (x : Option Characteristic) → Asks w (write w at response x)
  unfolding write
  asks_write response None = asks-ends w at _
  asks_write response (Some x) = go (ltb w.held.state.bearer.link.mtu (w.held.state.running.len + 3)) refl response
    where
      n : ℕ
      n = w.held.state.running.len

      go : (b : Bool) → ltb w.held.state.bearer.link.mtu (n + 3) ≡ b → (c : Bool)
          → Asks w
          (pick b (on_held w (ends w.held at TooLong)) (pick c (request w at (att_pdu op_write_req x.value_handle w.held.store running_at n)) (commanded w at x.value_handle n)))
      go true e c = asks-ends w at TooLong
      go false e true =
          asks-request w at _ a
          (omega (arith, hi, ltb-false w.held.state.bearer.link.mtu (n + 3) e, value-pdu op_write_req x.value_handle w.held.store running_at n)) refl
      go false e false = asks-commanded x.value_handle n (omega (arith, hi, ltb-false w.held.state.bearer.link.mtu (n + 3) e))

  asks_read : (x : Option Characteristic) → Asks w (read w at x)
  unfolding read
  asks_read None = asks-ends w at _
  asks_read (Some x) = asks-request w at _ a (omega (arith, length-read_req x.value_handle)) refl

  asks-disconnect : Asks w (disconnect w)
  unfolding disconnect
  asks-disconnect = go w.held.state.bearer.link.terminating
    where
      g : Held
      g = on_state w.held (with_bearer w.held.state (with_link w.held.state.bearer (terminated w.held.state.bearer.link)))

      go : (b : Bool) → Asks w (pick b w (record { held = g; told = asks_to w.told }))
      go true = asks_none w
      go false = calm (record { pending = refl; present = refl; active = refl; index = refl; voice = hushed (record { frames = refl; bytes = refl; out = refl }) })

  asks-linked : (s : Step) → Asks w (start_linked w at s)
  unfolding start_linked
  asks-linked (Scan ms) = calm (mild refl refl refl refl)
  asks-linked (Connect target interval latency timeout ms) = asks-ends w at Ok
  asks-linked (ExchangeMtu mtu) = asks-request w at _ a (omega (arith, length-exchange_mtu_req (max mtu default_mtu))) refl
  asks-linked DiscoverServices =
      let g = on_state w.held (forgotten w.held.state) in
      asks-then (mild {w = w} {g = g} refl refl refl refl) (asks-services (on_held w g) at 1 a)
  asks-linked (DiscoverCharacteristics u) = asks-in _
  asks-linked (Subscribe u indicate) = asks-subscribe indicate _
  asks-linked (Write u response) = asks_write response _
  asks-linked (Read u) = asks_read _
  asks-linked (WaitNotification u ms age) = asks-then (mild {w = w} {g = waits_for w.held at ms} refl refl refl refl) (asks-check (on_held w (waits_for w.held at ms)) at)
  asks-linked (Wait ms) = calm (mild refl refl refl refl)
  asks-linked Disconnect = asks-disconnect
  asks-linked (Capture enabled) = asks-ends w at Ok
  asks-linked (CaptureSecrets secrets) = asks-ends w at Ok

pub asks-start : (w : World) (at : Micros) → w.held.state.running.active ≡ true → (w.held.state.bearer.present ≡ true → w.held.state.bearer.link.mtu ≤ most_mtu)
    → Asks w (start w at)
unfolding start start_on
asks-start w at a hi = go w.held.state.bearer.present refl (barred w.held.state.options w.held.state.bearer s)
  where
    s : Step
    s = w.held.state.running.step

    go : (b : Bool) → w.held.state.bearer.present ≡ b → (c : Bool) → Asks w (pick b (pick c (on_held w (ends w.held at BearerClosed)) (start_linked w at s)) (on_held w (start_unlinked w.held at s)))
    go true e true = asks-ends w at BearerClosed
    go true e false = asks-linked w at a (hi e) s
    go false e c = asks-alone w at (unlinked_step s)
