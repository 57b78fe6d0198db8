-- The wait check, discovery's requests and what a step does when it begins are blind to dead places.
use Rattle.std.specs.Prelude.{Option, Some, None}
use Prim.Native.Nat.{ℕ, ◌+◌, ◌-◌, max}
use mathlib.Core.Path.{◌≡◌, refl, sym, ap, ◌∙◌}
use mathlib.Core.Bool.{Bool, ◌||◌}
use mathlib.Core.List.{List, []}
use lib.ListN.{drop}
use lib.Dec.{eqb, ltb}
use Rattle.bytes_base.specs.Choice.{pick}
use Rattle.lists.specs.Blocks.{bytes}
use Rattle.state_places.specs.Sizes.{running_at, held_at}
use Rattle.time.specs.declared.Micros.{Micros}
use Rattle.time.specs.declared.Millis.{Millis}
use Rattle.l2cap.specs.Numbers.{cid_att}
use Rattle.l2cap.specs.Frame.{att_pdu}
use Rattle.att_pdu.specs.Numbers.{op_write_req, op_write_cmd}
use Rattle.att_pdu.specs.Pdu.{exchange_mtu_req, read_req, write_req, read_by_type_req, read_by_group_type_req, find_information_req}
use Rattle.uuid_value.specs.declared.Uuid.{Uuid}
use Rattle.gatt_services.specs.Service as service
use Rattle.gatt_services.specs.declared.Service.{Service}
use Rattle.gatt_characteristics.specs.Characteristic as characteristic
use Rattle.gatt_characteristics.specs.declared.Characteristic.{Characteristic}
use Rattle.gatt_descriptors.specs.Range.{declared_in, first_range, descriptor_range}
use Rattle.notifications.specs.declared.Notification.{Notification}
use Rattle.notifications.specs.declared.Wanted.{Wanted}
use Rattle.notifications.specs.declared.Age.{Age}
use Rattle.notifications.specs.declared.Age.TheVariants.{Any, Within}
use Rattle.notifications.specs.Kept.{heard}
use Rattle.notifications.specs.Wait.{passes, newest_counted}
use Rattle.state.specs.Central.{Central, with_counters, with_bearer, with_services, with_characteristics}
use Rattle.state.specs.declared.Step.{Step}
use Rattle.state.specs.declared.Step.TheVariants.{Scan, Connect, ExchangeMtu, DiscoverServices, DiscoverCharacteristics, Subscribe, Write, Read, WaitNotification, Wait}
use Rattle.state.specs.declared.Step.TheVariants.{Disconnect, Capture, CaptureSecrets}
use Rattle.state.specs.declared.StepStatus.TheVariants.{Ok, NotConnected, NotFound, TooLong, BearerClosed}
use Rattle.state_rules.specs.Steps.{default_mtu}
use Rattle.script_rules.specs.World.{Held, World, on_held, on_state}
use Rattle.script_rules.specs.Finish.{with_link, finish}
use Rattle.script_rules.specs.Send.{request, send}
use Rattle.script_rules.specs.Discovery.{last_handle, primary_service, characteristic_type, asking, discover_services, ask_range, discover_descriptors, discover_characteristics}
use Rattle.script_rules.specs.declared.Alone.{Alone}
use Rattle.script_rules.specs.declared.Alone.TheVariants as alone
use Rattle.script_rules.specs.declared.Awaited.{Awaited}
use Rattle.std.specs.Prelude.{Option, Some, None}
use Rattle.script_rules.specs.Wait.{wanted, skipped, wait_passes, passed_on, passed, passing, check_one, awaited, check_for, check_wait}
use Rattle.script_rules.specs.Start.{ends, waits_for, unlinked_step, start_alone, start_unlinked, forgotten, discover_in, configuration, subscribe_at, subscribe, commanded, write, read}
use Rattle.script_rules.specs.Start.{terminated, asks_to, disconnect, named, start_linked, barred, start_on, start}
use Rattle.thm_reading.specs.Live.{live}
use Rattle.thm_reading.proofs.Tables.{cut_twice, live-twice}
use Rattle.thm_reading.proofs.Blind.{cut, cut_world, held-twice, world-twice, pick-if, pick-both}
use Rattle.thm_reading.proofs.Turns.{finish-blind, finish-world, waits-blind, request-blind}

-- ---- what is looked up in a table

-- the characteristic of a UUID, by which the work goes on
pub by-characteristic : {X : Type 0} (f : Option Characteristic → X) (c : Central) (u : Uuid)
    → f (characteristic.characteristic_with u (characteristic.known c.characteristics))
    ≡ f (characteristic.characteristic_with u (characteristic.known (live c).characteristics))
by-characteristic f c u =
    ap (λ (l : List Characteristic). f (characteristic.characteristic_with u l)) (sym (cut_twice c.characteristics.count c.characteristics.kept))

pub by-service : {X : Type 0} (f : Option Service → X) (c : Central) (u : Uuid)
    → f (service.service_with u (service.known c.services)) ≡ f (service.service_with u (service.known (live c).services))
by-service f c u = ap (λ (l : List Service). f (service.service_with u l)) (sym (cut_twice c.services.count c.services.kept))

pub by-range : {X : Type 0} (f : Option (ℕ × ℕ) → X) (c : Central) (start end from : ℕ)
    → f (descriptor_range c.characteristics start end from) ≡ f (descriptor_range (live c).characteristics start end from)
by-range f c start end from =
    ap (λ (l : List Characteristic). f (first_range from end (declared_in start end l))) (sym (cut_twice c.characteristics.count c.characteristics.kept))

-- ---- the wait check

-- what an aged wait passes on
passed-on-blind : (c : Central) (w : Wanted) (age : Age) → passed_on c w age ≡ passed_on (live c) w age
passed-on-blind c w Any = refl
passed-on-blind c w (Within age) =
    ap (λ (l : List Notification). newest_counted w (c.counters.notified - c.notifications.count + skipped c) 0 (drop (skipped c) l))
    (sym (cut_twice c.notifications.count c.notifications.kept))

module _ (at : Micros) where
  passing-blind : (h : Held) (w : Wanted) → cut (passing h at w) ≡ cut (passing (cut h) at w)
  passing-blind h w =
      let past : Held → Held = λ g. on_state g (with_counters g.state (passed g.state.counters)) in
      finish-blind (past h) at Ok held_at 0 (passed_on h.state w w.age)
      ∙ ap (λ (n : ℕ). cut (finish (past (cut h)) at Ok held_at 0 n)) (passed-on-blind h.state w w.age)

  check-one-blind : (h : Held) (age : Age) (x : Option Characteristic) → cut (check_one h at age x) ≡ cut (check_one (cut h) at age x)
  unfolding check_one
  check-one-blind h age None = finish-blind h at NotFound held_at 0 0
  check-one-blind h age (Some x) =
      pick-if cut (wait_passes h w) (wait_passes (cut h) w) (passing h at w) h (passing (cut h) at w) (cut h) same (λ e. passing-blind h w) (held-twice h)
    where
      c : Central
      c = h.state

      w : Wanted
      w = wanted c at x.value_handle age

      same : wait_passes h w ≡ wait_passes (cut h) w
      same =
          ap (λ (l : List Notification). passes w (drop (skipped c) (heard h.store l)) (bytes h.store running_at c.running.len))
          (sym (cut_twice c.notifications.count c.notifications.kept))

  check-for-blind : (h : Held) (a : Option Awaited) → cut (check_for h at a) ≡ cut (check_for (cut h) at a)
  unfolding check_for
  check-for-blind h None = held-twice h
  check-for-blind h (Some a) =
      check-one-blind h a.age (characteristic.characteristic_with a.characteristic (characteristic.known h.state.characteristics))
      ∙ by-characteristic (λ x. cut (check_one (cut h) at a.age x)) h.state a.characteristic

  pub check-blind : (h : Held) → cut (check_wait h at) ≡ cut (check_wait (cut h) at)
  unfolding check_wait
  check-blind h =
      pick-both cut h.state.running.active
      (check_for h at (awaited h.state.running.step)) h
      (check_for (cut h) at (awaited h.state.running.step)) (cut h)
      (check-for-blind h (awaited h.state.running.step))
      (held-twice h)

-- ---- discovery's requests

module _ (at : Micros) where
  pub discover-services-blind : (w : World) (from : ℕ) → cut_world (discover_services w at from) ≡ cut_world (discover_services (cut_world w) at from)
  unfolding discover_services
  discover-services-blind w from = request-blind (asking w 0 from) at (read_by_group_type_req from last_handle primary_service)

  ask-range-blind : (w : World) (r : Option (ℕ × ℕ)) → cut_world (ask_range w at r) ≡ cut_world (ask_range (cut_world w) at r)
  unfolding ask_range
  ask-range-blind w None = finish-world w at Ok held_at 0 0
  ask-range-blind w (Some (start, end)) = request-blind (asking w 2 start) at (find_information_req start end)

  pub discover-descriptors-blind : (w : World) (svc : Service) (from : ℕ)
      → cut_world (discover_descriptors w at svc from) ≡ cut_world (discover_descriptors (cut_world w) at svc from)
  unfolding discover_descriptors
  discover-descriptors-blind w svc from =
      ask-range-blind w (descriptor_range w.held.state.characteristics svc.start svc.end from)
      ∙ by-range (λ r. cut_world (ask_range (cut_world w) at r)) w.held.state svc.start svc.end from

  pub discover-characteristics-blind : (w : World) (svc : Service) (from : ℕ)
      → cut_world (discover_characteristics w at svc from) ≡ cut_world (discover_characteristics (cut_world w) at svc from)
  unfolding discover_characteristics
  discover-characteristics-blind w svc from =
      pick-both cut_world (ltb svc.end from || eqb from 0)
      (discover_descriptors w at svc svc.start)
      (request (asking w 1 from) at (read_by_type_req from svc.end characteristic_type))
      (discover_descriptors (cut_world w) at svc svc.start)
      (request (asking (cut_world w) 1 from) at (read_by_type_req from svc.end characteristic_type))
      (discover-descriptors-blind w svc svc.start)
      (request-blind (asking w 1 from) at (read_by_type_req from svc.end characteristic_type))

-- ---- with no link

module _ (at : Micros) where
  start-alone-blind : (h : Held) (a : Alone) → cut (start_alone h at a) ≡ cut (start_alone (cut h) at a)
  unfolding start_alone
  start-alone-blind h (alone.Runs ms) = waits-blind h at ms
  start-alone-blind h alone.Done = finish-blind h at Ok held_at 0 0
  start-alone-blind h alone.NeedsLink = finish-blind h at NotConnected held_at 0 0

  pub start-unlinked-blind : (h : Held) (s : Step) → cut (start_unlinked h at s) ≡ cut (start_unlinked (cut h) at s)
  start-unlinked-blind h s = start-alone-blind h (unlinked_step s)

-- ---- with a link

module _ (at : Micros) where
  -- nothing is known of the peer
  forget-blind : (w : World) → cut_world (discover_services (on_held w (on_state w.held (forgotten w.held.state))) at 1)
      ≡ cut_world (discover_services (on_held (cut_world w) (on_state (cut w.held) (forgotten (live w.held.state)))) at 1)
  forget-blind w =
      let forgets : World → World = λ v. on_held v (on_state v.held (forgotten v.held.state)) in
      discover-services-blind at (forgets w) 1
      ∙ ap (λ v. cut_world (discover_services v at 1)) less
      ∙ sym (discover-services-blind at (forgets (cut_world w)) 1)
    where
      less : cut_world (on_held w (on_state w.held (forgotten w.held.state)))
          ≡ cut_world (on_held (cut_world w) (on_state (cut w.held) (forgotten (live w.held.state))))
      less = λ i.
          record {
            held = record {
              state = with_characteristics (with_services (sym (live-twice w.held.state) i) (record { kept = []; count = 0 })) (record { kept = []; count = 0 });
              store = w.held.store;
            };
            told = w.told;
          }

  discover-in-blind : (w : World) (x : Option Service) → cut_world (discover_in w at x) ≡ cut_world (discover_in (cut_world w) at x)
  unfolding discover_in
  discover-in-blind w (Some svc) = discover-characteristics-blind at w svc svc.start
  discover-in-blind w None = discover-services-blind at w 1

  subscribe-at-blind : (w : World) (indicate : Bool) (x : Option ℕ) → cut_world (subscribe_at w at indicate x) ≡ cut_world (subscribe_at (cut_world w) at indicate x)
  unfolding subscribe_at
  subscribe-at-blind w indicate None = finish-world w at NotFound held_at 0 0
  subscribe-at-blind w indicate (Some handle) = request-blind w at (write_req handle (configuration indicate))

  subscribe-blind : (w : World) (indicate : Bool) (x : Option Characteristic) → cut_world (subscribe w at indicate x) ≡ cut_world (subscribe (cut_world w) at indicate x)
  unfolding subscribe
  subscribe-blind w indicate None = finish-world w at NotFound held_at 0 0
  subscribe-blind w indicate (Some x) = subscribe-at-blind w indicate x.cccd

  command-blind : (w : World) (handle n : ℕ) → cut_world (commanded w at handle n) ≡ cut_world (commanded (cut_world w) at handle n)
  command-blind w handle n = λ i.
      record { held = finish-blind w.held at Ok held_at 0 0 i; told = send w.told cid_att (att_pdu op_write_cmd handle w.held.store running_at n) }

  write-blind : (w : World) (response : Bool) (x : Option Characteristic) → cut_world (write w at response x) ≡ cut_world (write (cut_world w) at response x)
  unfolding write
  write-blind w response None = finish-world w at NotFound held_at 0 0
  write-blind w response (Some x) =
      let n : ℕ = w.held.state.running.len in
      let long : World → World = λ v. on_held v (ends v.held at TooLong) in
      let asks : World → World = λ v. request v at (att_pdu op_write_req x.value_handle v.held.store running_at n) in
      let tells : World → World = λ v. commanded v at x.value_handle n in
      pick-both cut_world (ltb w.held.state.bearer.link.mtu (n + 3))
      (long w) (pick response (asks w) (tells w))
      (long (cut_world w)) (pick response (asks (cut_world w)) (tells (cut_world w)))
      (finish-world w at TooLong held_at 0 0)
      (pick-both cut_world response (asks w) (tells w) (asks (cut_world w)) (tells (cut_world w))
      (request-blind w at (att_pdu op_write_req x.value_handle w.held.store running_at n))
      (command-blind w x.value_handle n))

  read-blind : (w : World) (x : Option Characteristic) → cut_world (read w at x) ≡ cut_world (read (cut_world w) at x)
  unfolding read
  read-blind w None = finish-world w at NotFound held_at 0 0
  read-blind w (Some x) = request-blind w at (read_req x.value_handle)

  disconnect-blind : (w : World) → cut_world (disconnect w) ≡ cut_world (disconnect (cut_world w))
  unfolding disconnect
  disconnect-blind w =
      let parts : World → World = λ v.
      record {
        held = on_state v.held (with_bearer v.held.state (with_link v.held.state.bearer (terminated v.held.state.bearer.link)));
        told = asks_to v.told;
      } in
      pick-both cut_world w.held.state.bearer.link.terminating w (parts w) (cut_world w) (parts (cut_world w)) (world-twice w) (world-twice (parts w))

  held-wait-blind : (w : World) (ms : Millis)
      → cut_world (on_held w (waits_for w.held at ms)) ≡ cut_world (on_held (cut_world w) (waits_for (cut w.held) at ms))
  held-wait-blind w ms = world-twice (on_held w (waits_for w.held at ms))

  start-linked-blind : (w : World) (s : Step) → cut_world (start_linked w at s) ≡ cut_world (start_linked (cut_world w) at s)
  unfolding start_linked
  start-linked-blind w (Scan ms) = held-wait-blind w ms
  start-linked-blind w (Connect target interval latency timeout ms) = finish-world w at Ok held_at 0 0
  start-linked-blind w (ExchangeMtu mtu) = request-blind w at (exchange_mtu_req (max mtu default_mtu))
  start-linked-blind w DiscoverServices = forget-blind w
  start-linked-blind w (DiscoverCharacteristics u) =
      discover-in-blind w (service.service_with u (service.known w.held.state.services))
      ∙ by-service (λ x. cut_world (discover_in (cut_world w) at x)) w.held.state u
  start-linked-blind w (Subscribe u indicate) =
      subscribe-blind w indicate (named w u) ∙ by-characteristic (λ x. cut_world (subscribe (cut_world w) at indicate x)) w.held.state u
  start-linked-blind w (Write u response) =
      write-blind w response (named w u) ∙ by-characteristic (λ x. cut_world (write (cut_world w) at response x)) w.held.state u
  start-linked-blind w (Read u) = read-blind w (named w u) ∙ by-characteristic (λ x. cut_world (read (cut_world w) at x)) w.held.state u
  start-linked-blind w (WaitNotification u ms age) = λ i. record { held = check-blind at (waits_for w.held at ms) i; told = w.told }
  start-linked-blind w (Wait ms) = held-wait-blind w ms
  start-linked-blind w Disconnect = disconnect-blind w
  start-linked-blind w (Capture enabled) = finish-world w at Ok held_at 0 0
  start-linked-blind w (CaptureSecrets secrets) = finish-world w at Ok held_at 0 0

  start-on-blind : (w : World) (s : Step) → cut_world (start_on w at s) ≡ cut_world (start_on (cut_world w) at s)
  unfolding start_on
  start-on-blind w s =
      pick-both cut_world (barred w.held.state.options w.held.state.bearer s)
      (on_held w (ends w.held at BearerClosed)) (start_linked w at s)
      (on_held (cut_world w) (ends (cut w.held) at BearerClosed)) (start_linked (cut_world w) at s)
      (finish-world w at BearerClosed held_at 0 0)
      (start-linked-blind w s)

  pub start-blind : (w : World) → cut_world (start w at) ≡ cut_world (start (cut_world w) at)
  unfolding start
  start-blind w =
      let s : Step = w.held.state.running.step in
      pick-both cut_world w.held.state.bearer.present
      (start_on w at s) (on_held w (start_unlinked w.held at s))
      (start_on (cut_world w) at s) (on_held (cut_world w) (start_unlinked (cut w.held) at s))
      (start-on-blind w s)
      (λ i. record { held = start-unlinked-blind at w.held s i; told = w.told })
