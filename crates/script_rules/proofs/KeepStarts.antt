-- What a step that begins keeps, whichever it is: it sends one frame at most.
use Rattle.std.specs.Prelude.{Option, Some, None}
use Prim.Native.Nat.{ℕ, ◌+◌, ◌-◌, ◌≤◌, max}
use mathlib.Core.Path.{◌≡◌, refl, sym, ap, ◌∙◌}
use mathlib.Core.Bool.{Bool, true, false, ◌&&◌, ◌||◌}
use mathlib.Core.List.{List, [], ◌∷◌}
use native.Mathlib.Omega.{arith}
use lib.ListN.{length, take, drop, get_or, length-take, length-append}
use lib.Dec.{ltb, leb, eqb}
use borrow.Author.Tests.{leb-true}
use Rattle.bytes_base.specs.Choice.{pick}
use Rattle.bytes_base.specs.Bytes.{le_bytes}
use Rattle.state_places.specs.Sizes.{running_at, held_at, value_size}
use Rattle.time.specs.declared.Micros.{Micros}
use Rattle.time.specs.declared.Millis.{Millis}
use Rattle.time.specs.Clock.{latest}
use Rattle.l2cap.specs.Numbers.{cid_att}
use Rattle.l2cap.specs.Frame.{att_pdu}
use Rattle.bytes_base.proofs.ByteLaws.{length-le_bytes}
use Rattle.att_pdu.specs.Numbers.{op_write_req, op_write_cmd}
use Rattle.att_pdu.specs.Pdu.{exchange_mtu_req, find_information_req, read_by_type_req, read_by_group_type_req, read_req, write_req}
use Rattle.att_pdu.proofs.PduLaws.{length-exchange_mtu_req, length-find_information_req, length-read_by_type_req, length-read_by_group_type_req, length-read_req}
use Rattle.uuid_value.specs.declared.Uuid.{Uuid}
use Rattle.notifications.specs.declared.Age.{Age}
use Rattle.notifications.specs.declared.Wanted.{Wanted}
use Rattle.gatt_services.specs.declared.Service.{Service}
use Rattle.gatt_services.specs.Service as service
use Rattle.gatt_characteristics.specs.Characteristic.{up_from, known, characteristic_with}
use Rattle.gatt_descriptors.specs.Range.{descriptor_range}
use Rattle.state.specs.Central.{Central, with_running, with_counters, with_bearer}
use Rattle.state.specs.declared.Step.{Step}
use Rattle.state.specs.declared.Step.TheVariants.{Scan, Connect, ExchangeMtu, DiscoverServices, DiscoverCharacteristics, Subscribe, Write, Read, WaitNotification, Wait, Disconnect, Capture, CaptureSecrets}
use Rattle.state.specs.declared.StepStatus.{StepStatus}
use Rattle.state.specs.declared.StepStatus.TheVariants.{Ok, NotConnected, NotFound, TooLong, BearerClosed}
use Rattle.state_rules.specs.Steps.{implies, most_mtu, default_mtu, carries, mtu_named, step_fits, att_step}
use Rattle.state_rules.specs.Fit.{is_request}
use Rattle.state_rules.proofs.FitLaws.{both}
use Rattle.script_rules.specs.World.{Held, World, on_held, on_told, on_state}
use Rattle.script_rules.specs.Finish.{with_link, finish}
use Rattle.script_rules.specs.Send.{send, request}
use Rattle.script_rules.specs.Ready.{Ready}
use Rattle.script_rules.proofs.ReadyLaws.{ready-finish, ready-send}
use Rattle.script_rules.specs.Discovery.{primary_service, characteristic_type, last_handle, placed, asking, discover_services, ask_range, discover_descriptors, discover_characteristics}
use Rattle.script_rules.specs.declared.Awaited.{Awaited}
use Rattle.std.specs.Prelude.{Option, Some, None}
use Rattle.script_rules.specs.Wait.{wanted, wait_passes, passed_on, passed, passing, check_one, awaited, check_for, check_wait}
use Rattle.script_rules.specs.Start.{ends, waits_for, start_alone, start_unlinked, forgotten, discover_in, configuration, subscribe_at, subscribe, commanded, write, read, terminated, asks_to, disconnect, named, start_linked, barred, start_on, start}
use Rattle.script_rules.specs.Nearly.{Nearly}
use Rattle.script_rules.specs.Timed.{milliseconds, narrow, Timed}
use Rattle.script_rules.proofs.KeepTurns.{Stays, Goes, stays, then, quietly, stays-finish, stays-wait, goes-request}
use Rattle.gatt_characteristics.specs.declared.Characteristic.{Characteristic}

-- ---- parts of the state that a step changes as it begins

pub stays-ends : (h : Held) (at : Micros) (status : StepStatus) → Nearly h.state → Stays h (ends h at status)
stays-ends h at status f = stays-finish h at status held_at 0 0 (omega arith) f

stays-placed : (h : Held) (phase cursor : ℕ) → phase ≤ 2 → Nearly h.state → Stays h (on_state h (with_running h.state (placed h.state.running phase cursor)))
stays-placed h phase cursor p f =
    record {
      nearly = record {
        waits = f.waits;
        keys = f.keys;
        results = f.results;
        peer = f.peer;
        heard = f.heard;
        tally = f.tally;
        linked = f.linked;
        runs = record { step = f.runs.step; phase = λ e. p };
        asks = record { request = f.asks.request; asking = f.asks.asking; att = f.asks.att };
      };
      store = refl;
      queue = refl;
      timed = λ t. record { running = t.running; waiting = t.waiting; deadline = t.deadline };
    }

stays-forgotten : (h : Held) → Nearly h.state → Stays h (on_state h (forgotten h.state))
unfolding up_from
stays-forgotten h f =
    record {
      nearly = record {
        waits = f.waits;
        keys = f.keys;
        results = f.results;
        peer = record { services = omega arith; characteristics = omega arith; rising = refl };
        heard = f.heard;
        tally = f.tally;
        linked = f.linked;
        runs = f.runs;
        asks = f.asks;
      };
      store = refl;
      queue = refl;
      timed = λ t. record { running = t.running; waiting = t.waiting; deadline = t.deadline };
    }

stays-passed : (h : Held) → Nearly h.state → Stays h (on_state h (with_counters h.state (passed h.state.counters)))
stays-passed h f =
    record {
      nearly = record {
        waits = f.waits;
        keys = f.keys;
        results = f.results;
        peer = f.peer;
        heard = f.heard;
        tally = record { kept = f.tally.kept; notified = f.tally.notified; from = omega arith; refused = f.tally.refused; index = f.tally.index };
        linked = f.linked;
        runs = f.runs;
        asks = f.asks;
      };
      store = refl;
      queue = refl;
      timed = λ t. record { running = t.running; waiting = t.waiting; deadline = t.deadline };
    }

stays-terminated : (h : Held) → Nearly h.state → Stays h (on_state h (with_bearer h.state (with_link h.state.bearer (terminated h.state.bearer.link))))
stays-terminated h f =
    record {
      nearly = record {
        waits = f.waits;
        keys = f.keys;
        results = f.results;
        peer = f.peer;
        heard = f.heard;
        tally = f.tally;
        linked = record { held = f.linked.held; mtu_low = f.linked.mtu_low; mtu_high = f.linked.mtu_high };
        runs = f.runs;
        asks = record { request = f.asks.request; asking = f.asks.asking; att = f.asks.att };
      };
      store = refl;
      queue = refl;
      timed = λ t. record { running = t.running; waiting = t.waiting; deadline = t.deadline };
    }

-- ---- the wait check

module _ (h : Held) (at : Micros) (f : Nearly h.state) where
  abbrev behind : Held
  behind = on_state h (with_counters h.state (passed h.state.counters))

  stays-passing : (w : Wanted) → Stays h (passing h at w)
  stays-passing w =
      let s = stays-passed h f in
      then h behind (passing h at w) s (stays-finish behind at Ok held_at 0 (passed_on h.state w w.age) (omega arith) s.nearly)

  stays-check-one : (age : Age) (x : Option Characteristic) → Stays h (check_one h at age x)
  unfolding check_one
  stays-check-one age None = stays-ends h at NotFound f
  stays-check-one age (Some x) = let w = wanted h.state at x.value_handle age in go w (wait_passes h w)
    where
      go : (w : Wanted) (b : Bool) → Stays h (pick b (passing h at w) h)
      go w true = stays-passing w
      go w false = stays h f

  stays-check-for : (x : Option Awaited) → Stays h (check_for h at x)
  unfolding check_for
  stays-check-for None = stays h f
  stays-check-for (Some a) = stays-check-one a.age (characteristic_with a.characteristic (known h.state.characteristics))

  pub stays-check : Stays h (check_wait h at)
  unfolding check_wait
  stays-check = go h.state.running.active
    where
      go : (b : Bool) → Stays h (pick b (check_for h at (awaited h.state.running.step)) h)
      go true = stays-check-for (awaited h.state.running.step)
      go false = stays h f

-- ---- with no link

-- the milliseconds of the step that runs
spans : (c : Central) (s : Step) → c.running.active ≡ true → c.running.step ≡ s → Timed c → milliseconds s ≤ 4294967295
unfolding narrow
spans c s a e t = leb-true (milliseconds s) 4294967295 (ap narrow (sym e) ∙ t.running a)

module _ (h : Held) (at : Micros) (l : at.0 ≤ latest) (f : Nearly h.state) (a : h.state.running.active ≡ true) where
  pub stays-unlinked : (s : Step) → h.state.running.step ≡ s → Stays h (start_unlinked h at s)
  unfolding start_alone
  stays-unlinked (Scan ms) e = stays-wait h at ms l f (spans h.state (Scan ms) a e)
  stays-unlinked (Connect target interval latency timeout ms) e = stays-wait h at ms l f (spans h.state (Connect target interval latency timeout ms) a e)
  stays-unlinked (ExchangeMtu mtu) e = stays-ends h at NotConnected f
  stays-unlinked DiscoverServices e = stays-ends h at NotConnected f
  stays-unlinked (DiscoverCharacteristics service) e = stays-ends h at NotConnected f
  stays-unlinked (Subscribe characteristic indicate) e = stays-ends h at NotConnected f
  stays-unlinked (Write characteristic response) e = stays-ends h at NotConnected f
  stays-unlinked (Read characteristic) e = stays-ends h at NotConnected f
  stays-unlinked (WaitNotification characteristic ms age) e = stays-ends h at NotConnected f
  stays-unlinked (Wait ms) e = stays-wait h at ms l f (spans h.state (Wait ms) a e)
  stays-unlinked Disconnect e = stays-ends h at NotConnected f
  stays-unlinked (Capture enabled) e = stays-ends h at Ok f
  stays-unlinked (CaptureSecrets secrets) e = stays-ends h at Ok f

-- ---- with a link

-- a PDU with a value of n bytes
value-pdu : (opcode handle : ℕ) (value : List ℕ) (from n : ℕ) → n ≤ value_size → length (att_pdu opcode handle value from n) ≤ 247
value-pdu opcode handle value from n h =
    omega (arith, length-append (le_bytes 2 handle) (take n (drop from value)), length-le_bytes 2 handle, length-take n (drop from value))

-- what a Write step has of bytes
write-len : (step : Step) (u : Uuid) (response : Bool) (n : ℕ) → step ≡ Write u response → step_fits step n ≡ true → n ≤ value_size
unfolding step_fits
write-len step u response n e h =
    leb-true n value_size (both (leb n value_size) true (ap (λ (s : Step). implies (carries s) (leb n value_size) && leb (mtu_named s) most_mtu) (sym e) ∙ h)).0

module _ (k : ℕ) (w : World) (at : Micros) (few : k ≤ 64) (l : at.0 ≤ latest) (ready : Ready k w) (f : Nearly w.held.state)
    (a : w.held.state.running.active ≡ true) where
  goes-ends : (status : StepStatus) → Goes (k + 1) w (on_held w (ends w.held at status))
  goes-ends status = quietly k w (ends w.held at status) ready (stays-ends w.held at status f)

  goes-wait : (ms : Millis) → (Timed w.held.state → ms.0 ≤ 4294967295) → Goes (k + 1) w (on_held w (waits_for w.held at ms))
  goes-wait ms b = quietly k w (waits_for w.held at ms) ready (stays-wait w.held at ms l f b)

  goes-check : (ms : Millis) → (Timed w.held.state → ms.0 ≤ 4294967295) → Goes (k + 1) w (on_held w (check_wait (waits_for w.held at ms) at))
  goes-check ms b =
      let g = waits_for w.held at ms in
      let s = stays-wait w.held at ms l f b in
      quietly k w (check_wait g at) ready (then w.held g (check_wait g at) s (stays-check g at s.nearly))

  goes-disconnect : Goes (k + 1) w (disconnect w)
  unfolding disconnect
  goes-disconnect = go w.held.state.bearer.link.terminating
    where
      go : (b : Bool)
          → Goes (k + 1) w (pick b w (record { held = on_state w.held (with_bearer w.held.state (with_link w.held.state.bearer (terminated w.held.state.bearer.link))); told = asks_to w.told }))
      go true = quietly k w w.held ready (stays w.held f)
      go false =
          record {
            ready = record { store = ready.store; out = ready.out; results = ready.results; frames = omega (arith, ready.frames); bytes = ready.bytes };
            stays = stays-terminated w.held f;
          }

  -- a step that sends ATT requests
  module _ (att : att_step w.held.state.running.step ≡ true) where
    goes-asks : (pdu : List ℕ) → is_request (get_or pdu 0 0) ≡ true → length pdu ≤ 247 → Goes (k + 1) w (request w at pdu)
    goes-asks pdu q short = goes-request k w at pdu few l ready f a att q short

    -- discovery's requests note their place first
    goes-walks : (phase cursor : ℕ) (pdu : List ℕ) → phase ≤ 2 → is_request (get_or pdu 0 0) ≡ true → length pdu ≤ 247 → Goes (k + 1) w (request (asking w phase cursor) at pdu)
    unfolding request
    goes-walks phase cursor pdu p q short =
        let v : World = asking w phase cursor in
        let s = stays-placed w.held phase cursor p f in
        let r : Ready k v = record { store = ready.store; out = ready.out; results = ready.results; frames = ready.frames; bytes = ready.bytes } in
        let g = goes-request k v at pdu few l r s.nearly a att q short in
        record { ready = g.ready; stays = then w.held v.held (request v at pdu).held s g.stays }

    pub goes-services : (from : ℕ) → Goes (k + 1) w (discover_services w at from)
    unfolding discover_services
    goes-services from = goes-walks 0 from (read_by_group_type_req from last_handle primary_service) (omega arith) refl (omega (arith, length-read_by_group_type_req from last_handle primary_service))

    goes-range : (r : Option (ℕ × ℕ)) → Goes (k + 1) w (ask_range w at r)
    unfolding ask_range
    goes-range None = goes-ends Ok
    goes-range (Some (start, end)) = goes-walks 2 start (find_information_req start end) (omega arith) refl (omega (arith, length-find_information_req start end))

    pub goes-descriptors : (svc : Service) (from : ℕ) → Goes (k + 1) w (discover_descriptors w at svc from)
    unfolding discover_descriptors
    goes-descriptors svc from = goes-range (descriptor_range w.held.state.characteristics svc.start svc.end from)

    pub goes-characteristics : (svc : Service) (from : ℕ) → Goes (k + 1) w (discover_characteristics w at svc from)
    unfolding discover_characteristics
    goes-characteristics svc from = go (ltb svc.end from || eqb from 0)
      where
        go : (b : Bool) → Goes (k + 1) w (pick b (discover_descriptors w at svc svc.start) (request (asking w 1 from) at (read_by_type_req from svc.end characteristic_type)))
        go true = goes-descriptors svc svc.start
        go false = goes-walks 1 from (read_by_type_req from svc.end characteristic_type) (omega arith) refl (omega (arith, length-read_by_type_req from svc.end characteristic_type))

    goes_in : (x : Option Service) → Goes (k + 1) w (discover_in w at x)
    unfolding discover_in
    goes_in (Some svc) = goes-characteristics svc svc.start
    goes_in None = goes-services 1

    goes-subscribe-at : (indicate : Bool) (x : Option ℕ) → Goes (k + 1) w (subscribe_at w at indicate x)
    unfolding subscribe_at
    goes-subscribe-at indicate None = goes-ends NotFound
    goes-subscribe-at indicate (Some handle) = goes-asks (write_req handle (configuration indicate)) refl (configured handle indicate)
      where
        configured : (handle : ℕ) (b : Bool) → length (write_req handle (configuration b)) ≤ 247
        configured handle true = omega (arith, length-append (le_bytes 2 handle) (2 ∷ 0 ∷ []), length-le_bytes 2 handle)
        configured handle false = omega (arith, length-append (le_bytes 2 handle) (1 ∷ 0 ∷ []), length-le_bytes 2 handle)

    goes-subscribe : (indicate : Bool) (x : Option Characteristic) → Goes (k + 1) w (subscribe w at indicate x)
    unfolding subscribe
    goes-subscribe indicate None = goes-ends NotFound
    goes-subscribe indicate (Some x) = goes-subscribe-at indicate x.cccd

    goes-read : (x : Option Characteristic) → Goes (k + 1) w (read w at x)
    unfolding read
    goes-read None = goes-ends NotFound
    goes-read (Some x) = goes-asks (read_req x.value_handle) refl (omega (arith, length-read_req x.value_handle))

    module _ (short : w.held.state.running.len ≤ value_size) where
      goes-command : (handle : ℕ) → Goes (k + 1) w (commanded w at handle w.held.state.running.len)
      goes-command handle =
          let pdu : List ℕ = att_pdu op_write_cmd handle w.held.store running_at w.held.state.running.len in
          let r = ready-send k w cid_att pdu ready few (value-pdu op_write_cmd handle w.held.store running_at w.held.state.running.len short) in
          record {
            ready = ready-finish (k + 1) (on_told w (send w.told cid_att pdu)) at Ok held_at 0 0 r;
            stays = stays-ends w.held at Ok f;
          }

      goes-write : (response : Bool) (x : Option Characteristic) → Goes (k + 1) w (write w at response x)
      unfolding write
      goes-write response None = goes-ends NotFound
      goes-write response (Some x) = go (ltb w.held.state.bearer.link.mtu (w.held.state.running.len + 3)) response
        where
          go : (b c : Bool)
              → Goes (k + 1) w
              (pick b
              (on_held w (ends w.held at TooLong))
              (pick c
              (request w at (att_pdu op_write_req x.value_handle w.held.store running_at w.held.state.running.len))
              (commanded w at x.value_handle w.held.state.running.len)))
          go true c = goes-ends TooLong
          go false true = goes-asks (att_pdu op_write_req x.value_handle w.held.store running_at w.held.state.running.len) refl (value-pdu op_write_req x.value_handle w.held.store running_at w.held.state.running.len short)
          go false false = goes-command x.value_handle

-- ---- whichever step

module _ (k : ℕ) (w : World) (at : Micros) (few : k ≤ 64) (l : at.0 ≤ latest) (ready : Ready k w) (f : Nearly w.held.state)
    (a : w.held.state.running.active ≡ true) where
  abbrev c : Central
  c = w.held.state

  goes-forgotten : att_step w.held.state.running.step ≡ true → Goes (k + 1) w (discover_services (on_held w (on_state w.held (forgotten w.held.state))) at 1)
  goes-forgotten att =
      let v : World = on_held w (on_state w.held (forgotten w.held.state)) in
      let s = stays-forgotten w.held f in
      let r : Ready k v = record { store = ready.store; out = ready.out; results = ready.results; frames = ready.frames; bytes = ready.bytes } in
      let g = goes-services k v at few l r s.nearly a att 1 in
      record { ready = g.ready; stays = then w.held v.held (discover_services v at 1).held s g.stays }

  is-att : (s : Step) → c.running.step ≡ s → att_step s ≡ true → att_step c.running.step ≡ true
  is-att s e h = ap att_step e ∙ h

  goes-linked : (s : Step) → c.running.step ≡ s → Goes (k + 1) w (start_linked w at s)
  unfolding start_linked
  goes-linked (Scan ms) e = goes-wait k w at few l ready f a ms (spans c (Scan ms) a e)
  goes-linked (Connect target interval latency timeout ms) e = goes-ends k w at few l ready f a Ok
  goes-linked (ExchangeMtu mtu) e = goes-asks k w at few l ready f a (is-att (ExchangeMtu mtu) e refl) (exchange_mtu_req (max mtu default_mtu)) refl (omega (arith, length-exchange_mtu_req (max mtu default_mtu)))
  goes-linked DiscoverServices e = goes-forgotten (is-att DiscoverServices e refl)
  goes-linked (DiscoverCharacteristics u) e = goes_in k w at few l ready f a (is-att (DiscoverCharacteristics u) e refl) (service.service_with u (service.known c.services))
  goes-linked (Subscribe u indicate) e = goes-subscribe k w at few l ready f a (is-att (Subscribe u indicate) e refl) indicate (named w u)
  goes-linked (Write u response) e =
      goes-write k w at few l ready f a (is-att (Write u response) e refl) (write-len c.running.step u response c.running.len e (f.runs.step a)) response (named w u)
  goes-linked (Read u) e = goes-read k w at few l ready f a (is-att (Read u) e refl) (named w u)
  goes-linked (WaitNotification u ms age) e = goes-check k w at few l ready f a ms (spans c (WaitNotification u ms age) a e)
  goes-linked (Wait ms) e = goes-wait k w at few l ready f a ms (spans c (Wait ms) a e)
  goes-linked Disconnect e = goes-disconnect k w at few l ready f a
  goes-linked (Capture enabled) e = goes-ends k w at few l ready f a Ok
  goes-linked (CaptureSecrets secrets) e = goes-ends k w at few l ready f a Ok

  goes-over-link : Goes (k + 1) w (start_on w at c.running.step)
  unfolding start_on
  goes-over-link = go (barred c.options c.bearer c.running.step)
    where
      go : (b : Bool) → Goes (k + 1) w (pick b (on_held w (ends w.held at BearerClosed)) (start_linked w at c.running.step))
      go true = goes-ends k w at few l ready f a BearerClosed
      go false = goes-linked c.running.step refl

  pub goes-start : Goes (k + 1) w (start w at)
  unfolding start
  goes-start = go c.bearer.present
    where
      go : (b : Bool) → Goes (k + 1) w (pick b (start_on w at c.running.step) (on_held w (start_unlinked w.held at c.running.step)))
      go true = goes-over-link
      go false = quietly k w (start_unlinked w.held at c.running.step) ready (stays-unlinked w.held at l f a c.running.step refl)
