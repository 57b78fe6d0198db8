-- What a step that begins gives: nothing, or its own result.
use Rattle.std.specs.Prelude.{Option, Some, None}
use Prim.Native.Nat.{ℕ, ◌+◌}
use mathlib.Core.Path.{refl}
use mathlib.Core.Bool.{Bool, true, false, ◌||◌}
use mathlib.Core.List.{List}
use native.Mathlib.Omega.{arith}
use lib.Dec.{eqb, ltb}
use Rattle.bytes_base.specs.Choice.{pick}
use Rattle.state_places.specs.Sizes.{held_at, running_at}
use Rattle.time.specs.declared.Micros.{Micros}
use Rattle.notifications.specs.declared.Age.{Age}
use Rattle.notifications.specs.declared.Wanted.{Wanted}
use Rattle.gatt_services.specs.declared.Service.{Service}
use Rattle.gatt_descriptors.specs.Range.{descriptor_range}
use Rattle.state.specs.Central.{Central, with_counters, with_bearer}
use Rattle.state.specs.declared.Step.{Step}
use Rattle.state.specs.declared.Step.TheVariants.{Scan, Connect, ExchangeMtu, DiscoverServices, DiscoverCharacteristics, Subscribe, Write, Read, WaitNotification, Wait, Disconnect, Capture, CaptureSecrets}
use Rattle.state.specs.declared.StepStatus.{StepStatus}
use Rattle.state.specs.declared.StepStatus.TheVariants.{Ok, TooLong, BearerClosed}
use Rattle.script_rules.specs.World.{Held, World, on_held, on_state}
use Rattle.script_rules.specs.Finish.{with_link}
use Rattle.script_rules.specs.Send.{request}
use Rattle.l2cap.specs.Frame.{att_pdu}
use Rattle.att_pdu.specs.Numbers.{op_write_req}
use Rattle.att_pdu.specs.Pdu.{read_by_type_req}
use Rattle.script_rules.specs.Discovery.{characteristic_type, asking, discover_services, ask_range, discover_descriptors, discover_characteristics}
use Rattle.script_rules.specs.declared.Alone.{Alone}
use Rattle.script_rules.specs.declared.Alone.TheVariants as alone
use Rattle.script_rules.specs.declared.Awaited.{Awaited}
use Rattle.std.specs.Prelude.{Option, Some, None}
use Rattle.script_rules.specs.Wait.{wanted, wait_passes, passed_on, passed, passing, check_one, awaited, check_for, check_wait}
use Rattle.script_rules.specs.Start.{ends, waits_for, unlinked_step, start_alone, start_unlinked, forgotten, discover_in, subscribe_at, subscribe, commanded, write, read, terminated, asks_to, disconnect, start_linked, barred, start_on, start}
use Rattle.thm_accounting.proofs.Gives.{Whole, Gives, nothing, gives_none, gives_then, Apart, apart, apart-state, gives-finish, whole_same}
use Rattle.gatt_characteristics.specs.declared.Characteristic.{Characteristic}

-- the step ends with no value
pub gives-ends : (h : Held) (at : Micros) (st : StepStatus) → Whole h → Gives at h (ends h at st)
gives-ends h at st w = gives-finish h at st held_at 0 0 w (omega arith) (omega arith)

-- a change of other parts of the state
pub quiet : {at : Micros} {h : Held} {c : Central} → Whole h → Apart h (on_state h c) → Gives at h (on_state h c)
quiet w a = nothing (apart w a)

pub gives-request : (w : World) (at : Micros) (pdu : List ℕ) → Whole w.held → Gives at w.held (request w at pdu).held
unfolding request
gives-request w at pdu k = quiet k (apart-state refl refl refl refl refl refl refl refl refl refl refl)

-- discovery's next request
gives-asking : (w : World) (phase cursor : ℕ) (at : Micros) (pdu : List ℕ) → Whole w.held → Gives at w.held (request (asking w phase cursor) at pdu).held
unfolding request
gives-asking w phase cursor at pdu k = quiet k (apart-state refl refl refl refl refl refl refl refl refl refl refl)

pub gives-services : (w : World) (at : Micros) (from : ℕ) → Whole w.held → Gives at w.held (discover_services w at from).held
unfolding discover_services
gives-services w at from k = gives-asking w 0 from at _ k

gives-range : (w : World) (at : Micros) (r : Option (ℕ × ℕ)) → Whole w.held → Gives at w.held (ask_range w at r).held
unfolding ask_range
gives-range w at None k = gives-ends w.held at Ok k
gives-range w at (Some (start, end)) k = gives-asking w 2 start at _ k

pub gives-descriptors : (w : World) (at : Micros) (svc : Service) (from : ℕ) → Whole w.held → Gives at w.held (discover_descriptors w at svc from).held
unfolding discover_descriptors
gives-descriptors w at svc from k = gives-range w at (descriptor_range w.held.state.characteristics svc.start svc.end from) k

pub gives-characteristics : (w : World) (at : Micros) (svc : Service) (from : ℕ) → Whole w.held → Gives at w.held (discover_characteristics w at svc from).held
unfolding discover_characteristics
gives-characteristics w at svc from k = go (ltb svc.end from || eqb from 0)
  where
    go : (b : Bool) → Gives at w.held (pick b (discover_descriptors w at svc svc.start) (request (asking w 1 from) at (read_by_type_req from svc.end characteristic_type))).held
    go true = gives-descriptors w at svc svc.start k
    go false = gives-asking w 1 from at _ k

-- ---- the wait check

gives-passing : (h : Held) (at : Micros) (w : Wanted) → Whole h → Gives at h (passing h at w)
gives-passing h at w k =
    let g = on_state h (with_counters h.state (passed h.state.counters)) in
    let a : Apart h g = apart-state refl refl refl refl refl refl refl refl refl refl refl in
    gives_then (apart k a) (gives-finish g at Ok held_at 0 (passed_on h.state w w.age) (whole_same k refl refl) (omega arith) (omega arith))

gives_one : (h : Held) (at : Micros) (age : Age) (x : Option Characteristic) → Whole h → Gives at h (check_one h at age x)
unfolding check_one
gives_one h at age None k = gives-finish h at _ held_at 0 0 k (omega arith) (omega arith)
gives_one h at age (Some x) k = let w = wanted h.state at x.value_handle age in go w (wait_passes h w)
  where
    go : (w : Wanted) (b : Bool) → Gives at h (pick b (passing h at w) h)
    go w true = gives-passing h at w k
    go w false = gives_none h

gives-for : (h : Held) (at : Micros) (x : Option Awaited) → Whole h → Gives at h (check_for h at x)
unfolding check_for
gives-for h at None k = gives_none h
gives-for h at (Some a) k = gives_one h at a.age _ k

pub gives-check : (h : Held) (at : Micros) → Whole h → Gives at h (check_wait h at)
unfolding check_wait
gives-check h at k = go h.state.running.active
  where
    go : (b : Bool) → Gives at h (pick b (check_for h at (awaited h.state.running.step)) h)
    go true = gives-for h at (awaited h.state.running.step) k
    go false = gives_none h

-- ---- each step

gives-alone : (h : Held) (at : Micros) (a : Alone) → Whole h → Gives at h (start_alone h at a)
unfolding start_alone
gives-alone h at (alone.Runs ms) k = quiet k (apart-state refl refl refl refl refl refl refl refl refl refl refl)
gives-alone h at alone.Done k = gives-ends h at _ k
gives-alone h at alone.NeedsLink k = gives-ends h at _ k

gives-in : (w : World) (at : Micros) (x : Option Service) → Whole w.held → Gives at w.held (discover_in w at x).held
unfolding discover_in
gives-in w at (Some svc) k = gives-characteristics w at svc svc.start k
gives-in w at None k = gives-services w at 1 k

gives-subscribe-at : (w : World) (at : Micros) (indicate : Bool) (x : Option ℕ) → Whole w.held → Gives at w.held (subscribe_at w at indicate x).held
unfolding subscribe_at
gives-subscribe-at w at indicate None k = gives-ends w.held at _ k
gives-subscribe-at w at indicate (Some handle) k = gives-request w at _ k

gives-subscribe : (w : World) (at : Micros) (indicate : Bool) (x : Option Characteristic) → Whole w.held → Gives at w.held (subscribe w at indicate x).held
unfolding subscribe
gives-subscribe w at indicate None k = gives-ends w.held at _ k
gives-subscribe w at indicate (Some x) k = gives-subscribe-at w at indicate x.cccd k

gives-write : (w : World) (at : Micros) (response : Bool) (x : Option Characteristic) → Whole w.held → Gives at w.held (write w at response x).held
unfolding write
gives-write w at response None k = gives-ends w.held at _ k
gives-write w at response (Some x) k = go (ltb w.held.state.bearer.link.mtu (w.held.state.running.len + 3)) response
  where
    n : ℕ
    n = w.held.state.running.len

    go : (a b : Bool)
        → Gives at w.held
        (pick a (on_held w (ends w.held at TooLong)) (pick b (request w at (att_pdu op_write_req x.value_handle w.held.store running_at n)) (commanded w at x.value_handle n))).held
    go true b = gives-ends w.held at TooLong k
    go false true = gives-request w at _ k
    go false false = gives-ends w.held at Ok k

gives-read : (w : World) (at : Micros) (x : Option Characteristic) → Whole w.held → Gives at w.held (read w at x).held
unfolding read
gives-read w at None k = gives-ends w.held at _ k
gives-read w at (Some x) k = gives-request w at _ k

gives-disconnect : {at : Micros} (w : World) → Whole w.held → Gives at w.held (disconnect w).held
unfolding disconnect
gives-disconnect {at} w k = go w.held.state.bearer.link.terminating
  where
    g : Held
    g = on_state w.held (with_bearer w.held.state (with_link w.held.state.bearer (terminated w.held.state.bearer.link)))

    go : (b : Bool) → Gives at w.held (pick b w (record { held = g; told = asks_to w.told })).held
    go true = gives_none w.held
    go false = quiet k (apart-state refl refl refl refl refl refl refl refl refl refl refl)

gives-linked : (w : World) (at : Micros) (s : Step) → Whole w.held → Gives at w.held (start_linked w at s).held
unfolding start_linked
gives-linked w at (Scan ms) k = quiet k (apart-state refl refl refl refl refl refl refl refl refl refl refl)
gives-linked w at (Connect target interval latency timeout ms) k = gives-ends w.held at Ok k
gives-linked w at (ExchangeMtu mtu) k = gives-request w at _ k
gives-linked w at DiscoverServices k =
    gives_then (apart {g = on_state w.held (forgotten w.held.state)} k (apart-state refl refl refl refl refl refl refl refl refl refl refl))
    (gives-services (on_held w (on_state w.held (forgotten w.held.state))) at 1 (whole_same k refl refl))
gives-linked w at (DiscoverCharacteristics u) k = gives-in w at _ k
gives-linked w at (Subscribe u indicate) k = gives-subscribe w at indicate _ k
gives-linked w at (Write u response) k = gives-write w at response _ k
gives-linked w at (Read u) k = gives-read w at _ k
gives-linked w at (WaitNotification u ms age) k =
    gives_then (apart {g = waits_for w.held at ms} k (apart-state refl refl refl refl refl refl refl refl refl refl refl)) (gives-check (waits_for w.held at ms) at (whole_same k refl refl))
gives-linked w at (Wait ms) k = quiet k (apart-state refl refl refl refl refl refl refl refl refl refl refl)
gives-linked w at Disconnect k = gives-disconnect w k
gives-linked w at (Capture enabled) k = gives-ends w.held at Ok k
gives-linked w at (CaptureSecrets secrets) k = gives-ends w.held at Ok k

pub gives-start : (w : World) (at : Micros) → Whole w.held → Gives at w.held (start w at).held
unfolding start start_on
gives-start w at k = go w.held.state.bearer.present (barred w.held.state.options w.held.state.bearer s)
  where
    s : Step
    s = w.held.state.running.step

    go : (b c : Bool) → Gives at w.held (pick b (pick c (on_held w (ends w.held at BearerClosed)) (start_linked w at s)) (on_held w (start_unlinked w.held at s))).held
    go true true = gives-ends w.held at BearerClosed k
    go true false = gives-linked w at s k
    go false c = gives-alone w.held at (unlinked_step s) k
