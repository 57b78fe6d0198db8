-- What leaves the three counts as they are: all that a step does when it begins, and when it ends.
use Rattle.std.specs.Prelude.{Option, Some, None}
use Prim.Native.Nat.{ℕ, ◌+◌}
use mathlib.Core.Path.{◌≡◌, refl, ap, ◌∙◌}
use mathlib.Core.Bool.{Bool, true, false, ◌||◌}
use mathlib.Core.List.{List}
use lib.Dec.{eqb, ltb}
use Rattle.bytes_base.specs.Choice.{pick}
use Rattle.state_places.specs.Sizes.{held_at, running_at}
use Rattle.time.specs.declared.Micros.{Micros}
use Rattle.time.specs.declared.Millis.{Millis}
use Rattle.notifications.specs.declared.Age.{Age}
use Rattle.notifications.specs.declared.Wanted.{Wanted}
use Rattle.gatt_services.specs.declared.Service.{Service}
use Rattle.gatt_descriptors.specs.Range.{descriptor_range}
use Rattle.state.specs.Central.{Central, with_counters, with_bearer}
use Rattle.state.specs.declared.Counters.{Counters}
use Rattle.state.specs.declared.Step.{Step}
use Rattle.state.specs.declared.Step.TheVariants.{Scan, Connect, ExchangeMtu, DiscoverServices, DiscoverCharacteristics, Subscribe, Write, Read, WaitNotification, Wait, Disconnect, Capture, CaptureSecrets}
use Rattle.state.specs.declared.StepStatus.{StepStatus}
use Rattle.state.specs.declared.StepStatus.TheVariants.{Ok, TooLong, BearerClosed}
use Rattle.script_rules.specs.World.{Held, World, on_held, on_state}
use Rattle.script_rules.specs.Finish.{ended, finish, with_link}
use Rattle.script_rules.specs.Send.{request}
use Rattle.script_rules.specs.Waiting.{take_step}
use Rattle.l2cap.specs.Frame.{att_pdu}
use Rattle.att_pdu.specs.Numbers.{op_write_req}
use Rattle.att_pdu.specs.Pdu.{read_by_type_req}
use Rattle.script_rules.specs.Discovery.{characteristic_type, asking, discover_services, ask_range, discover_descriptors, discover_characteristics}
use Rattle.script_rules.specs.declared.Alone.{Alone}
use Rattle.script_rules.specs.declared.Alone.TheVariants as alone
use Rattle.script_rules.specs.declared.Awaited.{Awaited}
use Rattle.std.specs.Prelude.{Option, Some, None}
use Rattle.script_rules.specs.Wait.{wanted, wait_passes, passed_on, passed, passing, check_one, awaited, check_for, check_wait}
use Rattle.script_rules.specs.Start.{ends, waits_for, unlinked_step, start_alone, start_unlinked, forgotten, discover_in, subscribe_at, subscribe, commanded, write, read, terminated, asks_to, disconnect, start_linked, barred, start_on, start}
use Rattle.gatt_characteristics.specs.declared.Characteristic.{Characteristic}

pub record Kept (h g : Held) : Type 0 where
  pub notified : g.state.counters.notified ≡ h.state.counters.notified
  pub refused : g.state.counters.refused_steps ≡ h.state.counters.refused_steps
  pub links : g.state.counters.links ≡ h.state.counters.links

pub kept-none : (h : Held) → Kept h h
kept-none h = record { notified = refl; refused = refl; links = refl }

pub kept_then : {h g i : Held} → Kept h g → Kept g i → Kept h i
kept_then a b = record { notified = b.notified ∙ a.notified; refused = b.refused ∙ a.refused; links = b.links ∙ a.links }

-- a change of other parts of the state
pub still : {h : Held} {c : Central} → c.counters ≡ h.state.counters → Kept h (on_state h c)
still e = record { notified = ap (λ (k : Counters). k.notified) e; refused = ap (λ (k : Counters). k.refused_steps) e; links = ap (λ (k : Counters). k.links) e }

pub kept-finish : (h : Held) (at : Micros) (st : StepStatus) (from n heard : ℕ) → Kept h (finish h at st from n heard)
unfolding finish ended
kept-finish h at st from n heard = go h.state.running.active
  where
    go : (b : Bool) → Kept h (pick b (ended h at st from n heard) h)
    go true = record { notified = refl; refused = refl; links = refl }
    go false = kept-none h

kept-waits : (h : Held) (at : Micros) (ms : Millis) → Kept h (waits_for h at ms)
kept-waits h at ms = record { notified = refl; refused = refl; links = refl }

-- the first waiting step is taken: it has the next number, and nothing else is counted
pub kept-take : (h : Held) → Kept h (take_step h)
unfolding take_step
kept-take h = record { notified = refl; refused = refl; links = refl }

-- the step ends with no value
pub kept-ends : (h : Held) (at : Micros) (st : StepStatus) → Kept h (ends h at st)
kept-ends h at st = kept-finish h at st held_at 0 0

pub kept-request : (w : World) (at : Micros) (pdu : List ℕ) → Kept w.held (request w at pdu).held
unfolding request
kept-request w at pdu = still refl

-- discovery's next request
kept-asking : (w : World) (phase cursor : ℕ) (at : Micros) (pdu : List ℕ) → Kept w.held (request (asking w phase cursor) at pdu).held
unfolding request
kept-asking w phase cursor at pdu = still refl

pub kept-services : (w : World) (at : Micros) (from : ℕ) → Kept w.held (discover_services w at from).held
unfolding discover_services
kept-services w at from = kept-asking w 0 from at _

kept-range : (w : World) (at : Micros) (r : Option (ℕ × ℕ)) → Kept w.held (ask_range w at r).held
unfolding ask_range
kept-range w at None = kept-ends w.held at Ok
kept-range w at (Some (start, end)) = kept-asking w 2 start at _

pub kept-descriptors : (w : World) (at : Micros) (svc : Service) (from : ℕ) → Kept w.held (discover_descriptors w at svc from).held
unfolding discover_descriptors
kept-descriptors w at svc from = kept-range w at (descriptor_range w.held.state.characteristics svc.start svc.end from)

pub kept-characteristics : (w : World) (at : Micros) (svc : Service) (from : ℕ) → Kept w.held (discover_characteristics w at svc from).held
unfolding discover_characteristics
kept-characteristics w at svc from = go (ltb svc.end from || eqb from 0)
  where
    go : (b : Bool) → Kept w.held (pick b (discover_descriptors w at svc svc.start) (request (asking w 1 from) at (read_by_type_req from svc.end characteristic_type))).held
    go true = kept-descriptors w at svc svc.start
    go false = kept-asking w 1 from at _

-- ---- the wait check

kept-passing : (h : Held) (at : Micros) (w : Wanted) → Kept h (passing h at w)
kept-passing h at w =
    let g = on_state h (with_counters h.state (passed h.state.counters)) in
    let a : Kept h g = record { notified = refl; refused = refl; links = refl } in
    kept_then a (kept-finish g at Ok held_at 0 (passed_on h.state w w.age))

kept-one : (h : Held) (at : Micros) (age : Age) (x : Option Characteristic) → Kept h (check_one h at age x)
unfolding check_one
kept-one h at age None = kept-finish h at _ held_at 0 0
kept-one h at age (Some x) = let w = wanted h.state at x.value_handle age in go w (wait_passes h w)
  where
    go : (w : Wanted) (b : Bool) → Kept h (pick b (passing h at w) h)
    go w true = kept-passing h at w
    go w false = kept-none h

kept_for : (h : Held) (at : Micros) (x : Option Awaited) → Kept h (check_for h at x)
unfolding check_for
kept_for h at None = kept-none h
kept_for h at (Some a) = kept-one h at a.age _

pub kept-check : (h : Held) (at : Micros) → Kept h (check_wait h at)
unfolding check_wait
kept-check h at = go h.state.running.active
  where
    go : (b : Bool) → Kept h (pick b (check_for h at (awaited h.state.running.step)) h)
    go true = kept_for h at (awaited h.state.running.step)
    go false = kept-none h

-- ---- each step

kept-alone : (h : Held) (at : Micros) (a : Alone) → Kept h (start_alone h at a)
unfolding start_alone
kept-alone h at (alone.Runs ms) = still refl
kept-alone h at alone.Done = kept-ends h at _
kept-alone h at alone.NeedsLink = kept-ends h at _

kept_in : (w : World) (at : Micros) (x : Option Service) → Kept w.held (discover_in w at x).held
unfolding discover_in
kept_in w at (Some svc) = kept-characteristics w at svc svc.start
kept_in w at None = kept-services w at 1

kept-subscribe-at : (w : World) (at : Micros) (indicate : Bool) (x : Option ℕ) → Kept w.held (subscribe_at w at indicate x).held
unfolding subscribe_at
kept-subscribe-at w at indicate None = kept-ends w.held at _
kept-subscribe-at w at indicate (Some handle) = kept-request w at _

kept-subscribe : (w : World) (at : Micros) (indicate : Bool) (x : Option Characteristic) → Kept w.held (subscribe w at indicate x).held
unfolding subscribe
kept-subscribe w at indicate None = kept-ends w.held at _
kept-subscribe w at indicate (Some x) = kept-subscribe-at w at indicate x.cccd

kept-write : (w : World) (at : Micros) (response : Bool) (x : Option Characteristic) → Kept w.held (write w at response x).held
unfolding write
kept-write w at response None = kept-ends w.held at _
kept-write w at response (Some x) = go (ltb w.held.state.bearer.link.mtu (w.held.state.running.len + 3)) response
  where
    n : ℕ
    n = w.held.state.running.len

    go : (a b : Bool)
        → Kept w.held
        (pick a (on_held w (ends w.held at TooLong)) (pick b (request w at (att_pdu op_write_req x.value_handle w.held.store running_at n)) (commanded w at x.value_handle n))).held
    go true b = kept-ends w.held at TooLong
    go false true = kept-request w at _
    go false false = kept-ends w.held at Ok

kept_read : (w : World) (at : Micros) (x : Option Characteristic) → Kept w.held (read w at x).held
unfolding read
kept_read w at None = kept-ends w.held at _
kept_read w at (Some x) = kept-request w at _

kept-disconnect : (w : World) → Kept w.held (disconnect w).held
unfolding disconnect
kept-disconnect w = go w.held.state.bearer.link.terminating
  where
    g : Held
    g = on_state w.held (with_bearer w.held.state (with_link w.held.state.bearer (terminated w.held.state.bearer.link)))

    go : (b : Bool) → Kept w.held (pick b w (record { held = g; told = asks_to w.told })).held
    go true = kept-none w.held
    go false = still refl

kept-linked : (w : World) (at : Micros) (s : Step) → Kept w.held (start_linked w at s).held
unfolding start_linked
kept-linked w at (Scan ms) = still refl
kept-linked w at (Connect target interval latency timeout ms) = kept-ends w.held at Ok
kept-linked w at (ExchangeMtu mtu) = kept-request w at _
kept-linked w at DiscoverServices =
    kept_then (still {h = w.held} {c = forgotten w.held.state} refl) (kept-services (on_held w (on_state w.held (forgotten w.held.state))) at 1)
kept-linked w at (DiscoverCharacteristics u) = kept_in w at _
kept-linked w at (Subscribe u indicate) = kept-subscribe w at indicate _
kept-linked w at (Write u response) = kept-write w at response _
kept-linked w at (Read u) = kept_read w at _
kept-linked w at (WaitNotification u ms age) =
    kept_then (kept-waits w.held at ms) (kept-check (waits_for w.held at ms) at)
kept-linked w at (Wait ms) = still refl
kept-linked w at Disconnect = kept-disconnect w
kept-linked w at (Capture enabled) = kept-ends w.held at Ok
kept-linked w at (CaptureSecrets secrets) = kept-ends w.held at Ok

pub kept-start : (w : World) (at : Micros) → Kept w.held (start w at).held
unfolding start start_on
kept-start w at = go w.held.state.bearer.present (barred w.held.state.options w.held.state.bearer s)
  where
    s : Step
    s = w.held.state.running.step

    go : (b c : Bool) → Kept w.held (pick b (pick c (on_held w (ends w.held at BearerClosed)) (start_linked w at s)) (on_held w (start_unlinked w.held at s))).held
    go true true = kept-ends w.held at BearerClosed
    go true false = kept-linked w at s
    go false c = kept-alone w.held at (unlinked_step s)
