-- What a step that begins leads to.
use Rattle.std.specs.Prelude.{Option, Some, None}
use Prim.Native.Nat.{ℕ, ◌+◌}
use mathlib.Core.Path.{◌≡◌, refl, sym, ap, ◌∙◌, subst}
use mathlib.Core.Bool.{Bool, true, false, ◌||◌, false≢true}
use mathlib.Core.List.{List}
use native.Mathlib.Omega.{arith}
use lib.Dec.{eqb, ltb}
use Rattle.bytes_base.specs.Choice.{pick}
use Rattle.state_places.specs.Sizes.{running_at}
use Rattle.time.specs.declared.Micros.{Micros}
use Rattle.time.specs.declared.Millis.{Millis}
use Rattle.uuid_value.specs.declared.Uuid.{Uuid}
use Rattle.gatt_services.specs.declared.Service.{Service}
use Rattle.gatt_characteristics.specs.Characteristic.{known, characteristic_with}
use Rattle.gatt_descriptors.specs.Range.{descriptor_range}
use Rattle.notifications.specs.declared.Age.{Age}
use Rattle.notifications.specs.declared.Wanted.{Wanted}
use Rattle.state.specs.Central.{with_bearer}
use Rattle.state.specs.declared.Step.{Step}
use Rattle.state.specs.declared.Step.TheVariants.{Scan, Connect, ExchangeMtu, DiscoverServices, DiscoverCharacteristics, Subscribe, Write, Read, WaitNotification, Wait, Disconnect, Capture, CaptureSecrets}
use Rattle.state.specs.declared.StepStatus.TheVariants.{Ok, NotConnected, NotFound, TooLong, BearerClosed}
use Rattle.script_rules.specs.World.{Held, World, on_held, on_state}
use Rattle.script_rules.specs.Finish.{with_link}
use Rattle.script_rules.specs.Send.{request}
use Rattle.l2cap.specs.Frame.{att_pdu}
use Rattle.att_pdu.specs.Numbers.{op_write_req}
use Rattle.att_pdu.specs.Pdu.{read_by_type_req}
use Rattle.script_rules.specs.Discovery.{characteristic_type, asking, discover_services, ask_range, discover_descriptors, discover_characteristics}
use Rattle.script_rules.specs.declared.Alone.{Alone}
use Rattle.script_rules.specs.declared.Alone.TheVariants as alone
use Rattle.script_rules.specs.declared.Awaited.{Awaited}
use Rattle.std.specs.Prelude.{Option, Some, None}
use Rattle.script_rules.specs.Wait.{wanted, wait_passes, passing, check_one, awaited, check_for, check_wait}
use Rattle.script_rules.specs.Start.{ends, waits_for, unlinked_step, start_alone, start_unlinked, forgotten, discover_in, subscribe_at, subscribe, commanded, write, read, terminated, asks_to, disconnect, start_linked, barred, start_on, start}
use Rattle.thm_waits.specs.Waits.{is_wait_notification}
use Rattle.thm_waits.proofs.Leads.{other_none, other, Plain, Leads, stays, passes-so, leads-none, leads-then, leads-ends, leads-badly}
use Rattle.gatt_characteristics.specs.declared.Characteristic.{Characteristic}

pub leads-request : (w : World) (at : Micros) (pdu : List ℕ) → Plain w.held → Leads at w.held (request w at pdu).held
unfolding request
leads-request w at pdu k = stays (other refl refl refl refl refl refl refl refl refl)

-- discovery's next request
leads-asking : (w : World) (phase cursor : ℕ) (at : Micros) (pdu : List ℕ) → Plain w.held → Leads at w.held (request (asking w phase cursor) at pdu).held
unfolding request
leads-asking w phase cursor at pdu k = stays (other refl refl refl refl refl refl refl refl refl)

pub leads-services : (w : World) (at : Micros) (from : ℕ) → Plain w.held → Leads at w.held (discover_services w at from).held
unfolding discover_services
leads-services w at from k = leads-asking w 0 from at _ k

leads-range : (w : World) (at : Micros) (r : Option (ℕ × ℕ)) → Plain w.held → Leads at w.held (ask_range w at r).held
unfolding ask_range
leads-range w at None k = leads-ends w.held at Ok k
leads-range w at (Some (start, end)) k = leads-asking w 2 start at _ k

pub leads-descriptors : (w : World) (at : Micros) (svc : Service) (from : ℕ) → Plain w.held → Leads at w.held (discover_descriptors w at svc from).held
unfolding discover_descriptors
leads-descriptors w at svc from k = leads-range w at (descriptor_range w.held.state.characteristics svc.start svc.end from) k

pub leads-characteristics : (w : World) (at : Micros) (svc : Service) (from : ℕ) → Plain w.held → Leads at w.held (discover_characteristics w at svc from).held
unfolding discover_characteristics
leads-characteristics w at svc from k = go (ltb svc.end from || eqb from 0)
  where
    go : (b : Bool) → Leads at w.held (pick b (discover_descriptors w at svc svc.start) (request (asking w 1 from) at (read_by_type_req from svc.end characteristic_type))).held
    go true = leads-descriptors w at svc svc.start k
    go false = leads-asking w 1 from at _ k

-- ---- each step

leads-alone : (h : Held) (at : Micros) (a : Alone) → Plain h → Leads at h (start_alone h at a)
unfolding start_alone
leads-alone h at (alone.Runs ms) k = stays (other refl refl refl refl refl refl refl refl refl)
leads-alone h at alone.Done k = leads-ends h at _ k
leads-alone h at alone.NeedsLink k = leads-ends h at _ k

leads-in : (w : World) (at : Micros) (x : Option Service) → Plain w.held → Leads at w.held (discover_in w at x).held
unfolding discover_in
leads-in w at (Some svc) k = leads-characteristics w at svc svc.start k
leads-in w at None k = leads-services w at 1 k

leads-subscribe-at : (w : World) (at : Micros) (indicate : Bool) (x : Option ℕ) → Plain w.held → Leads at w.held (subscribe_at w at indicate x).held
unfolding subscribe_at
leads-subscribe-at w at indicate None k = leads-ends w.held at _ k
leads-subscribe-at w at indicate (Some handle) k = leads-request w at _ k

leads-subscribe : (w : World) (at : Micros) (indicate : Bool) (x : Option Characteristic) → Plain w.held → Leads at w.held (subscribe w at indicate x).held
unfolding subscribe
leads-subscribe w at indicate None k = leads-ends w.held at _ k
leads-subscribe w at indicate (Some x) k = leads-subscribe-at w at indicate x.cccd k

leads-write : (w : World) (at : Micros) (response : Bool) (x : Option Characteristic) → Plain w.held → Leads at w.held (write w at response x).held
unfolding write
leads-write w at response None k = leads-ends w.held at _ k
leads-write w at response (Some x) k = go (ltb w.held.state.bearer.link.mtu (w.held.state.running.len + 3)) response
  where
    n : ℕ
    n = w.held.state.running.len

    go : (a b : Bool)
        → Leads at w.held
        (pick a (on_held w (ends w.held at TooLong)) (pick b (request w at (att_pdu op_write_req x.value_handle w.held.store running_at n)) (commanded w at x.value_handle n))).held
    go true b = leads-ends w.held at TooLong k
    go false true = leads-request w at _ k
    go false false = leads-ends w.held at Ok k

leads-read : (w : World) (at : Micros) (x : Option Characteristic) → Plain w.held → Leads at w.held (read w at x).held
unfolding read
leads-read w at None k = leads-ends w.held at _ k
leads-read w at (Some x) k = leads-request w at _ k

leads-disconnect : {at : Micros} (w : World) → Plain w.held → Leads at w.held (disconnect w).held
unfolding disconnect
leads-disconnect {at} w k = go w.held.state.bearer.link.terminating
  where
    g : Held
    g = on_state w.held (with_bearer w.held.state (with_link w.held.state.bearer (terminated w.held.state.bearer.link)))

    go : (b : Bool) → Leads at w.held (pick b w (record { held = g; told = asks_to w.told })).held
    go true = leads-none w.held
    go false = stays (other refl refl refl refl refl refl refl refl refl)

leads-linked : (w : World) (at : Micros) (s : Step) → is_wait_notification s ≡ false → Plain w.held → Leads at w.held (start_linked w at s).held
unfolding start_linked
leads-linked w at (Scan ms) p k = stays (other refl refl refl refl refl refl refl refl refl)
leads-linked w at (Connect target interval latency timeout ms) p k = leads-ends w.held at Ok k
leads-linked w at (ExchangeMtu mtu) p k = leads-request w at _ k
leads-linked w at DiscoverServices p k =
    leads-then {g = on_state w.held (forgotten w.held.state)} (other refl refl refl refl refl refl refl refl refl)
    (leads-services (on_held w (on_state w.held (forgotten w.held.state))) at 1 k)
leads-linked w at (DiscoverCharacteristics u) p k = leads-in w at _ k
leads-linked w at (Subscribe u indicate) p k = leads-subscribe w at indicate _ k
leads-linked w at (Write u response) p k = leads-write w at response _ k
leads-linked w at (Read u) p k = leads-read w at _ k
leads-linked w at (WaitNotification u ms age) p k = absurd (false≢true (sym p))
leads-linked w at (Wait ms) p k = stays (other refl refl refl refl refl refl refl refl refl)
leads-linked w at Disconnect p k = leads-disconnect w k
leads-linked w at (Capture enabled) p k = leads-ends w.held at Ok k
leads-linked w at (CaptureSecrets secrets) p k = leads-ends w.held at Ok k

pub leads-start : (w : World) (at : Micros) → Plain w.held → Leads at w.held (start w at).held
unfolding start start_on
leads-start w at k = go w.held.state.bearer.present (barred w.held.state.options w.held.state.bearer s)
  where
    s : Step
    s = w.held.state.running.step

    go : (b c : Bool) → Leads at w.held (pick b (pick c (on_held w (ends w.held at BearerClosed)) (start_linked w at s)) (on_held w (start_unlinked w.held at s))).held
    go true true = leads-ends w.held at BearerClosed k
    go true false = leads-linked w at s k k
    go false c = leads-alone w.held at (unlinked_step s) k

-- ---- a WaitNotification

leads-which : (h : Held) (at : Micros) (c : Uuid) (ms : Millis) (age : Age) (x : Option Characteristic) → characteristic_with c (known h.state.characteristics) ≡ x
    → h.state.running.step ≡ WaitNotification c ms age → h.state.running.active ≡ true
    → Leads at h (check_one h at age x)
unfolding check_one
leads-which h at c ms age None k e on = leads-badly h at NotFound (λ f. let z : ◌≡◌ {A = ℕ} 0 1 = cc in omega arith)
leads-which h at c ms age (Some x) k e on = go (wait_passes h w) refl
  where
    w : Wanted
    w = wanted h.state at x.value_handle age

    go : (b : Bool) → wait_passes h w ≡ b → Leads at h (pick b (passing h at w) h)
    go true f = passes-so h c ms age x (other_none h) k e on f refl
    go false f = leads-none h

-- the check
pub leads-check : (h : Held) (at : Micros) (c : Uuid) (ms : Millis) (age : Age) → h.state.running.step ≡ WaitNotification c ms age → Leads at h (check_wait h at)
unfolding check_wait check_for
leads-check h at c ms age e =
    subst (λ (s : Step). Leads at h (pick h.state.running.active (check_for h at (awaited s)) h)) (sym e) (go h.state.running.active refl)
  where
    go : (b : Bool) → h.state.running.active ≡ b → Leads at h (pick b (check_one h at age (characteristic_with c (known h.state.characteristics))) h)
    go true f = leads-which h at c ms age (characteristic_with c (known h.state.characteristics)) refl e f
    go false f = leads-none h

pub leads-wait : (w : World) (at : Micros) (c : Uuid) (ms : Millis) (age : Age) → w.held.state.running.step ≡ WaitNotification c ms age → Leads at w.held (start w at).held
unfolding start start_on start_linked start_alone
leads-wait w at c ms age e =
    subst (λ (s : Step). Leads at w.held (pick w.held.state.bearer.present (start_on w at s) (on_held w (start_unlinked w.held at s))).held) (sym e)
    (go w.held.state.bearer.present (barred w.held.state.options w.held.state.bearer (WaitNotification c ms age)))
  where
    go : (b d : Bool) → Leads at w.held (pick b (pick d (on_held w (ends w.held at BearerClosed)) (start_linked w at (WaitNotification c ms age))) (on_held w (start_unlinked w.held at (WaitNotification c ms age)))).held
    go true true = leads-badly w.held at BearerClosed (λ f. let z : ◌≡◌ {A = ℕ} 0 1 = cc in omega arith)
    go true false = leads-then {g = waits_for w.held at ms} (other refl refl refl refl refl refl refl refl refl) (leads-check (waits_for w.held at ms) at c ms age e)
    go false d = leads-badly w.held at NotConnected (λ f. let z : ◌≡◌ {A = ℕ} 0 1 = cc in omega arith)

-- ---- either

pub data Kind (s : Step) : Type 0 where
  plain : is_wait_notification s ≡ false → Kind s
  waits : (c : Uuid) (ms : Millis) (age : Age) → s ≡ WaitNotification c ms age → Kind s

pub kind : (s : Step) → Kind s
kind (Scan ms) = plain refl
kind (Connect target interval latency timeout ms) = plain refl
kind (ExchangeMtu mtu) = plain refl
kind DiscoverServices = plain refl
kind (DiscoverCharacteristics u) = plain refl
kind (Subscribe u indicate) = plain refl
kind (Write u response) = plain refl
kind (Read u) = plain refl
kind (WaitNotification u ms age) = waits u ms age refl
kind (Wait ms) = plain refl
kind Disconnect = plain refl
kind (Capture enabled) = plain refl
kind (CaptureSecrets secrets) = plain refl

-- the check of another step has nothing to look at
pub unchecked : (h : Held) (at : Micros) → Plain h → check_wait h at ≡ h
unfolding check_wait check_for
unchecked h at p = ap (λ (a : Option Awaited). pick h.state.running.active (check_for h at a) h) (none h.state.running.step p) ∙ go h.state.running.active
  where
    none : (s : Step) → is_wait_notification s ≡ false → awaited s ≡ None
    none (Scan ms) e = refl
    none (Connect target interval latency timeout ms) e = refl
    none (ExchangeMtu mtu) e = refl
    none DiscoverServices e = refl
    none (DiscoverCharacteristics u) e = refl
    none (Subscribe u indicate) e = refl
    none (Write u response) e = refl
    none (Read u) e = refl
    none (WaitNotification u ms age) e = absurd (false≢true (sym e))
    none (Wait ms) e = refl
    none Disconnect e = refl
    none (Capture enabled) e = refl
    none (CaptureSecrets secrets) e = refl

    go : (b : Bool) → pick b h h ≡ h
    go true = refl
    go false = refl

pub leads_any : (w : World) (at : Micros) → Leads at w.held (start w at).held
leads_any w at = go (kind w.held.state.running.step)
  where
    go : Kind w.held.state.running.step → Leads at w.held (start w at).held
    go (plain p) = leads-start w at p
    go (waits c ms age e) = leads-wait w at c ms age e
