-- What leaves the tables, the notifications and their counters: all that a step does when it begins and when it ends, but for two kinds.
use Rattle.std.specs.Prelude.{Option, Some, None}
use Prim.Native.Nat.{ℕ, suc, ◌+◌, ◌*◌, ◌≤◌, ◌<◌}
use mathlib.Core.Path.{◌≡◌, refl, sym, ap, ap₂, ◌∙◌}
use mathlib.Core.Bool.{Bool, true, false, ◌||◌, false≢true}
use mathlib.Core.List.{List, [], ◌∷◌}
use native.Mathlib.Omega.{arith}
use lib.ListN.{take, drop}
use lib.Seq.{drop-drop}
use lib.Dec.{eqb, ltb}
use borrow.Author.Tests.{ltb-true, ltb-false}
use Rattle.bytes_base.specs.Choice.{pick}
use Rattle.state_places.specs.Sizes.{most_results, running_at, notification_at, held_at}
use Rattle.lists.specs.Blocks.{Part, Valued, valued, place, lowered, stored}
use Rattle.lists.proofs.BlockLaws.{drop_past, lowered-past, stored-room, stored-full}
use Rattle.time.specs.declared.Micros.{Micros}
use Rattle.notifications.specs.Kept.{part, live}
use Rattle.notifications.specs.declared.Notifications.{Notifications}
use Rattle.notifications.specs.declared.Age.{Age}
use Rattle.notifications.specs.declared.Wanted.{Wanted}
use Rattle.gatt_services.specs.declared.Service.{Service}
use Rattle.gatt_descriptors.specs.Range.{descriptor_range}
use Rattle.l2cap.specs.Frame.{att_pdu}
use Rattle.att_pdu.specs.Numbers.{op_write_req}
use Rattle.att_pdu.specs.Pdu.{read_by_type_req}
use Rattle.state.specs.Central.{Central, with_counters, with_bearer}
use Rattle.state.specs.declared.Counters.{Counters}
use Rattle.state.specs.declared.Step.{Step}
use Rattle.state.specs.declared.Step.TheVariants.{Scan, Connect, ExchangeMtu, DiscoverServices, DiscoverCharacteristics, Subscribe, Write, Read, WaitNotification, Wait, Disconnect, Capture, CaptureSecrets}
use Rattle.state.specs.declared.StepStatus.{StepStatus}
use Rattle.state.specs.declared.StepStatus.TheVariants.{Ok, TooLong, BearerClosed}
use Rattle.script_rules.specs.World.{Held, World, on_held, on_state}
use Rattle.script_rules.specs.Finish.{result_part, ended, finish, with_link}
use Rattle.script_rules.specs.Send.{request}
use Rattle.script_rules.specs.Discovery.{characteristic_type, asking, discover_services, ask_range, discover_descriptors, discover_characteristics}
use Rattle.script_rules.specs.declared.Alone.{Alone}
use Rattle.script_rules.specs.declared.Alone.TheVariants as alone
use Rattle.script_rules.specs.declared.Awaited.{Awaited}
use Rattle.std.specs.Prelude.{Option, Some, None}
use Rattle.script_rules.specs.Wait.{wanted, wait_passes, passed_on, passed, passing, check_one, awaited, check_for, check_wait}
use Rattle.script_rules.specs.Start.{ends, waits_for, unlinked_step, start_alone, start_unlinked, forgotten, discover_in, subscribe_at, subscribe, commanded, write, read, terminated, asks_to, disconnect, start_linked, barred, start_on, start}
use Rattle.thm_links.specs.Keeps.{kept_notifications, Keeps, starts_quietly}
use Rattle.gatt_characteristics.specs.declared.Characteristic.{Characteristic}

-- ---- what is left alone

-- what waits, the notifications, how many came, how many links there were, and every byte of the store from their part on
pub record Hears (h g : Held) : Type 0 where
  pub queue : g.state.queue ≡ h.state.queue
  pub notifications : g.state.notifications ≡ h.state.notifications
  pub notified : g.state.counters.notified ≡ h.state.counters.notified
  pub links : g.state.counters.links ≡ h.state.counters.links
  pub store : drop (notification_at 0) g.store ≡ drop (notification_at 0) h.store

-- and both tables, and where a wait looks from
pub record Leaves (h g : Held) : Type 0 where
  pub hears : Hears h g
  pub services : g.state.services ≡ h.state.services
  pub characteristics : g.state.characteristics ≡ h.state.characteristics
  pub from : g.state.counters.wait_from ≡ h.state.counters.wait_from

pub hears-then : {h g i : Held} → Hears h g → Hears g i → Hears h i
hears-then a b =
    record {
      queue = b.queue ∙ a.queue;
      notifications = b.notifications ∙ a.notifications;
      notified = b.notified ∙ a.notified;
      links = b.links ∙ a.links;
      store = b.store ∙ a.store;
    }

pub leaves_none : (h : Held) → Leaves h h
leaves_none h = record { hears = record { queue = refl; notifications = refl; notified = refl; links = refl; store = refl }; services = refl; characteristics = refl; from = refl }

pub leaves-then : {h g i : Held} → Leaves h g → Leaves g i → Leaves h i
leaves-then a b =
    record {
      hears = hears-then a.hears b.hears;
      services = b.services ∙ a.services;
      characteristics = b.characteristics ∙ a.characteristics;
      from = b.from ∙ a.from;
    }

-- a change of other parts of the state
pub still : {h : Held} {c : Central} → c.queue ≡ h.state.queue → c.notifications ≡ h.state.notifications → c.counters ≡ h.state.counters → c.services ≡ h.state.services
    → c.characteristics ≡ h.state.characteristics → Leaves h (on_state h c)
still q n k s x =
    record {
      hears = record { queue = q; notifications = n; notified = ap (λ (y : Counters). y.notified) k; links = ap (λ (y : Counters). y.links) k; store = refl };
      services = s;
      characteristics = x;
      from = ap (λ (y : Counters). y.wait_from) k;
    }

-- ---- what is kept then

-- the values of entries stand from their part's base on
values-beyond : {A : Type 0} (len : A → ℕ) (p : Part) (s r : List ℕ) (i : ℕ) (l : List A) → drop p.base s ≡ drop p.base r → valued len p s i l ≡ valued len p r i l
unfolding valued
values-beyond len p s r i [] e = refl
values-beyond len p s r i (x ∷ l) e =
    ap₂ (λ (v : List ℕ) (t : List (Valued _)). record { entry = x; value = v } ∷ t)
    (ap (take (len x)) (sym (drop-drop (p.size * i) p.base s) ∙ ap (drop (p.size * i)) e ∙ drop-drop (p.size * i) p.base r))
    (values-beyond len p s r (suc i) l e)

pub kept_from : (h g : Held) → g.state.notifications ≡ h.state.notifications → drop (notification_at 0) g.store ≡ drop (notification_at 0) h.store
    → kept_notifications g ≡ kept_notifications h
kept_from h g n s =
    ap (λ (x : Notifications). valued (λ y. y.len) part g.store 0 (live x)) n
    ∙ values-beyond (λ y. y.len) part g.store h.store 0 (live h.state.notifications) s

pub keeps : {h g : Held} → Leaves h g → Keeps h g
keeps {h} {g} a =
    record { services = a.services; characteristics = a.characteristics; notifications = kept_from h g a.hears.notifications a.hears.store; notified = a.hears.notified; wait_from = a.from }

-- ---- a step ends

-- the block of a result that has no value stands below the notifications' part
stored-beyond : (count from : ℕ) (s : List ℕ) → drop (notification_at 0) (stored result_part count s from 0 s) ≡ drop (notification_at 0) s
stored-beyond count from s = go (ltb count most_results) refl
  where
    go : (b : Bool) → ltb count most_results ≡ b → drop (notification_at 0) (stored result_part count s from 0 s) ≡ drop (notification_at 0) s
    go true e =
        let k : count < most_results = ltb-true count most_results e in
        ap (drop (notification_at 0)) (stored-room result_part count s from 0 s k)
        ∙ drop_past s (place result_part count) s from 0 (notification_at 0) (omega arith)
    go false e =
        let k : most_results ≤ count = ltb-false count most_results e in
        ap (drop (notification_at 0)) (stored-full result_part count s from 0 s k)
        ∙ drop_past (lowered result_part s) (place result_part 63) s from 0 (notification_at 0) (omega arith)
        ∙ lowered-past result_part s (notification_at 0) (omega arith) (omega arith)

leaves-finish : (h : Held) (at : Micros) (st : StepStatus) (heard : ℕ) → Leaves h (finish h at st held_at 0 heard)
unfolding finish ended
leaves-finish h at st heard = go h.state.running.active
  where
    go : (b : Bool) → Leaves h (pick b (ended h at st held_at 0 heard) h)
    go true =
        record {
          hears = record { queue = refl; notifications = refl; notified = refl; links = refl; store = stored-beyond h.state.results.count held_at h.store };
          services = refl;
          characteristics = refl;
          from = refl;
        }
    go false = leaves_none h

pub leaves-ends : (h : Held) (at : Micros) (st : StepStatus) → Leaves h (ends h at st)
leaves-ends h at st = leaves-finish h at st 0

-- ---- discovery

leaves-request : (w : World) (at : Micros) (pdu : List ℕ) → Leaves w.held (request w at pdu).held
unfolding request
leaves-request w at pdu = still refl refl refl refl refl

leaves-asking : (w : World) (phase cursor : ℕ) (at : Micros) (pdu : List ℕ) → Leaves w.held (request (asking w phase cursor) at pdu).held
unfolding request
leaves-asking w phase cursor at pdu = still refl refl refl refl refl

leaves-services : (w : World) (at : Micros) (from : ℕ) → Leaves w.held (discover_services w at from).held
unfolding discover_services
leaves-services w at from = leaves-asking w 0 from at _

leaves-range : (w : World) (at : Micros) (r : Option (ℕ × ℕ)) → Leaves w.held (ask_range w at r).held
unfolding ask_range
leaves-range w at None = leaves-ends w.held at Ok
leaves-range w at (Some (start, end)) = leaves-asking w 2 start at _

leaves-descriptors : (w : World) (at : Micros) (svc : Service) (from : ℕ) → Leaves w.held (discover_descriptors w at svc from).held
unfolding discover_descriptors
leaves-descriptors w at svc from = leaves-range w at (descriptor_range w.held.state.characteristics svc.start svc.end from)

leaves-characteristics : (w : World) (at : Micros) (svc : Service) (from : ℕ) → Leaves w.held (discover_characteristics w at svc from).held
unfolding discover_characteristics
leaves-characteristics w at svc from = go (ltb svc.end from || eqb from 0)
  where
    go : (b : Bool) → Leaves w.held (pick b (discover_descriptors w at svc svc.start) (request (asking w 1 from) at (read_by_type_req from svc.end characteristic_type))).held
    go true = leaves-descriptors w at svc svc.start
    go false = leaves-asking w 1 from at _

-- ---- the wait check: where it passes, it sets where the next one looks from

hears-passing : (h : Held) (at : Micros) (w : Wanted) → Hears h (passing h at w)
hears-passing h at w =
    let g = on_state h (with_counters h.state (passed h.state.counters)) in
    let a : Hears h g = record { queue = refl; notifications = refl; notified = refl; links = refl; store = refl } in
    hears-then a (leaves-finish g at Ok (passed_on h.state w w.age)).hears

hears-one : (h : Held) (at : Micros) (age : Age) (x : Option Characteristic) → Hears h (check_one h at age x)
unfolding check_one
hears-one h at age None = (leaves-ends h at _).hears
hears-one h at age (Some x) = let w = wanted h.state at x.value_handle age in go w (wait_passes h w)
  where
    go : (w : Wanted) (b : Bool) → Hears h (pick b (passing h at w) h)
    go w true = hears-passing h at w
    go w false = (leaves_none h).hears

hears-for : (h : Held) (at : Micros) (x : Option Awaited) → Hears h (check_for h at x)
unfolding check_for
hears-for h at None = (leaves_none h).hears
hears-for h at (Some a) = hears-one h at a.age _

hears-check : (h : Held) (at : Micros) → Hears h (check_wait h at)
unfolding check_wait
hears-check h at = go h.state.running.active
  where
    go : (b : Bool) → Hears h (pick b (check_for h at (awaited h.state.running.step)) h)
    go true = hears-for h at (awaited h.state.running.step)
    go false = (leaves_none h).hears

-- ---- each step

pub leaves-alone : (h : Held) (at : Micros) (a : Alone) → Leaves h (start_alone h at a)
unfolding start_alone
leaves-alone h at (alone.Runs ms) = still refl refl refl refl refl
leaves-alone h at alone.Done = leaves-ends h at _
leaves-alone h at alone.NeedsLink = leaves-ends h at _

leaves_in : (w : World) (at : Micros) (x : Option Service) → Leaves w.held (discover_in w at x).held
unfolding discover_in
leaves_in w at (Some svc) = leaves-characteristics w at svc svc.start
leaves_in w at None = leaves-services w at 1

leaves-subscribe-at : (w : World) (at : Micros) (indicate : Bool) (x : Option ℕ) → Leaves w.held (subscribe_at w at indicate x).held
unfolding subscribe_at
leaves-subscribe-at w at indicate None = leaves-ends w.held at _
leaves-subscribe-at w at indicate (Some handle) = leaves-request w at _

leaves-subscribe : (w : World) (at : Micros) (indicate : Bool) (x : Option Characteristic) → Leaves w.held (subscribe w at indicate x).held
unfolding subscribe
leaves-subscribe w at indicate None = leaves-ends w.held at _
leaves-subscribe w at indicate (Some x) = leaves-subscribe-at w at indicate x.cccd

leaves-write : (w : World) (at : Micros) (response : Bool) (x : Option Characteristic) → Leaves w.held (write w at response x).held
unfolding write
leaves-write w at response None = leaves-ends w.held at _
leaves-write w at response (Some x) = go (ltb w.held.state.bearer.link.mtu (w.held.state.running.len + 3)) response
  where
    n : ℕ
    n = w.held.state.running.len

    go : (a b : Bool)
        → Leaves w.held
        (pick a (on_held w (ends w.held at TooLong)) (pick b (request w at (att_pdu op_write_req x.value_handle w.held.store running_at n)) (commanded w at x.value_handle n))).held
    go true b = leaves-ends w.held at TooLong
    go false true = leaves-request w at _
    go false false = leaves-ends w.held at Ok

leaves-read : (w : World) (at : Micros) (x : Option Characteristic) → Leaves w.held (read w at x).held
unfolding read
leaves-read w at None = leaves-ends w.held at _
leaves-read w at (Some x) = leaves-request w at _

leaves-disconnect : (w : World) → Leaves w.held (disconnect w).held
unfolding disconnect
leaves-disconnect w = go w.held.state.bearer.link.terminating
  where
    g : Held
    g = on_state w.held (with_bearer w.held.state (with_link w.held.state.bearer (terminated w.held.state.bearer.link)))

    go : (b : Bool) → Leaves w.held (pick b w (record { held = g; told = asks_to w.told })).held
    go true = leaves_none w.held
    go false = still refl refl refl refl refl

-- what a step that begins does: it leaves all, or is of the two kinds and leaves the notifications
pub record Begins (s : Step) (h g : Held) : Type 0 where
  pub hears : Hears h g
  pub quiet : starts_quietly s ≡ true → Leaves h g

begins-quietly : {s : Step} {h g : Held} → Leaves h g → Begins s h g
begins-quietly a = record { hears = a.hears; quiet = λ e. a }

begins-linked : (w : World) (at : Micros) (s : Step) → Begins s w.held (start_linked w at s).held
unfolding start_linked
begins-linked w at (Scan ms) = begins-quietly (still refl refl refl refl refl)
begins-linked w at (Connect target interval latency timeout ms) = begins-quietly (leaves-ends w.held at Ok)
begins-linked w at (ExchangeMtu mtu) = begins-quietly (leaves-request w at _)
begins-linked w at DiscoverServices =
    record {
      hears = hears-then {g = on_state w.held (forgotten w.held.state)} (record { queue = refl; notifications = refl; notified = refl; links = refl; store = refl })
          (leaves-services (on_held w (on_state w.held (forgotten w.held.state))) at 1).hears;
      quiet = λ e. absurd (false≢true e);
    }
begins-linked w at (DiscoverCharacteristics u) = begins-quietly (leaves_in w at _)
begins-linked w at (Subscribe u indicate) = begins-quietly (leaves-subscribe w at indicate _)
begins-linked w at (Write u response) = begins-quietly (leaves-write w at response _)
begins-linked w at (Read u) = begins-quietly (leaves-read w at _)
begins-linked w at (WaitNotification u ms age) =
    record {
      hears = hears-then {g = waits_for w.held at ms} (record { queue = refl; notifications = refl; notified = refl; links = refl; store = refl }) (hears-check (waits_for w.held at ms) at);
      quiet = λ e. absurd (false≢true e);
    }
begins-linked w at (Wait ms) = begins-quietly (still refl refl refl refl refl)
begins-linked w at Disconnect = begins-quietly (leaves-disconnect w)
begins-linked w at (Capture enabled) = begins-quietly (leaves-ends w.held at Ok)
begins-linked w at (CaptureSecrets secrets) = begins-quietly (leaves-ends w.held at Ok)

pub begins-start : (w : World) (at : Micros) → Begins w.held.state.running.step w.held (start w at).held
unfolding start start_on
begins-start w at = go w.held.state.bearer.present (barred w.held.state.options w.held.state.bearer s)
  where
    s : Step
    s = w.held.state.running.step

    go : (b c : Bool) → Begins s w.held (pick b (pick c (on_held w (ends w.held at BearerClosed)) (start_linked w at s)) (on_held w (start_unlinked w.held at s))).held
    go true true = begins-quietly (leaves-ends w.held at BearerClosed)
    go true false = begins-linked w at s
    go false c = begins-quietly (leaves-alone w.held at (unlinked_step s))
