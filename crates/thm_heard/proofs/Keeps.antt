-- What leaves the link, its handle and what is held of a frame as they are: all that a step does when it begins, and when it ends.
use Rattle.std.specs.Prelude.{Option, Some, None}
use Prim.Native.Nat.{ℕ, ◌+◌, ◌*◌, ◌≤◌, ◌<◌}
use mathlib.Core.Path.{◌≡◌, refl, ap, ◌∙◌}
use mathlib.Core.Bool.{Bool, true, false, ◌||◌}
use mathlib.Core.List.{List}
use native.Mathlib.Omega.{arith}
use lib.ListN.{drop}
use lib.Dec.{eqb, ltb}
use borrow.Author.Tests.{ltb-true}
use Rattle.bytes_base.specs.Choice.{pick}
use Rattle.bytes_base.specs.Splice.{splice}
use Rattle.bytes_base.proofs.SpliceLaws.{moved_down}
use Rattle.lists.specs.Blocks.{place, lowered, stored}
use Rattle.lists.proofs.BlockLaws.{drop_past, lowered-past}
use Rattle.state_places.specs.Sizes.{most_steps, most_results, result_size, value_size, held_at, running_at, waiting_at}
use Rattle.time.specs.declared.Micros.{Micros}
use Rattle.time.specs.declared.Millis.{Millis}
use Rattle.notifications.specs.declared.Age.{Age}
use Rattle.notifications.specs.declared.Wanted.{Wanted}
use Rattle.gatt_services.specs.declared.Service.{Service}
use Rattle.gatt_descriptors.specs.Range.{descriptor_range}
use Rattle.state.specs.Central.{Central, with_counters, with_bearer}
use Rattle.state.specs.declared.Step.{Step}
use Rattle.state.specs.declared.Step.TheVariants.{Scan, Connect, ExchangeMtu, DiscoverServices, DiscoverCharacteristics, Subscribe, Write, Read, WaitNotification, Wait, Disconnect, Capture, CaptureSecrets}
use Rattle.state.specs.declared.StepStatus.{StepStatus}
use Rattle.state.specs.declared.StepStatus.TheVariants.{Ok, TooLong, BearerClosed}
use Rattle.script_rules.specs.World.{Held, World, on_held, on_state}
use Rattle.script_rules.specs.Finish.{result_part, ended, finish, with_link}
use Rattle.script_rules.specs.Send.{request}
use Rattle.script_rules.specs.Waiting.{take_step}
use Rattle.l2cap.specs.Frame.{att_pdu}
use Rattle.att_pdu.specs.Numbers.{op_write_req}
use Rattle.att_pdu.specs.Pdu.{read_by_type_req}
use Rattle.script_rules.specs.Discovery.{characteristic_type, asking, discover_services, ask_range, discover_descriptors, discover_characteristics}
use Rattle.script_rules.specs.declared.Alone.{Alone}
use Rattle.script_rules.specs.declared.Alone.TheVariants as alone
use Rattle.script_rules.specs.declared.Awaited.{Awaited}
use Rattle.std.specs.Prelude.{Option, Some, None}
use Rattle.script_rules.specs.Wait.{wanted, wait_passes, passed_on, passed, passing, check_one, awaited, check_for, check_wait}
use Rattle.script_rules.specs.Start.{ends, waits_for, unlinked_step, start_alone, start_unlinked, forgotten, discover_in, subscribe_at, subscribe, commanded, write, read, terminated, asks_to, disconnect, start_linked, barred, start_on, start}
use Rattle.gatt_characteristics.specs.declared.Characteristic.{Characteristic}

-- the link, its handle, the number of bytes held, whether the bearer is closed and what was chosen are as they were
pub record Bears (h g : Held) : Type 0 where
  pub held : g.state.bearer.held ≡ h.state.bearer.held
  pub present : g.state.bearer.present ≡ h.state.bearer.present
  pub closed : g.state.bearer.closed ≡ h.state.bearer.closed
  pub handle : g.state.bearer.link.handle ≡ h.state.bearer.link.handle
  pub options : g.state.options ≡ h.state.options

-- and so is every byte of the store from those held on
pub record Keeps (h g : Held) : Type 0 where
  pub bears : Bears h g
  pub above : drop held_at g.store ≡ drop held_at h.store

pub bears-none : (h : Held) → Bears h h
bears-none h = record { held = refl; present = refl; closed = refl; handle = refl; options = refl }

pub bears-then : {h g i : Held} → Bears h g → Bears g i → Bears h i
bears-then a b = record { held = b.held ∙ a.held; present = b.present ∙ a.present; closed = b.closed ∙ a.closed; handle = b.handle ∙ a.handle; options = b.options ∙ a.options }

pub keeps-none : (h : Held) → Keeps h h
keeps-none h = record { bears = bears-none h; above = refl }

pub keeps_then : {h g i : Held} → Keeps h g → Keeps g i → Keeps h i
keeps_then a b = record { bears = bears-then a.bears b.bears; above = b.above ∙ a.above }

-- a change of other parts of the state
pub still : {h : Held} {c : Central} → c.bearer.held ≡ h.state.bearer.held → c.bearer.present ≡ h.state.bearer.present → c.bearer.closed ≡ h.state.bearer.closed
    → c.bearer.link.handle ≡ h.state.bearer.link.handle → c.options ≡ h.state.options → Keeps h (on_state h c)
still a b c d e = record { bears = record { held = a; present = b; closed = c; handle = d; options = e }; above = refl }

-- ---- the store below what is held

-- a result's value stands there
above-result : (count : ℕ) (src : List ℕ) (from n : ℕ) (s : List ℕ) → n ≤ result_size → drop held_at (stored result_part count src from n s) ≡ drop held_at s
unfolding stored
above-result count src from n s m = go (ltb count most_results) refl
  where
    go : (b : Bool) → ltb count most_results ≡ b
        → drop held_at (pick b (splice s (place result_part count) src from n) (splice (lowered result_part s) (place result_part 63) src from n)) ≡ drop held_at s
    go true e = let r : count < most_results = ltb-true count most_results e in drop_past s (place result_part count) src from n held_at (omega (arith, r, m))
    go false e = drop_past (lowered result_part s) (place result_part 63) src from n held_at (omega (arith, m)) ∙ lowered-past result_part s held_at (omega arith) (omega arith)

pub bears-finish : (h : Held) (at : Micros) (st : StepStatus) (from n heard : ℕ) → Bears h (finish h at st from n heard)
unfolding finish ended
bears-finish h at st from n heard = go h.state.running.active
  where
    go : (b : Bool) → Bears h (pick b (ended h at st from n heard) h)
    go true = record { held = refl; present = refl; closed = refl; handle = refl; options = refl }
    go false = bears-none h

above-finish : (h : Held) (at : Micros) (st : StepStatus) (from n heard : ℕ) → n ≤ result_size → drop held_at (finish h at st from n heard).store ≡ drop held_at h.store
unfolding finish ended
above-finish h at st from n heard m = go h.state.running.active
  where
    go : (b : Bool) → drop held_at (pick b (ended h at st from n heard) h).store ≡ drop held_at h.store
    go true = above-result h.state.results.count h.store from n h.store m
    go false = refl

-- the step ends with no value
pub keeps-ends : (h : Held) (at : Micros) (st : StepStatus) → Keeps h (ends h at st)
keeps-ends h at st = record { bears = bears-finish h at st held_at 0 0; above = above-finish h at st held_at 0 0 (omega arith) }

-- the first waiting step is taken: its value and those behind it move down
pub keeps-take : (h : Held) → h.state.queue.count ≤ most_steps → Keeps h (take_step h)
unfolding take_step
keeps-take h few =
    let n = value_size * h.state.queue.count in
    record {
      bears = record { held = refl; present = refl; closed = refl; handle = refl; options = refl };
      above = ap (drop held_at) (moved_down h.store running_at (waiting_at 0) n (omega arith)) ∙ drop_past h.store running_at h.store (waiting_at 0) n held_at (omega (arith, few));
    }

keeps-waits : (h : Held) (at : Micros) (ms : Millis) → Keeps h (waits_for h at ms)
keeps-waits h at ms = still refl refl refl refl refl

-- ---- requests

pub keeps-request : (w : World) (at : Micros) (pdu : List ℕ) → Keeps w.held (request w at pdu).held
unfolding request
keeps-request w at pdu = still refl refl refl refl refl

-- discovery's next request
keeps-asking : (w : World) (phase cursor : ℕ) (at : Micros) (pdu : List ℕ) → Keeps w.held (request (asking w phase cursor) at pdu).held
unfolding request
keeps-asking w phase cursor at pdu = still refl refl refl refl refl

pub keeps-services : (w : World) (at : Micros) (from : ℕ) → Keeps w.held (discover_services w at from).held
unfolding discover_services
keeps-services w at from = keeps-asking w 0 from at _

keeps-range : (w : World) (at : Micros) (r : Option (ℕ × ℕ)) → Keeps w.held (ask_range w at r).held
unfolding ask_range
keeps-range w at None = keeps-ends w.held at Ok
keeps-range w at (Some (start, end)) = keeps-asking w 2 start at _

pub keeps-descriptors : (w : World) (at : Micros) (svc : Service) (from : ℕ) → Keeps w.held (discover_descriptors w at svc from).held
unfolding discover_descriptors
keeps-descriptors w at svc from = keeps-range w at (descriptor_range w.held.state.characteristics svc.start svc.end from)

pub keeps-characteristics : (w : World) (at : Micros) (svc : Service) (from : ℕ) → Keeps w.held (discover_characteristics w at svc from).held
unfolding discover_characteristics
keeps-characteristics w at svc from = go (ltb svc.end from || eqb from 0)
  where
    go : (b : Bool) → Keeps w.held (pick b (discover_descriptors w at svc svc.start) (request (asking w 1 from) at (read_by_type_req from svc.end characteristic_type))).held
    go true = keeps-descriptors w at svc svc.start
    go false = keeps-asking w 1 from at _

-- ---- the wait check

keeps-passing : (h : Held) (at : Micros) (w : Wanted) → Keeps h (passing h at w)
keeps-passing h at w =
    let g = on_state h (with_counters h.state (passed h.state.counters)) in
    let a : Keeps h g = still refl refl refl refl refl in
    let n = passed_on h.state w w.age in
    keeps_then a (record { bears = bears-finish g at Ok held_at 0 n; above = above-finish g at Ok held_at 0 n (omega arith) })

keeps-one : (h : Held) (at : Micros) (age : Age) (x : Option Characteristic) → Keeps h (check_one h at age x)
unfolding check_one
keeps-one h at age None = keeps-ends h at _
keeps-one h at age (Some x) = let w = wanted h.state at x.value_handle age in go w (wait_passes h w)
  where
    go : (w : Wanted) (b : Bool) → Keeps h (pick b (passing h at w) h)
    go w true = keeps-passing h at w
    go w false = keeps-none h

keeps-for : (h : Held) (at : Micros) (x : Option Awaited) → Keeps h (check_for h at x)
unfolding check_for
keeps-for h at None = keeps-none h
keeps-for h at (Some a) = keeps-one h at a.age _

pub keeps-check : (h : Held) (at : Micros) → Keeps h (check_wait h at)
unfolding check_wait
keeps-check h at = go h.state.running.active
  where
    go : (b : Bool) → Keeps h (pick b (check_for h at (awaited h.state.running.step)) h)
    go true = keeps-for h at (awaited h.state.running.step)
    go false = keeps-none h

-- ---- each step

keeps-alone : (h : Held) (at : Micros) (a : Alone) → Keeps h (start_alone h at a)
unfolding start_alone
keeps-alone h at (alone.Runs ms) = still refl refl refl refl refl
keeps-alone h at alone.Done = keeps-ends h at _
keeps-alone h at alone.NeedsLink = keeps-ends h at _

keeps-in : (w : World) (at : Micros) (x : Option Service) → Keeps w.held (discover_in w at x).held
unfolding discover_in
keeps-in w at (Some svc) = keeps-characteristics w at svc svc.start
keeps-in w at None = keeps-services w at 1

keeps-subscribe-at : (w : World) (at : Micros) (indicate : Bool) (x : Option ℕ) → Keeps w.held (subscribe_at w at indicate x).held
unfolding subscribe_at
keeps-subscribe-at w at indicate None = keeps-ends w.held at _
keeps-subscribe-at w at indicate (Some handle) = keeps-request w at _

keeps-subscribe : (w : World) (at : Micros) (indicate : Bool) (x : Option Characteristic) → Keeps w.held (subscribe w at indicate x).held
unfolding subscribe
keeps-subscribe w at indicate None = keeps-ends w.held at _
keeps-subscribe w at indicate (Some x) = keeps-subscribe-at w at indicate x.cccd

keeps-write : (w : World) (at : Micros) (response : Bool) (x : Option Characteristic) → Keeps w.held (write w at response x).held
unfolding write
keeps-write w at response None = keeps-ends w.held at _
keeps-write w at response (Some x) = go (ltb w.held.state.bearer.link.mtu (w.held.state.running.len + 3)) response
  where
    n : ℕ
    n = w.held.state.running.len

    go : (a b : Bool)
        → Keeps w.held
        (pick a (on_held w (ends w.held at TooLong)) (pick b (request w at (att_pdu op_write_req x.value_handle w.held.store running_at n)) (commanded w at x.value_handle n))).held
    go true b = keeps-ends w.held at TooLong
    go false true = keeps-request w at _
    go false false = keeps-ends w.held at Ok

keeps-read : (w : World) (at : Micros) (x : Option Characteristic) → Keeps w.held (read w at x).held
unfolding read
keeps-read w at None = keeps-ends w.held at _
keeps-read w at (Some x) = keeps-request w at _

keeps-disconnect : (w : World) → Keeps w.held (disconnect w).held
unfolding disconnect
keeps-disconnect w = go w.held.state.bearer.link.terminating
  where
    g : Held
    g = on_state w.held (with_bearer w.held.state (with_link w.held.state.bearer (terminated w.held.state.bearer.link)))

    go : (b : Bool) → Keeps w.held (pick b w (record { held = g; told = asks_to w.told })).held
    go true = keeps-none w.held
    go false = still refl refl refl refl refl

keeps-linked : (w : World) (at : Micros) (s : Step) → Keeps w.held (start_linked w at s).held
unfolding start_linked
keeps-linked w at (Scan ms) = still refl refl refl refl refl
keeps-linked w at (Connect target interval latency timeout ms) = keeps-ends w.held at Ok
keeps-linked w at (ExchangeMtu mtu) = keeps-request w at _
keeps-linked w at DiscoverServices =
    keeps_then (still {h = w.held} {c = forgotten w.held.state} refl refl refl refl refl) (keeps-services (on_held w (on_state w.held (forgotten w.held.state))) at 1)
keeps-linked w at (DiscoverCharacteristics u) = keeps-in w at _
keeps-linked w at (Subscribe u indicate) = keeps-subscribe w at indicate _
keeps-linked w at (Write u response) = keeps-write w at response _
keeps-linked w at (Read u) = keeps-read w at _
keeps-linked w at (WaitNotification u ms age) =
    keeps_then (keeps-waits w.held at ms) (keeps-check (waits_for w.held at ms) at)
keeps-linked w at (Wait ms) = still refl refl refl refl refl
keeps-linked w at Disconnect = keeps-disconnect w
keeps-linked w at (Capture enabled) = keeps-ends w.held at Ok
keeps-linked w at (CaptureSecrets secrets) = keeps-ends w.held at Ok

pub keeps-start : (w : World) (at : Micros) → Keeps w.held (start w at).held
unfolding start start_on
keeps-start w at = go w.held.state.bearer.present (barred w.held.state.options w.held.state.bearer s)
  where
    s : Step
    s = w.held.state.running.step

    go : (b c : Bool) → Keeps w.held (pick b (pick c (on_held w (ends w.held at BearerClosed)) (start_linked w at s)) (on_held w (start_unlinked w.held at s))).held
    go true true = keeps-ends w.held at BearerClosed
    go true false = keeps-linked w at s
    go false c = keeps-alone w.held at (unlinked_step s)
