-- What a connected and a disconnected call keep.
use Prim.Native.Nat.{ℕ, zero, suc, ◌*◌, ◌≤◌, ◌<◌}
use mathlib.Core.Path.{◌≡◌, refl, sym, ap, ◌∙◌, subst}
use mathlib.Core.Bool.{Bool, true, false, not, ◌&&◌}
use mathlib.Core.List.{List, [], ◌∷◌}
use native.Mathlib.Omega.{arith}
use lib.ListN.{length, take, drop, get_or, length-drop, length-take}
use lib.Dec.{ltb}
use borrow.Author.Tests.{eqb-true}
use Rattle.bytes_base.specs.Choice.{pick}
use Rattle.bytes_base.proofs.SpliceLaws.{moved_down}
use Rattle.state_places.specs.Sizes.{most_steps, value_size, running_at, waiting_at, notification_at}
use Rattle.lists.specs.Queue.{all}
use Rattle.lists.proofs.QueueLaws.{take-onto}
use Rattle.lists.proofs.ScanLaws.{all_head, all_drop}
use Rattle.lists.proofs.BlockLaws.{drop_past}
use Rattle.time.specs.declared.Micros.{Micros}
use Rattle.state.specs.Fresh.{no_queued}
use Rattle.state.specs.Central.{with_bearer}
use Rattle.state.specs.declared.Queue.{Queue}
use Rattle.state.specs.declared.Queued.{Queued}
use Rattle.state.specs.declared.StepStatus.TheVariants.{Ok}
use Rattle.state_rules.proofs.GateLaws.{passed-quiet}
use Rattle.script_rules.specs.World.{Held, World, on_held, on_state}
use Rattle.script_rules.specs.Waiting.{waiting, take_step}
use Rattle.script_rules.specs.Start.{ends, start, unlinked_step}
use Rattle.script_rules.specs.Script.{can_go, step_once, advances, advance}
use Rattle.script_rules.specs.Unlinked.{step_unlinked, advances_unlinked, advance_unlinked}
use Rattle.script_rules.proofs.AdvanceLaws.{goes_on_lem}
use Rattle.script_rules.proofs.CallBeginLaws.{passed-connected}
use Rattle.script_rules.proofs.UnlinkedLaws.{present-finish, advance-unlinked}
use Rattle.script_rules.specs.Outcome.{done, refused, quietly, quietly_refused, begins}
use Rattle.script_rules.specs.Events.{with_new_link, unlinked, is_connect, greeted, connect, on_connected, goes_on, cut_status, cut_off, silent, lose, on_disconnected}
use Rattle.thm_trail.specs.Calls.{connected, disconnected, of_quiet, does, left, gate_of, done?}
use Rattle.thm_links.specs.Keeps.{kept_notifications, Keeps, starts_quietly, KeepsButStarts}
use Rattle.thm_links.proofs.Leaves.{Leaves, leaves_none, leaves-then, still, kept_from, keeps, leaves-ends, leaves-alone, Begins, begins-start}

-- ---- steps begin one after another: the queue apart

-- a: whether all of them start quietly
record Goes (a : Bool) (h g : Held) : Type 0 where
  notifications : g.state.notifications ≡ h.state.notifications
  notified : g.state.counters.notified ≡ h.state.counters.notified
  links : g.state.counters.links ≡ h.state.counters.links
  store : drop (notification_at 0) g.store ≡ drop (notification_at 0) h.store
  services : a ≡ true → g.state.services ≡ h.state.services
  characteristics : a ≡ true → g.state.characteristics ≡ h.state.characteristics
  from : a ≡ true → g.state.counters.wait_from ≡ h.state.counters.wait_from

goes_none : (a : Bool) (h : Held) → Goes a h h
goes_none a h = record { notifications = refl; notified = refl; links = refl; store = refl; services = λ e. refl; characteristics = λ e. refl; from = λ e. refl }

goes-leaves : (a : Bool) {h g : Held} → Leaves h g → Goes a h g
goes-leaves a l =
    record {
      notifications = l.hears.notifications;
      notified = l.hears.notified;
      links = l.hears.links;
      store = l.hears.store;
      services = λ e. l.services;
      characteristics = λ e. l.characteristics;
      from = λ e. l.from;
    }

goes_then : {a b c : Bool} {h g i : Held} → (c ≡ true → (a ≡ true) × (b ≡ true)) → Goes a h g → Goes b g i → Goes c h i
goes_then f x y =
    record {
      notifications = y.notifications ∙ x.notifications;
      notified = y.notified ∙ x.notified;
      links = y.links ∙ x.links;
      store = y.store ∙ x.store;
      services = λ e. y.services (f e).1 ∙ x.services (f e).0;
      characteristics = λ e. y.characteristics (f e).1 ∙ x.characteristics (f e).0;
      from = λ e. y.from (f e).1 ∙ x.from (f e).0;
    }

goes-heard : {a : Bool} {h g : Held} → Goes a h g → kept_notifications g ≡ kept_notifications h
goes-heard {a} {h} {g} x = kept_from h g x.notifications x.store

goes-keeps : {a : Bool} {h g : Held} → a ≡ true → Goes a h g → Keeps h g
goes-keeps e x =
    record { services = x.services e; characteristics = x.characteristics e; notifications = goes-heard x; notified = x.notified; wait_from = x.from e }

keeps_then : {h g i : Held} → Keeps h g → Keeps g i → Keeps h i
keeps_then a b =
    record {
      services = b.services ∙ a.services;
      characteristics = b.characteristics ∙ a.characteristics;
      notifications = b.notifications ∙ a.notifications;
      notified = b.notified ∙ a.notified;
      wait_from = b.wait_from ∙ a.wait_from;
    }

-- the first waiting step is taken: values of steps stand below the notifications' part
goes-take : (h : Held) → h.state.queue.count ≤ most_steps → Goes true h (take_step h)
unfolding take_step
goes-take h few =
    record {
      notifications = refl;
      notified = refl;
      links = refl;
      store =
          ap (drop (notification_at 0)) (moved_down h.store running_at (waiting_at 0) (value_size * h.state.queue.count) (omega arith))
          ∙ drop_past h.store running_at h.store (waiting_at 0) (value_size * h.state.queue.count) (notification_at 0) (omega (arith, few));
      services = λ e. refl;
      characteristics = λ e. refl;
      from = λ e. refl;
    }

-- fewer wait then
fewer : (h : Held) → h.state.queue.count ≤ most_steps → (take_step h).state.queue.count ≤ most_steps
unfolding take_step
fewer h few =
    let q = h.state.queue in
    omega (arith, few, length-drop 1 (waiting q), length-take q.count q.kept)

-- ---- whether those that wait start quietly

abbrev quietly? : Queued → Bool
quietly? q = starts_quietly q.step

abbrev all_quiet : Queue → Bool
all_quiet q = all quietly? (waiting q)

first-quiet : (a : List Queued) (n : ℕ) → 0 < n → all quietly? (take n a) ≡ true → starts_quietly (get_or a 0 no_queued).step ≡ true
first-quiet [] n h e = refl
first-quiet (x ∷ a) zero h e = absurd (omega arith)
first-quiet (x ∷ a) (suc n) h e = all_head quietly? x (take n a) e

step-quiet : (h : Held) → 0 < h.state.queue.count → all_quiet h.state.queue ≡ true → starts_quietly (take_step h).state.running.step ≡ true
unfolding take_step
step-quiet h some e = first-quiet h.state.queue.kept h.state.queue.count some e

rest-quiet : (h : Held) → all_quiet h.state.queue ≡ true → all_quiet (take_step h).state.queue ≡ true
unfolding take_step
rest-quiet h e =
    let q = h.state.queue in
    ap (all quietly?) (take-onto q.kept (drop 1 (waiting q))) ∙ all_drop quietly? 1 (waiting q) e

-- ---- the script goes on

goes-advances : (n : ℕ) (w : World) (at : Micros) → w.held.state.queue.count ≤ most_steps → Goes (all_quiet w.held.state.queue) w.held (advances n w at).held
unfolding advances
goes-advances zero w at few = goes_none (all_quiet w.held.state.queue) w.held
goes-advances (suc n) w at few = go (can_go w.held.state) refl (goes-advances n v at few')
  where
    h : Held
    h = w.held

    u : World
    u = on_held w (take_step h)

    v : World
    v = start u at

    b : Begins u.held.state.running.step u.held v.held
    b = begins-start u at

    few' : v.held.state.queue.count ≤ most_steps
    few' = subst (λ (q : Queue). q.count ≤ most_steps) (sym b.hears.queue) (fewer h few)

    started : Goes (starts_quietly u.held.state.running.step) u.held v.held
    started =
        record {
          notifications = b.hears.notifications;
          notified = b.hears.notified;
          links = b.hears.links;
          store = b.hears.store;
          services = λ e. (b.quiet e).services;
          characteristics = λ e. (b.quiet e).characteristics;
          from = λ e. (b.quiet e).from;
        }

    go : (c : Bool) → can_go h.state ≡ c → Goes (all_quiet v.held.state.queue) v.held (advances n v at).held
        → Goes (all_quiet h.state.queue) h (pick c (advances n v at) w).held
    go true c ih =
        goes_then (λ e. (step-quiet h (goes_on_lem h.state c).some e, ap all_quiet b.hears.queue ∙ rest-quiet h e))
        (goes_then (λ e. (refl, e)) (goes-take h few) started) ih
    go false c ih = goes_none (all_quiet h.state.queue) h

goes-advance : (w : World) (at : Micros) → w.held.state.queue.count ≤ most_steps → Goes (all_quiet w.held.state.queue) w.held (advance w at).held
unfolding advance
goes-advance w at few = goes-advances w.held.state.queue.count w at few

-- while a step runs, none begins
busy-advance : (w : World) (at : Micros) → w.held.state.running.active ≡ true → advance w at ≡ w
unfolding advance advances
busy-advance w at e = go w.held.state.queue.count
  where
    idle : can_go w.held.state ≡ false
    idle = ap (λ (b : Bool). not b && ltb 0 w.held.state.queue.count) e

    go : (n : ℕ) → advances n w at ≡ w
    go zero = refl
    go (suc n) = ap (λ (b : Bool). pick b (advances n (step_once w at) at) w) idle

-- with no link no step touches any of it
goes-unlinked : (n : ℕ) (h : Held) (at : Micros) → h.state.queue.count ≤ most_steps → Goes true h (advances_unlinked n h at)
unfolding advances_unlinked
goes-unlinked zero h at few = goes_none true h
goes-unlinked (suc n) h at few = go (can_go h.state) (goes-unlinked n g at few')
  where
    g : Held
    g = step_unlinked h at

    l : Leaves (take_step h) g
    l = leaves-alone (take_step h) at (unlinked_step (take_step h).state.running.step)

    few' : g.state.queue.count ≤ most_steps
    few' = subst (λ (q : Queue). q.count ≤ most_steps) (sym l.hears.queue) (fewer h few)

    go : (b : Bool) → Goes true g (advances_unlinked n g at) → Goes true h (pick b (advances_unlinked n g at) h)
    go true ih = goes_then {b = true} (λ e. (refl, refl)) (goes_then {b = true} (λ e. (refl, refl)) (goes-take h few) (goes-leaves true l)) ih
    go false ih = goes_none true h

-- ---- a new link

module _ (h : Held) (out : List ℕ) (handle : ℕ) (at : Micros) where
  abbrev met : Held
  met = on_state h (with_new_link h.state handle)

  abbrev before : World
  before = on_held (begins h.state h.store out) (greeted met at)

  leaves-greeted : Leaves met before.held
  leaves-greeted = go (is_connect h.state.running.step)
    where
      go : (b : Bool) → Leaves met (pick b (ends met at Ok) met)
      go true = leaves-ends met at Ok
      go false = leaves_none met

  -- all but the link and the link count
  keeps-met : Keeps h met
  keeps-met = record { services = refl; characteristics = refl; notifications = refl; notified = refl; wait_from = refl }

  keeps-before : Keeps h before.held
  keeps-before = keeps_then keeps-met (keeps leaves-greeted)

  module _ (accepts : done? h (connected out handle at) ≡ true) where
    after : left (does h (connected out handle at)) ≡ (advance before at).held
    unfolding on_connected connect
    after =
        ap
        (λ (b : Bool). left (pick b (done (connect (begins h.state h.store out) handle at)) (refused h.state (gate_of h (connected out handle at)) h.store out)))
        accepts

    few : before.held.state.queue.count ≤ most_steps
    few =
        subst (λ (q : Queue). q.count ≤ most_steps) (sym leaves-greeted.hears.queue)
        (passed-connected h.state (length h.store) (length out) at (eqb-true (gate_of h (connected out handle at)) 0 accepts)).shared.fit.head.waiting

    goes : Goes (all_quiet before.held.state.queue) before.held (advance before at).held
    goes = goes-advance before at few

    pub connected-keeps : KeepsButStarts h at (left (does h (connected out handle at)))
    connected-keeps =
        subst (KeepsButStarts h at) (sym after)
        (record {
          before = before;
          keeps = keeps-before;
          starts = refl;
          notifications = goes-heard goes ∙ keeps-before.notifications;
          notified = goes.notified ∙ keeps-before.notified;
          links = goes.links ∙ leaves-greeted.hears.links;
          quiet = λ e. keeps_then keeps-before (goes-keeps (ap all_quiet leaves-greeted.hears.queue ∙ e) goes);
          busy = λ e f. subst (λ (w : World). Keeps h w.held) (sym (busy-advance before at (runs_on e f))) keeps-before;
        })
      where
        runs_on : h.state.running.active ≡ true → is_connect h.state.running.step ≡ false → before.held.state.running.active ≡ true
        runs_on e f = ap (λ (b : Bool). (pick b (ends met at Ok) met).state.running.active) f ∙ e

-- ---- a lost link

module _ (h : Held) (at : Micros) where
  abbrev parted : Held
  parted = on_state h (with_bearer h.state (unlinked h.state.bearer))

  abbrev cut : Held
  cut = cut_off parted at parted.state.running.step

  leaves-parted : Leaves h parted
  leaves-parted = still refl refl refl refl refl

  leaves-cut : Leaves h cut
  unfolding cut_off
  leaves-cut = leaves-then leaves-parted (go (goes_on parted.state.running.step))
    where
      go : (b : Bool) → Leaves parted (pick b parted (ends parted at (cut_status parted.state.running.step)))
      go true = leaves_none parted
      go false = leaves-ends parted at _

  absent : cut.state.bearer.present ≡ false
  unfolding cut_off
  absent = go (goes_on parted.state.running.step)
    where
      go : (b : Bool) → (pick b parted (ends parted at (cut_status parted.state.running.step))).state.bearer.present ≡ false
      go true = refl
      go false = present-finish parted at _ _ 0 0

  keeps-lose : h.state.queue.count ≤ most_steps → Keeps h (lose h at)
  unfolding lose advance_unlinked
  keeps-lose few =
      subst (λ (w : World). Keeps h w.held) (sym (advance-unlinked (silent cut) at absent))
      (keeps_then (keeps leaves-cut)
      (goes-keeps refl (goes-unlinked cut.state.queue.count cut at (subst (λ (q : Queue). q.count ≤ most_steps) (sym leaves-cut.hears.queue) few))))

  -- refused or not
  pub disconnected-keeps : Keeps h (left (does h (disconnected at)))
  unfolding on_disconnected
  disconnected-keeps = go (done? h (disconnected at)) refl
    where
      go : (b : Bool) → done? h (disconnected at) ≡ b → Keeps h (left (of_quiet (pick b (quietly (lose h at)) (quietly_refused h.state (gate_of h (disconnected at)) h.store))))
      go true e = keeps-lose (passed-quiet h.state (length h.store) at (eqb-true (gate_of h (disconnected at)) 0 e)).fit.head.waiting
      go false e = keeps (leaves_none h)
