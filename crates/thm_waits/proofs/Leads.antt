-- What a step that begins, or a frame that is read, leads to, as far as waits go: nothing; the running step's end, with a result that names
-- nothing; or a wait that passes.
use Rattle.std.specs.Prelude.{Some}
use Prim.Native.Nat.{ℕ, ◌+◌, ◌≤◌}
use mathlib.Core.Path.{◌≡◌, refl, sym, ap, ◌∙◌}
use mathlib.Core.Bool.{true, false, false≢true}
use native.Mathlib.Omega.{arith}
use Rattle.state_places.specs.Sizes.{store_size, result_size, held_at}
use Rattle.time.specs.declared.Micros.{Micros}
use Rattle.time.specs.declared.Millis.{Millis}
use Rattle.uuid_value.specs.declared.Uuid.{Uuid}
use Rattle.gatt_characteristics.specs.Characteristic.{known, characteristic_with}
use Rattle.gatt_characteristics.specs.declared.Characteristic.{Characteristic}
use Rattle.notifications.specs.declared.Age.{Age}
use Rattle.state.specs.Central.{Central}
use Rattle.state.specs.declared.Step.TheVariants.{WaitNotification}
use Rattle.state.specs.declared.StepStatus.{StepStatus}
use Rattle.state.specs.declared.StepStatus.TheVariants.{Ok}
use Rattle.script_rules.specs.World.{Held, on_state}
use Rattle.script_rules.specs.Finish.{finish}
use Rattle.script_rules.specs.Start.{ends}
use Rattle.script_rules.specs.Wait.{wanted, wait_passes, passing}
use Rattle.thm_waits.specs.Waits.{is_wait_notification}

-- a change of other parts of the state
pub record Other (h g : Held) : Type 0 where
  pub counters : g.state.counters ≡ h.state.counters
  pub notifications : g.state.notifications ≡ h.state.notifications
  pub results : g.state.results ≡ h.state.results
  pub queue : g.state.queue ≡ h.state.queue
  pub active : g.state.running.active ≡ h.state.running.active
  pub step : g.state.running.step ≡ h.state.running.step
  pub len : g.state.running.len ≡ h.state.running.len
  pub index : g.state.running.index ≡ h.state.running.index
  pub present : g.state.bearer.present ≡ h.state.bearer.present
  pub store : g.store ≡ h.store

pub other_none : (h : Held) → Other h h
other_none h = record { counters = refl; notifications = refl; results = refl; queue = refl; active = refl; step = refl; len = refl; index = refl; present = refl; store = refl }

pub other-then : {h g i : Held} → Other h g → Other g i → Other h i
other-then a b =
    record {
      counters = b.counters ∙ a.counters;
      notifications = b.notifications ∙ a.notifications;
      results = b.results ∙ a.results;
      queue = b.queue ∙ a.queue;
      active = b.active ∙ a.active;
      step = b.step ∙ a.step;
      len = b.len ∙ a.len;
      index = b.index ∙ a.index;
      present = b.present ∙ a.present;
      store = b.store ∙ a.store;
    }

-- of the state alone
pub other : {h : Held} {c : Central} → c.counters ≡ h.state.counters → c.notifications ≡ h.state.notifications → c.results ≡ h.state.results → c.queue ≡ h.state.queue
    → c.running.active ≡ h.state.running.active → c.running.step ≡ h.state.running.step → c.running.len ≡ h.state.running.len
    → c.running.index ≡ h.state.running.index → c.bearer.present ≡ h.state.bearer.present → Other h (on_state h c)
other k n r q a s l i p =
    record { counters = k; notifications = n; results = r; queue = q; active = a; step = s; len = l; index = i; present = p; store = refl }

-- the running step is no WaitNotification
abbrev pub Plain : Held → Type 0
Plain h = is_wait_notification h.state.running.step ≡ false

pub data Leads (at : Micros) (h g : Held) : Type 0 where
  stays : Other h g → Leads at h g
  -- no WaitNotification ends Ok so
  ends_so : (u : Held) (st : StepStatus) (from n : ℕ) → Other h u → from + n ≤ store_size → n ≤ result_size
      → (is_wait_notification h.state.running.step ≡ true → st ≡ Ok → ⊥) → g ≡ finish u at st from n 0 → Leads at h g
  -- a wait looks at the notifications of its characteristic, and passes
  passes-so : (u : Held) (c : Uuid) (ms : Millis) (age : Age) (x : Characteristic) → Other h u → characteristic_with c (known u.state.characteristics) ≡ Some x
      → h.state.running.step ≡ WaitNotification c ms age → h.state.running.active ≡ true
      → wait_passes u (wanted u.state at x.value_handle age) ≡ true → g ≡ passing u at (wanted u.state at x.value_handle age) → Leads at h g

pub leads-none : {at : Micros} (h : Held) → Leads at h h
leads-none h = stays (other_none h)

-- after a change of other parts
pub leads-then : {at : Micros} {h g k : Held} → Other h g → Leads at g k → Leads at h k
leads-then o (stays p) = stays (other-then o p)
leads-then o (ends_so u st from n p room small bad e) = ends_so u st from n (other-then o p) room small (λ x. bad (ap is_wait_notification o.step ∙ x)) e
leads-then o (passes-so u c ms age x p f is on y e) = passes-so u c ms age x (other-then o p) f (sym o.step ∙ is) (sym o.active ∙ on) y e

-- the running step ends, and it is no WaitNotification
pub leads-finish : (h : Held) (at : Micros) (st : StepStatus) (from n : ℕ) → from + n ≤ store_size → n ≤ result_size → Plain h → Leads at h (finish h at st from n 0)
leads-finish h at st from n room small p = ends_so h st from n (other_none h) room small (λ e f. absurd (false≢true (sym p ∙ e))) refl

pub leads-ends : (h : Held) (at : Micros) (st : StepStatus) → Plain h → Leads at h (ends h at st)
leads-ends h at st p = leads-finish h at st held_at 0 (omega arith) (omega arith) p

-- or it is one, and ends badly
pub leads-badly : (h : Held) (at : Micros) (st : StepStatus) → (st ≡ Ok → ⊥) → Leads at h (ends h at st)
leads-badly h at st bad = ends_so h st held_at 0 (other_none h) (omega arith) (omega arith) (λ e. bad) refl
