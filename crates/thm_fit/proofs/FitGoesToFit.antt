-- Fit goes to fit (01, 'Refusal numbers'): whatever a call is given, and whether it is refused or not. No call after it gets refusal 1.
use Prim.Native.Nat.{ℕ, ◌≤◌, ◌<◌}
use mathlib.Core.Path.{◌≡◌, refl, sym, ap, subst}
use mathlib.Core.Bool.{Bool, true, false, false≢true}
use mathlib.Core.List.{List}
use lib.ListN.{length}
use lib.Dec.{eqb}
use borrow.Author.Tests.{eqb-true}
use Rattle.bytes_base.specs.Choice.{pick}
use Rattle.lists.specs.Queue.{all}
use Rattle.time.specs.declared.Micros.{Micros}
use Rattle.time.specs.Clock.{latest}
use Rattle.state.specs.Central.{Central, with_bearer}
use Rattle.state.specs.Fresh.{fresh_central, fresh_with}
use Rattle.state.specs.declared.Options.{Options}
use Rattle.state.specs.declared.StepStatus.{StepStatus}
use Rattle.state_rules.specs.Facts.{Fit}
use Rattle.state_rules.proofs.FitLaws as fit
use Rattle.state_rules.specs.Fit.{most_links}
use Rattle.state_rules.specs.Gate.{gate, gate_quiet}
use Rattle.state_rules.specs.Refusals.{accepted}
use Rattle.script_rules.specs.World.{Held, World, on_held, on_state}
use Rattle.script_rules.specs.Start.{ends}
use Rattle.script_rules.specs.declared.Batch.{Batch}
use Rattle.script_rules.specs.BatchSteps.{steps}
use Rattle.script_rules.specs.Waiting.{push_all}
use Rattle.script_rules.specs.Timed.{Timed}
use Rattle.script_rules.specs.Sound.{Sound, Whole}
use Rattle.script_rules.proofs.KeepTurns.{Stays, then, timed-of, narrow-of, stays-absent}
use Rattle.script_rules.proofs.KeepWaiting.{push-all-timed}
use Rattle.script_rules.proofs.KeepStarts.{stays-ends}
use Rattle.script_rules.proofs.KeepEvents.{stays-late, stays_met}
use Rattle.script_rules.specs.Script.{advance}
use Rattle.script_rules.proofs.AdvanceLaws.{advanced, advanced-alone}
use Rattle.script_rules.proofs.UnlinkedLaws.{present-finish, advance-unlinked}
use Rattle.script_rules.specs.Outcome.{Outcome, Quiet, begins, done, refused, quietly, quietly_refused}
use Rattle.script_rules.proofs.CallBeginLaws.{sound-stays, whole-stays, may-begin, may-begin-quietly, may-connect}
use Rattle.script_rules.specs.Batch.{gate_batch, push_steps}
use Rattle.script_rules.proofs.CallLaws.{passed-batch, pushed-sound}
use Rattle.script_rules.specs.Events.{timed_out, due, given_up, expire, on_timer, greeted, with_new_link, gate_connected, connect, on_connected, unlinked, goes_on, cut_status, cut_off, silent, lose, on_disconnected}
use Rattle.thm_fit.specs.Lasting.{Lasting, narrow_batch}

-- the same as facts
pub record Kept (c : Central) : Type 0 where
  pub fit : Fit c
  pub timed : Timed c

pub kept_of : (c : Central) → Lasting c → Kept c
kept_of c l = let f = fit.fit_of c l.fit in record { fit = f; timed = timed-of c f l.narrow }

pub lasts : (c : Central) → Kept c → Lasting c
lasts c k = record { fit = fit.of-fit c k.fit; narrow = narrow-of c k.timed }

-- ---- what each call does once its gate is passed

module _ (at : Micros) (time : at.0 ≤ latest) where
  -- the script goes on
  pub advances : (w : World) → Sound 65 w → Timed w.held.state → Kept (advance w at).held.state
  advances w s t = let a = advanced at time w s t in record { fit = a.fit; timed = a.timed }

  -- after work on the state and the store
  goes_on_lem : (w : World) (g : Held) → Sound 65 w → Timed w.held.state → Stays w.held g → Kept (advance (on_held w g) at).held.state
  goes_on_lem w g s t k = advances (on_held w g) (sound-stays 65 w g s k) (k.timed t)

  expired : (w : World) → Sound 65 w → Kept w.held.state → Kept (expire w at).held.state
  unfolding expire
  expired w s k = by (due w.held.state.running at)
    where
      st : StepStatus
      st = timed_out w.held.state.running.step

      by : (b : Bool) → Kept (pick b (advance (on_held w (ends (given_up w.held) at st)) at) w).held.state
      by true = goes_on_lem w (ends (given_up w.held) at st) s k.timed (stays-late w.held at st s.nearly)
      by false = k

  connected : (w : World) (handle : ℕ) → w.held.state.counters.links < most_links → Sound 65 w → Kept w.held.state → Kept (connect w handle at).held.state
  unfolding connect
  connected w handle few s k =
      goes_on_lem w (greeted (on_state w.held (with_new_link w.held.state handle)) at) s k.timed (stays_met w.held handle at few s.nearly)

  lost : (h : Held) → Whole h → Kept h.state → Kept (lose h at).state
  unfolding lose cut_off
  lost h w k =
      let s = by (goes_on g.state.running.step) in
      let a = advanced-alone at time (cut_off g at g.state.running.step) (whole-stays h (cut_off g at g.state.running.step) w s) (s.timed k.timed) in
      subst (λ (v : Held). Kept v.state) (sym (ap (λ (v : World). v.held) (advance-unlinked (silent c) at (away (goes_on g.state.running.step))))) (record { fit = a.fit; timed = a.timed })
    where
      g : Held
      g = on_state h (with_bearer h.state (unlinked h.state.bearer))

      c : Held
      c = pick (goes_on g.state.running.step) g (ends g at (cut_status g.state.running.step))

      away : (b : Bool) → (pick b g (ends g at (cut_status g.state.running.step))).state.bearer.present ≡ false
      away true = refl
      away false = present-finish g at (cut_status g.state.running.step) _ 0 0

      gone : Stays h g
      gone = stays-absent h (unlinked h.state.bearer) w.nearly refl

      by : (b : Bool) → Stays h (pick b g (ends g at (cut_status g.state.running.step)))
      by true = gone
      by false = then h g (ends g at (cut_status g.state.running.step)) gone (stays-ends g at (cut_status g.state.running.step) gone.nearly)

-- ---- the fresh state, and each call

-- whatever was chosen
pub fresh-lasts : (options : Options) → Lasting (fresh_with options)
unfolding fresh_central all
fresh-lasts options = record { fit = fit.fresh-fits options; narrow = record { running = λ p. absurd (false≢true p); waiting = refl } }

module _ (c : Central) (l : Lasting c) (store : List ℕ) where
  pub push-steps-lasts : (out : List ℕ) (at : Micros) (b : Batch) (values : List ℕ) → narrow_batch b ≡ true → Lasting (push_steps c store out at b values).state
  unfolding push_steps
  push-steps-lasts out at b values n = by (eqb g accepted) refl
    where
      g : ℕ
      g = gate_batch c (length store) (length out) at b (length values)

      w : World
      w = on_held (begins c store out) (push_all (begins c store out).held values (steps b))

      by : (x : Bool) → eqb g accepted ≡ x → Lasting (pick {A = Outcome} x (done (advance w at)) (refused c g store out)).state
      by false e = l
      by true e =
          let p = passed-batch c (length store) (length out) at b (length values) (eqb-true g 0 e) in
          lasts (advance w at).held.state
          (advances at p.shared.time w (pushed-sound c store out at b values p) (push-all-timed (begins c store out).held values (steps b) n (kept_of c l).timed))

  pub on-timer-lasts : (out : List ℕ) (at : Micros) → Lasting (on_timer c store out at).state
  unfolding on_timer
  on-timer-lasts out at = by (eqb g accepted) refl
    where
      g : ℕ
      g = gate c (length store) (length out) at

      by : (x : Bool) → eqb g accepted ≡ x → Lasting (pick {A = Outcome} x (done (expire (begins c store out) at)) (refused c g store out)).state
      by false e = l
      by true e =
          let p = may-begin c store out at (eqb-true g 0 e) in
          lasts (expire (begins c store out) at).held.state (expired at p.1 (begins c store out) p.0 (kept_of c l))

  pub on-connected-lasts : (out : List ℕ) (handle : ℕ) (at : Micros) → Lasting (on_connected c store out handle at).state
  unfolding on_connected
  on-connected-lasts out handle at = by (eqb g accepted) refl
    where
      g : ℕ
      g = gate_connected c (length store) (length out) at

      by : (x : Bool) → eqb g accepted ≡ x → Lasting (pick {A = Outcome} x (done (connect (begins c store out) handle at)) (refused c g store out)).state
      by false e = l
      by true e =
          let p = may-connect c store out at (eqb-true g 0 e) in
          lasts (connect (begins c store out) handle at).held.state (connected at p.1 (begins c store out) handle p.2 p.0 (kept_of c l))

  pub on-disconnected-lasts : (at : Micros) → Lasting (on_disconnected c store at).state
  unfolding on_disconnected
  on-disconnected-lasts at = by (eqb g accepted) refl
    where
      g : ℕ
      g = gate_quiet c (length store) at

      h : Held
      h = record { state = c; store = store }

      by : (x : Bool) → eqb g accepted ≡ x → Lasting (pick {A = Quiet} x (quietly (lose h at)) (quietly_refused c g store)).state
      by false e = l
      by true e =
          let p = may-begin-quietly c store at (eqb-true g 0 e) in
          lasts (lose h at).state (lost at p.1 h p.0 (kept_of c l))
