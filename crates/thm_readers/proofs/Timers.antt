-- A timer call ends the running step from the time on that the timer reader says, and before it does nothing.
use Prim.Native.Nat.{ℕ, ◌<◌}
use mathlib.Core.Path.{◌≡◌, refl, sym, ap, ◌∙◌, subst}
use mathlib.Core.Bool.{Bool, true, false, ◌&&◌}
use mathlib.Core.List.{List, [], ◌∷◌, ◌++◌}
use native.Mathlib.Omega.{arith}
use lib.ListN.{length, get_or}
use lib.Dec.{leb}
use borrow.Author.Tests.{eqb-true}
use Rattle.bytes_base.specs.Choice.{pick}
use Rattle.state_places.specs.Sizes.{held_at}
use Rattle.lists.specs.Blocks.{Valued, bytes}
use Rattle.time.specs.declared.Micros.{Micros}
use Rattle.state.specs.declared.Queued.{Queued}
use Rattle.state.specs.declared.Running.{Running}
use Rattle.state.specs.declared.StepResult.{StepResult}
use Rattle.state.specs.declared.StepStatus.{StepStatus}
use Rattle.state_rules.proofs.FitLaws.{both}
use Rattle.state_rules.proofs.GateLaws.{passed, passes-reader}
use Rattle.script_rules.specs.World.{Held, World, on_held}
use Rattle.script_rules.specs.Start.{ends}
use Rattle.script_rules.specs.Script.{advance}
use Rattle.script_rules.specs.Outcome.{done, refused, begins}
use Rattle.script_rules.specs.Events.{timed_out, due, given_up, expire, on_timer}
use Rattle.thm_trail.specs.Calls.{timer_us, timer, does, left, gate_of, done?}
use Rattle.thm_trail.specs.Trail.{pass, onward, then_onward, timer_trail, goes}
use Rattle.thm_trail.specs.Log.{no_valued, gave, given_in, given_by}
use Rattle.thm_accounting.proofs.Gives.{Whole, whole_same, finish-pushes}
use Rattle.thm_accounting.proofs.Books.{Books, none-gave, gave-pushed}
use Rattle.thm_readers.specs.Said.{said, deadline_of, over, Heeds}
use Rattle.thm_readers.proofs.Results.{timer-said}

-- what the reader says is now or before exactly where the step is due
over-due : (r : Running) (at : Micros) → over (deadline_of r) at ≡ due r at
over-due r at = go r.active r.dated
  where
    go : (a d : Bool) → over (deadline_of (record { deadline = r.deadline; step = r.step; index = r.index; cursor = r.cursor; len = r.len; phase = r.phase; active = a; dated = d })) at ≡ (a && (d && leb r.deadline.0 at.0))
    go true true = refl
    go true false = refl
    go false d = refl

module _ (l : List (Valued StepResult)) (q : List Queued) (h : Held) (out : List ℕ) (at : Micros) (b : Books l q h) (accepts : done? h (timer out at) ≡ true) where
  abbrev w : World
  w = begins h.state h.store out

  abbrev st : StepStatus
  st = timed_out h.state.running.step

  abbrev u : World
  u = on_held w (given_up h)

  abbrev v : World
  v = on_held u (ends u.held at st)

  abbrev x : Valued StepResult
  x = record { entry = record { index = h.state.running.index; at = at; status = st; len = 0; heard = 0 }; value = bytes h.store held_at 0 }

  whole : Whole h
  whole =
      let p = passed h.state (length h.store) (length out) at (eqb-true (gate_of h (timer out at)) 0 accepts) in
      record { store = p.store; cells = b.sizes.results; few = p.fit.head.results; fit = p.fit.results }

  said-due : over (said h timer_us) at ≡ due h.state.running at
  said-due =
      let p = passed h.state (length h.store) (length out) at (eqb-true (gate_of h (timer out at)) 0 accepts) in
      ap (λ (n : List ℕ). over n at) (timer-said h (passes-reader h.state (length h.store) (record { fit = p.fit; store = p.store }))) ∙ over-due h.state.running at

  early : due h.state.running at ≡ false → left (does h (timer out at)) ≡ h
  unfolding on_timer expire
  early e =
      ap (λ (c : Bool). left (pick c (done (pick (due h.state.running at) (advance v at) w)) (refused h.state (gate_of h (timer out at)) h.store out))) accepts
      ∙ ap (λ (c : Bool). left (done (pick c (advance v at) w))) e

  given-first : due h.state.running at ≡ true → given_by h (timer out at) ≡ x ∷ given_in v (onward v at)
  unfolding timer_trail
  given-first e =
      let r = h.state.running in
      let a : r.active ≡ true = (both r.active (r.dated && leb r.deadline.0 at.0) e).0 in
      let pushes = finish-pushes u.held at st held_at 0 0 (whole_same {g = u.held} whole refl refl) (omega arith) (omega arith) a in
      let one : gave h v.held ≡ x ∷ [] = gave-pushed l q h v.held x b (b.number a) pushes in
      ap (λ (c : Bool). pick c (given_in w (goes h (timer out at))) []) accepts
      ∙ ap (λ (c : Bool). given_in w (pick c (pass u ∷ then_onward v at) [])) e
      ∙ ap (λ (t : List (Valued StepResult)). t ++ (gave h v.held ++ given_in v (onward v at))) (none-gave l q h u.held b refl)
      ∙ ap (λ (t : List (Valued StepResult)). t ++ given_in v (onward v at)) one

  First : List (Valued StepResult) → Type 0
  First l = (0 < length l) × ((get_or l 0 no_valued).entry.index ≡ h.state.running.index)

  pub heeds : Heeds h out at
  unfolding First
  heeds =
      record {
        early = λ e. early (sym said-due ∙ e);
        late = λ e. subst First (sym (given-first (sym said-due ∙ e))) (omega arith, refl);
      }
