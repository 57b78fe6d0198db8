-- The script that goes on, a timer, a link that comes and a link that goes, are blind to dead places.
use Prim.Native.Nat.{ℕ, zero, suc, ◌<◌}
use mathlib.Core.Path.{◌≡◌, refl, sym, ap, ◌∙◌}
use Rattle.state_places.specs.Sizes.{held_at}
use Rattle.time.specs.declared.Micros.{Micros}
use Rattle.state.specs.Central.{with_bearer}
use Rattle.state.specs.declared.Step.{Step}
use Rattle.state.specs.declared.StepStatus.TheVariants.{Ok}
use Rattle.state_kinds.specs.Kinds.{is_connect}
use Rattle.script_rules.specs.Bearers.{unlinked}
use Rattle.script_rules.specs.Timeouts.{timed_out, due}
use Rattle.script_rules.specs.World.{Held, World, on_held, on_state}
use Rattle.script_rules.specs.Waiting.{take_step}
use Rattle.script_rules.specs.Start.{ends, start}
use Rattle.script_rules.specs.Script.{can_go, step_once, advances, advance}
use Rattle.script_rules.proofs.AdvanceLaws.{goes_on_lem}
use Rattle.script_rules.specs.Comings.{given_up, expire, greeted, with_new_link, connect, goes_on, cut_status, cut_off, silent, lose}
use Rattle.thm_reading.proofs.Blind.{cut, cut_world, held-twice, world-twice, pick-if, pick-both}
use Rattle.thm_reading.proofs.Turns.{finish-blind, finish-world}
use Rattle.thm_reading.proofs.Queue.{take-blind}
use Rattle.thm_reading.proofs.Starts.{start-blind}

module _ (at : Micros) where
  -- ---- one step

  step-blind : (w : World) → 0 < w.held.state.queue.count → cut_world (step_once w at) ≡ cut_world (step_once (cut_world w) at)
  step-blind w some =
      let takes : World → World = λ v. on_held v (take_step v.held) in
      start-blind at (takes w)
      ∙ (λ i. cut_world (start (record { held = take-blind w.held some i; told = w.told }) at))
      ∙ sym (start-blind at (takes (cut_world w)))

  -- ---- as many as wait

  advances-blind : (n : ℕ) (w : World) → cut_world (advances n w at) ≡ cut_world (advances n (cut_world w) at)
  unfolding advances
  advances-blind zero w = world-twice w
  advances-blind (suc n) w =
      pick-if cut_world (can_go w.held.state) (can_go w.held.state)
      (advances n (step_once w at) at) w
      (advances n (step_once (cut_world w) at) at) (cut_world w)
      refl
      (λ e.
      advances-blind n (step_once w at)
      ∙ ap (λ (v : World). cut_world (advances n v at)) (step-blind w (goes_on_lem w.held.state e).some)
      ∙ sym (advances-blind n (step_once (cut_world w) at)))
      (world-twice w)

  pub advance-blind : (w : World) → cut_world (advance w at) ≡ cut_world (advance (cut_world w) at)
  unfolding advance
  advance-blind w = advances-blind w.held.state.queue.count w

  -- the script goes on after work that is blind
  pub then-advance : (w v : World) → cut_world w ≡ cut_world v → cut_world (advance w at) ≡ cut_world (advance v at)
  then-advance w v e = advance-blind w ∙ ap (λ (x : World). cut_world (advance x at)) e ∙ sym (advance-blind v)

  -- ---- the timer

  pub expire-blind : (w : World) → cut_world (expire w at) ≡ cut_world (expire (cut_world w) at)
  unfolding expire
  expire-blind w =
      let r = w.held.state.running in
      let stops : World → World = λ v. on_held v (ends (given_up v.held) at (timed_out r.step)) in
      pick-both cut_world (due r at) (advance (stops w) at) w (advance (stops (cut_world w)) at) (cut_world w)
      (then-advance (stops w) (stops (cut_world w)) (finish-world (on_held w (given_up w.held)) at (timed_out r.step) held_at 0 0))
      (world-twice w)

  -- ---- a link comes

  greet-blind : (h : Held) → cut (greeted h at) ≡ cut (greeted (cut h) at)
  greet-blind h =
      pick-both cut (is_connect h.state.running.step) (ends h at Ok) h (ends (cut h) at Ok) (cut h) (finish-blind h at Ok held_at 0 0) (held-twice h)

  pub connect-blind : (w : World) (handle : ℕ) → cut_world (connect w handle at) ≡ cut_world (connect (cut_world w) handle at)
  unfolding connect
  connect-blind w handle =
      let meets : Held → Held = λ h. on_state h (with_new_link h.state handle) in
      let greets : World → World = λ v. on_held v (greeted (meets v.held) at) in
      then-advance (greets w) (greets (cut_world w)) (λ i. record { held = greet-blind (meets w.held) i; told = w.told })

  -- ---- a link goes

  cut-off-blind : (h : Held) (s : Step) → cut (cut_off h at s) ≡ cut (cut_off (cut h) at s)
  unfolding cut_off
  cut-off-blind h s =
      pick-both cut (goes_on s) h (ends h at (cut_status s)) (cut h) (ends (cut h) at (cut_status s)) (held-twice h) (finish-blind h at (cut_status s) held_at 0 0)

  pub lose-blind : (h : Held) → cut (lose h at) ≡ cut (lose (cut h) at)
  unfolding lose
  lose-blind h =
      let s : Step = h.state.running.step in
      let parts : Held → Held = λ g. on_state g (with_bearer g.state (unlinked g.state.bearer)) in
      ap (λ (v : World). v.held)
      (then-advance (silent (cut_off (parts h) at s)) (silent (cut_off (parts (cut h)) at s)) (ap (λ (g : Held). silent g) (cut-off-blind (parts h) s)))
