-- With no link the script goes on as it does where nothing can go out: whatever was sent before, and whatever output is lent, stays.
use Prim.Native.Nat.{ℕ, zero, suc}
use mathlib.Core.Path.{◌≡◌, refl, ap, ◌∙◌}
use mathlib.Core.Bool.{Bool, true, false}
use Rattle.bytes_base.specs.Choice.{pick}
use Rattle.state_places.specs.Sizes.{held_at}
use Rattle.time.specs.declared.Micros.{Micros}
use Rattle.state.specs.declared.StepStatus.{StepStatus}
use Rattle.script_rules.specs.World.{Held, World, on_held}
use Rattle.script_rules.specs.Finish.{ended, finish}
use Rattle.script_rules.specs.declared.Alone.{Alone}
use Rattle.script_rules.specs.declared.Alone.TheVariants as alone
use Rattle.script_rules.specs.Start.{unlinked_step, start_alone, start_unlinked, start_on, start}
use Rattle.script_rules.specs.Waiting.{take_step}
use Rattle.script_rules.specs.Script.{can_go, step_once, advances, advance}
use Rattle.script_rules.specs.Unlinked.{step_unlinked, advances_unlinked, advance_unlinked}

abbrev pub present : Held → Bool
present h = h.state.bearer.present

pub present-finish : (h : Held) (at : Micros) (st : StepStatus) (from n heard : ℕ) → present (finish h at st from n heard) ≡ present h
unfolding finish ended
present-finish h at st from n heard = go h.state.running.active
  where
    go : (b : Bool) → present (pick b (ended h at st from n heard) h) ≡ present h
    go true = refl
    go false = refl

present-alone : (h : Held) (at : Micros) (a : Alone) → present (start_alone h at a) ≡ present h
unfolding start_alone
present-alone h at (alone.Runs ms) = refl
present-alone h at alone.Done = present-finish h at _ held_at 0 0
present-alone h at alone.NeedsLink = present-finish h at _ held_at 0 0

pub present-take : (h : Held) → present (take_step h) ≡ present h
unfolding take_step
present-take h = refl

pub step-unlinked : (w : World) (at : Micros) → present w.held ≡ false → step_once w at ≡ on_held w (step_unlinked w.held at)
unfolding start
step-unlinked w at e =
    let g = take_step w.held in
    let u = on_held w g in
    ap (λ (b : Bool). pick b (start_on u at g.state.running.step) (on_held u (start_unlinked g at g.state.running.step))) (present-take w.held ∙ e)

pub present-step : (h : Held) (at : Micros) → present h ≡ false → present (step_unlinked h at) ≡ false
present-step h at e = let g = take_step h in present-alone g at (unlinked_step g.state.running.step) ∙ present-take h ∙ e

advances-unlinked : (n : ℕ) (w : World) (at : Micros) → present w.held ≡ false → advances n w at ≡ on_held w (advances_unlinked n w.held at)
unfolding advances advances_unlinked
advances-unlinked zero w at e = refl
advances-unlinked (suc n) w at e = go (can_go w.held.state) (advances-unlinked n (on_held w (step_unlinked w.held at)) at (present-step w.held at e))
  where
    go : (b : Bool) → advances n (on_held w (step_unlinked w.held at)) at ≡ on_held w (advances_unlinked n (step_unlinked w.held at) at)
        → pick b (advances n (step_once w at) at) w ≡ on_held w (pick b (advances_unlinked n (step_unlinked w.held at) at) w.held)
    go true ih = ap (λ (v : World). advances n v at) (step-unlinked w at e) ∙ ih
    go false ih = refl

pub advance-unlinked : (w : World) (at : Micros) → present w.held ≡ false → advance w at ≡ on_held w (advance_unlinked w.held at)
unfolding advance advance_unlinked
advance-unlinked w at e = advances-unlinked w.held.state.queue.count w at e
