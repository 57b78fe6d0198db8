-- What a step that begins asks of what it calls, and what each return asks.
use Prim.Native.Nat.{◌≤◌, ◌<◌}
use mathlib.Core.Path.{◌≡◌, sym, ap, subst, ◌∙◌}
use mathlib.Core.Bool.{true}
use native.Mathlib.Omega.{arith}
use lib.ListN.{length}
use Rattle.state_places.specs.Sizes.{store_size, most_steps, most_results}
use Rattle.time.specs.declared.Micros.{Micros}
use Rattle.state.specs.Central.{Central}
use Rattle.state_rules.specs.Facts.{Fit}
use Rattle.script_rules.specs.World.{Held, World, on_held}
use Rattle.script_rules.specs.Ready.{Ready}
use Rattle.script_rules.specs.Waiting.{take_step}
use Rattle.script_rules.specs.Start.{start_unlinked, start}
use Rattle.script_rules.specs.Nearly.{Nearly}
use Rattle.script_rules.specs.Sound.{Sound, Whole}
use Rattle.script_rules.proofs.KeepWaiting.{take-keeps, take-fit}
use Rattle.script_rules.specs.Script.{can_go, step_once}
use Rattle.script_rules.specs.Unlinked.{step_unlinked}
use Rattle.script_rules.proofs.AdvanceLaws.{goes_on_lem, taken}

pub may-take : (c : Central) → Nearly c → can_go c ≡ true
    → (0 < c.queue.count) × (c.queue.count ≤ most_steps) × (c.counters.next_index < 4294967295)
may-take c n g =
    let o = goes_on_lem c g in
    (o.some, n.waits.few, omega (arith, n.tally.index, o.some))

-- ---- with a link or without: v is the world once the first waiting step is taken

module _ (w v : World) (e : v ≡ on_held w (take_step w.held)) where
  pub may-start : Sound 65 w → can_go w.held.state ≡ true → Ready 64 v × Fit v.held.state × (v.held.state.running.active ≡ true)
  may-start s g =
      let p = goes_on_lem w.held.state g in (
        subst (λ (x : World). Ready 64 x) (sym e) (taken w s g),
        subst (λ (x : World). Fit x.held.state) (sym e) (take-fit w.held s.nearly p.some p.idle),
        ap (λ (x : World). x.held.state.running.active) e ∙ (take-keeps w.held s.nearly p.some p.idle).active,
      )

  pub step-law : (z : World) (at : Micros) → z ≡ start v at → z ≡ step_once w at
  step-law z at f = f ∙ ap (λ (x : World). start x at) e

-- ---- with no link

module _ (h g : Held) (e : g ≡ take_step h) where
  pub may-start-alone : Whole h → can_go h.state ≡ true → (length g.store ≡ store_size) × (g.state.results.count ≤ most_results)
  may-start-alone w q =
      let p = goes_on_lem h.state q in
      let t = take-keeps h w.nearly p.some p.idle in
      subst (λ (x : Held). (length x.store ≡ store_size) × (x.state.results.count ≤ most_results)) (sym e) (t.store ∙ w.store, t.nearly.results.few)

  pub step-alone : (z : Held) (at : Micros) → z ≡ start_unlinked g at g.state.running.step → z ≡ step_unlinked h at
  step-alone z at f = f ∙ ap (λ (x : Held). start_unlinked x at x.state.running.step) e
