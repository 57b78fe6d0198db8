-- What push_steps asks of what it calls, and what each of its returns asks.
use Prim.Native.Nat.{ℕ, ◌+◌, ◌≤◌, ◌<◌}
use mathlib.Core.Path.{◌≡◌, sym, ap, subst, ◌∙◌}
use mathlib.Core.Bool.{true}
use mathlib.Core.List.{List}
use native.Mathlib.Omega.{arith}
use lib.ListN.{length}
use Rattle.lists.specs.Queue.{all}
use Rattle.state_places.specs.Sizes.{most_steps}
use Rattle.time.specs.declared.Micros.{Micros}
use Rattle.state.specs.declared.Sent.{Sent}
use Rattle.time.specs.Clock.{latest}
use Rattle.script_rules.specs.World.{Held, World, on_held}
use Rattle.script_rules.specs.declared.Batch.{Batch}
use Rattle.script_rules.specs.BatchSteps.{steps}
use Rattle.script_rules.specs.Waiting.{push_all}
use Rattle.script_rules.specs.Sound.{Sound}
use Rattle.script_rules.specs.Script.{advance}
use Rattle.script_rules.specs.Outcome.{begins, done, refused}
use Rattle.script_rules.proofs.GateLaws.{goes_through, is-stopped}
use Rattle.script_rules.specs.Batch.{placed_fits, gate_batch, push_steps}
use Rattle.script_rules.proofs.PushLaws.{largest}
use Rattle.script_rules.proofs.CallLaws.{PassedBatch, passed-batch, pushed-sound}
use Rattle.state_core.specs.declared.Core.{Core}
use Rattle.state_core.specs.declared.Turn.{Turn}
use Rattle.state_core.specs.Reading.{central, held, world}
use Rattle.central_answers.specs.declared.Answer.{Answer}
use Rattle.central_answers.specs.Answers.{outcome}

module _ (c : Core) (w st out : List ℕ) (at : Micros) (b : Batch) (values : List ℕ) (g : ℕ)
    (e : g ≡ gate_batch (central c w) (length st) (length out) at b (length values)) where
  pub batch-refused : (a : Answer Core Sent) → (g ≡ 0 → ⊥) → ((x y z : List ℕ) → outcome a x y z ≡ refused (central c x) g y z)
      → outcome a w st out ≡ push_steps (central c w) st out at b values
  unfolding push_steps
  batch-refused a h f =
      f w st out ∙ ap (λ (n : ℕ). refused (central c w) n st out) e
      ∙ sym (is-stopped g (gate_batch (central c w) (length st) (length out) at b (length values)) e _ _ h)

  module _ (h : g ≡ 0) where
    shown : PassedBatch (central c w) (length st) (length out) at b (length values)
    shown = passed-batch (central c w) (length st) (length out) at b (length values) (sym e ∙ h)

    pub may-wait : (b.count ≤ most_steps) × (all (placed_fits (length values)) (steps b) ≡ true) × (c.counters.refused_steps + b.count < largest)
    may-wait = (shown.count, shown.fit, omega (arith, shown.refused, shown.count))

    module _ (q : Core) (w₁ st₁ : List ℕ) (f : held q w₁ st₁ ≡ push_all (held c w st) values (steps b))
        (t : Turn) (d : (x y z : List ℕ) → world t x y z ≡ begins (central q x) y z) where
      begun : world t w₁ st₁ out ≡ on_held (begins (central c w) st out) (push_all (held c w st) values (steps b))
      begun = d w₁ st₁ out ∙ ap (λ (i : Held). on_held (begins (central c w) st out) i) f

      pub may-advance : Sound 65 (world t w₁ st₁ out) × (at.0 ≤ latest)
      may-advance =
          (subst (λ (v : World). Sound 65 v) (sym begun) (pushed-sound (central c w) st out at b values shown), shown.shared.time)

      pub batch-done : (r : Turn) (w₂ st₂ out₂ : List ℕ) (a : Answer Core Sent) → world r w₂ st₂ out₂ ≡ advance (world t w₁ st₁ out) at
          → ((x y z : List ℕ) → outcome a x y z ≡ done (world r x y z)) → outcome a w₂ st₂ out₂ ≡ push_steps (central c w) st out at b values
      unfolding push_steps
      batch-done r w₂ st₂ out₂ a er ea =
          ea w₂ st₂ out₂
          ∙ ap done (er ∙ ap (λ (v : World). advance v at) begun)
          ∙ sym (goes_through g (gate_batch (central c w) (length st) (length out) at b (length values)) e _ _ h)
