-- What each return of the gate of a batch asks.
use Prim.Native.Nat.{ℕ, ◌≤◌}
use mathlib.Core.Path.{◌≡◌, sym, ◌∙◌}
use mathlib.Core.Bool.{Bool, true, false, not}
use borrow.Author.Tests.{ne_eqb, eq-eqb}
use Rattle.state_places.specs.Sizes.{most_steps}
use Rattle.time.specs.declared.Micros.{Micros}
use Rattle.state.specs.Central.{Central}
use Rattle.state_rules.specs.Gate.{gate}
use Rattle.state_rules.proofs.GateLaws.{passed}
use Rattle.state_rules.specs.Refusals.{accepted, bad_batch, counter_full}
use Rattle.script_rules.specs.declared.Batch.{Batch}
use Rattle.script_rules.proofs.BatchLaws.{batch-count}
use Rattle.script_rules.specs.Batch.{batch_fits, counters_fit, gate_batch}

module _ (c : Central) (store out : ℕ) (at : Micros) (b : Batch) (size g : ℕ) (e : g ≡ gate c store out at) where
  pub gate-shared : (g ≡ 0 → ⊥) → g ≡ gate_batch c store out at b size
  unfolding gate_batch
  gate-shared h = rw (← e, ne_eqb g 0 h)

  module _ (h : g ≡ 0) (x : Bool) (f : x ≡ batch_fits size b) where
    pub gate-bad : x ≡ false → bad_batch ≡ gate_batch c store out at b size
    unfolding gate_batch
    gate-bad k = rw (← e, eq-eqb g 0 h, ← f, k)

    pub gate-counts : x ≡ true → (c.queue.count ≤ most_steps) × (b.count ≤ most_steps)
    gate-counts k = ((passed c store out at (sym e ∙ h)).fit.head.waiting, batch-count b size (sym f ∙ k))

    module _ (k : x ≡ true) (y : Bool) (d : y ≡ counters_fit c.counters c.queue.count b.count) where
      pub gate-full : y ≡ false → counter_full ≡ gate_batch c store out at b size
      unfolding gate_batch
      gate-full l = rw (← e, eq-eqb g 0 h, ← f, k, ← d, l)

      pub gate-open : y ≡ true → accepted ≡ gate_batch c store out at b size
      unfolding gate_batch
      gate-open l = rw (← e, eq-eqb g 0 h, ← f, k, ← d, l)
