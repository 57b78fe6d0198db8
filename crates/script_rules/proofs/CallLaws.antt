-- What push_steps asks of what it calls, and what each of its returns asks.
use Prim.Native.Nat.{ℕ, ◌+◌, ◌≤◌, ◌<◌}
use mathlib.Core.Path.{◌≡◌, refl, ◌∙◌}
use mathlib.Core.Bool.{Bool, true, false}
use mathlib.Core.List.{List, [], ◌∷◌}
use native.Mathlib.Omega.{arith}
use lib.ListN.{length, length-take}
use lib.Dec.{eqb, leb, ltb}
use borrow.Author.Tests.{eqb-true, eqb-false, leb-true, ltb-true}
use Rattle.bytes_base.specs.Choice.{pick}
use Rattle.lists.specs.Queue.{all}
use Rattle.lists.proofs.ScanLaws.{all_head, all_tail, all_cons}
use Rattle.state_places.specs.Sizes.{most_steps}
use Rattle.time.specs.declared.Micros.{Micros}
use Rattle.state.specs.Central.{Central}
use Rattle.state_rules.specs.Steps.{implies, carries, step_fits}
use Rattle.state_rules.specs.Fit.{last_index}
use Rattle.state_rules.proofs.FitLaws.{both}
use Rattle.state_rules.specs.Gate.{gate}
use Rattle.state_rules.proofs.GateLaws.{Passed, passed}
use Rattle.state_rules.specs.Refusals.{accepted, bad_batch, counter_full}
use Rattle.script_rules.specs.World.{on_held}
use Rattle.script_rules.specs.declared.Placed.{Placed}
use Rattle.script_rules.specs.declared.Batch.{Batch}
use Rattle.script_rules.specs.BatchSteps.{steps}
use Rattle.script_rules.specs.Waiting.{push_all}
use Rattle.script_rules.specs.Sound.{Sound}
use Rattle.script_rules.proofs.KeepTurns.{of-fit}
use Rattle.script_rules.proofs.KeepWaiting.{Pushed, push-all-keeps}
use Rattle.script_rules.specs.Outcome.{begins, refused}
use Rattle.script_rules.proofs.CallBeginLaws.{begins-sound}
use Rattle.script_rules.specs.Batch.{placed_fits, batch_fits, refused_below, counters_fit, gate_batch}
use Rattle.script_rules.proofs.BatchLaws.{batch-count, batch-placed}

-- ---- what a gate that refuses nothing has shown

pub record PassedBatch (c : Central) (store out : ℕ) (at : Micros) (b : Batch) (size : ℕ) : Type 0 where
  pub shared : Passed c store out at
  pub count : b.count ≤ most_steps
  pub fit : all (placed_fits size) (steps b) ≡ true
  pub index : c.counters.next_index + c.queue.count + b.count ≤ last_index
  pub refused : c.counters.refused_steps < refused_below

pub passed-batch : (c : Central) (store out : ℕ) (at : Micros) (b : Batch) (size : ℕ) → gate_batch c store out at b size ≡ 0 → PassedBatch c store out at b size
unfolding gate_batch counters_fit
passed-batch c store out at b size =
    go (eqb (gate c store out at) accepted) refl (batch_fits size b) refl (counters_fit c.counters c.queue.count b.count) refl
  where
    go : (x : Bool) → eqb (gate c store out at) accepted ≡ x → (y : Bool) → batch_fits size b ≡ y → (z : Bool) → counters_fit c.counters c.queue.count b.count ≡ z
        → ◌≡◌ {A = ℕ} (pick x (pick y (pick z accepted counter_full) bad_batch) (gate c store out at)) 0 → PassedBatch c store out at b size
    go true ex true ey true ez h =
        let k = both (leb (c.counters.next_index + c.queue.count + b.count) last_index) (ltb c.counters.refused_steps refused_below) ez in
        record {
          shared = passed c store out at (eqb-true (gate c store out at) 0 ex);
          count = batch-count b size ey;
          fit = batch-placed b size ey;
          index = leb-true (c.counters.next_index + c.queue.count + b.count) last_index k.0;
          refused = ltb-true c.counters.refused_steps refused_below k.1;
        }
    go true ex true ey false ez h = absurd (omega arith)
    go true ex false ey z ez h = absurd (omega arith)
    go false ex y ey z ez h = absurd (eqb-false (gate c store out at) 0 ex h)

-- ---- the steps that wait then

steps-fit : (size : ℕ) (ps : List Placed) → all (placed_fits size) ps ≡ true → all (λ p. step_fits p.step p.len) ps ≡ true
unfolding all
steps-fit size [] e = refl
steps-fit size (p ∷ ps) e =
    let here : step_fits p.step p.len ≡ true =
    (both (step_fits p.step p.len) (implies (carries p.step) (leb (p.place + p.len) size)) (all_head (placed_fits size) p ps e)).0 in
    all_cons (λ q. step_fits q.step q.len) p ps here (steps-fit size ps (all_tail (placed_fits size) p ps e))

module _ (c : Central) (st out : List ℕ) (at : Micros) (b : Batch) (values : List ℕ) (p : PassedBatch c (length st) (length out) at b (length values)) where
  pub pushed-keeps : Pushed (length (steps b)) (record { state = c; store = st }) (push_all (record { state = c; store = st }) values (steps b))
  pushed-keeps =
      let n : length (steps b) ≤ b.count = omega (arith, length-take b.count b.steps) in
      push-all-keeps (record { state = c; store = st }) values (steps b) (of-fit c p.shared.fit) (steps-fit (length values) (steps b) p.fit) (omega (arith, p.index)) (omega (arith, p.refused, p.count))

  pub pushed-sound : Sound 65 (on_held (begins c st out) (push_all (record { state = c; store = st }) values (steps b)))
  pushed-sound =
      let k = pushed-keeps in
      begins-sound (push_all (record { state = c; store = st }) values (steps b)) out (k.store ∙ p.shared.store) p.shared.out k.nearly
