-- The loop that lets a batch wait, step by step.
use Prim.Native.Nat.{ℕ, ◌+◌, ◌-◌, ◌≤◌, ◌<◌}
use mathlib.Core.Path.{◌≡◌, refl, sym, ap, ◌∙◌}
use mathlib.Core.Bool.{Bool, true, false}
use mathlib.Core.List.{List, ◌∷◌}
use native.Mathlib.Omega.{arith}
use lib.ListN.{length, take, drop, get_or}
use lib.Dec.{leb, ltb}
use borrow.Author.Tests.{leb-true}
use Rattle.bytes_base.specs.Choice.{pick}
use Rattle.bytes_base.proofs.SpliceLaws.{length-splice}
use Rattle.lists.specs.Queue.{all}
use Rattle.lists.proofs.ScanLaws.{rest-cons, rest-nil, all_head, all_tail}
use Rattle.state_places.specs.Sizes.{most_steps, value_size, waiting_at}
use Rattle.state_rules.specs.Steps.{implies, carries, mtu_named, most_mtu, step_fits}
use Rattle.state_rules.proofs.FitLaws.{both}
use Rattle.script_rules.specs.World.{Held}
use Rattle.script_rules.specs.declared.Placed.{Placed}
use Rattle.script_rules.specs.BatchSteps.{value_len}
use Rattle.script_rules.specs.Waiting.{push_one, push_all}
use Rattle.script_rules.specs.Batch.{placed_fits}
use Rattle.script_rules.proofs.BatchLaws.{no_placed}

-- the largest number that a counter can hold
abbrev pub largest : ℕ
largest = 18446744073709551615

-- a step that a batch accepts has at most 244 bytes
pub value-short : (p : Placed) → step_fits p.step p.len ≡ true → value_len p ≤ value_size
unfolding step_fits
value-short p e = go (carries p.step) (both (implies (carries p.step) (leb p.len value_size)) (leb (mtu_named p.step) most_mtu) e).0
  where
    go : (b : Bool) → implies b (leb p.len value_size) ≡ true → pick b p.len 0 ≤ value_size
    go true h = leb-true p.len value_size h
    go false h = omega arith

-- what holds of both ways of a choice, each where it is taken
pub either : {A : Type 0} (P : A → Type 0) (b : Bool) (x y : A) → (b ≡ true → P x) → (b ≡ false → P y) → P (pick b x y)
either P true x y f g = f refl
either P false x y f g = g refl

module _ (h : Held) (values : List ℕ) (p : Placed) where
  pub length-pushed : length (push_one h values p).store ≡ length h.store
  unfolding push_one
  length-pushed =
      either (λ (g : Held). length g.store ≡ length h.store) (ltb h.state.queue.count most_steps) _ _
      (λ e. length-splice h.store (waiting_at h.state.queue.count) values p.place (value_len p))
      (λ e. refl)

  pub refused-pushed : (push_one h values p).state.counters.refused_steps ≤ h.state.counters.refused_steps + 1
  unfolding push_one
  refused-pushed =
      either (λ (g : Held). g.state.counters.refused_steps ≤ h.state.counters.refused_steps + 1) (ltb h.state.queue.count most_steps) _ _
      (λ e. omega arith)
      (λ e. omega arith)

-- i steps of a batch of count were pushed: what is left to push gives what was to be pushed
pub record Pushing (h₀ h : Held) (values : List ℕ) (placed : List Placed) (count i : ℕ) : Type 0 where
  pub most : count ≤ most_steps
  pub array : length placed ≡ 64
  pub fit : all (placed_fits (length values)) (drop i (take count placed)) ≡ true
  pub refused : h.state.counters.refused_steps + (count - i) < largest
  pub size : length h.store ≡ length h₀.store
  pub same : push_all h values (drop i (take count placed)) ≡ push_all h₀ values (take count placed)

pub pushing-start : (h : Held) (values : List ℕ) (placed : List Placed) (count : ℕ)
    → length placed ≡ 64 → count ≤ most_steps → all (placed_fits (length values)) (take count placed) ≡ true → h.state.counters.refused_steps + count < largest
    → Pushing h h values placed count 0
pushing-start h values placed count l m f r = record { most = m; array = l; fit = f; refused = omega arith; size = refl; same = refl }

module _ (h₀ h : Held) (values : List ℕ) (placed : List Placed) (count i : ℕ) (now : Pushing h₀ h values placed count i) where
  pub pushing-end : count ≤ i → h ≡ push_all h₀ values (take count placed)
  unfolding push_all
  pushing-end k = ap (push_all h values) (sym (rest-nil placed count i k (omega (arith, now.most, now.array)))) ∙ now.same

  module _ (k : i < count) where
    here : drop i (take count placed) ≡ get_or placed i no_placed ∷ drop (i + 1) (take count placed)
    here = rest-cons placed count i no_placed k (omega (arith, now.most, now.array))

    fits : all (placed_fits (length values)) (get_or placed i no_placed ∷ drop (i + 1) (take count placed)) ≡ true
    fits = ap (all (placed_fits (length values))) (sym here) ∙ now.fit

    pub may-push : (value_len (get_or placed i no_placed) ≤ value_size) × (h.state.counters.refused_steps < largest)
    may-push =
        let x = get_or placed i no_placed in
        let e : placed_fits (length values) x ≡ true = all_head (placed_fits (length values)) x (drop (i + 1) (take count placed)) fits in
        (value-short x (both (step_fits x.step x.len) (implies (carries x.step) (leb (x.place + x.len) (length values))) e).0, omega (arith, now.refused))

    pub pushing-on : (g : Held) → g ≡ push_one h values (get_or placed i no_placed) → Pushing h₀ g values placed count (i + 1)
    unfolding push_all
    pushing-on g e =
        let x = get_or placed i no_placed in
        record {
          most = now.most;
          array = now.array;
          fit = all_tail (placed_fits (length values)) x (drop (i + 1) (take count placed)) fits;
          refused = rw e (omega (arith, now.refused, refused-pushed h values x));
          size = rw e (length-pushed h values x ∙ now.size);
          same = ap (λ (y : Held). push_all y values (drop (i + 1) (take count placed))) e
              ∙ ap (push_all h values) (sym here)
              ∙ now.same;
        }
