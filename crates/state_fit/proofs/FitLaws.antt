-- The tests of the core and of the tables, joined, are fit; lengths of reports that are read from words fit by themselves.
use Prim.Native.Nat.{ℕ, zero, suc, ◌≤◌, ◌%◌, ◌/◌}
use mathlib.Core.Path.{◌≡◌, refl, sym, ◌∙◌}
use mathlib.Core.Bool.{Bool, true, false, ◌&&◌}
use mathlib.Core.List.{List}
use native.Mathlib.Omega.{arith}
use lib.ListN.{take}
use lib.Dec.{leb}
use borrow.Author.Tests.{le-leb}
use Rattle.bytes_base.specs.Choice.{pick}
use Rattle.lists.specs.Queue.{all}
use Rattle.state_places.specs.Sizes.{most_steps, most_results, most_characteristics, most_notifications}
use Rattle.gatt_characteristics.specs.Characteristic.{rises}
use Rattle.notifications.specs.Kept.{values_fit, links_fit}
use Rattle.state_rules.specs.Fit.{results_fit, steps_fit, lengths_fit, fits}
use Rattle.state_rules.proofs.FitLaws.{head_of, of-head, of-fit, unfit}
use Rattle.words.specs.Table.{table_from}
use Rattle.words.specs.Words.{bit_at, data_len_of, response_of}
use Rattle.words.specs.Tables.{word, steps_in, results_in, characteristics_in, notifications_in, heard_in}
use Rattle.state_core.specs.declared.Core.{Core}
use Rattle.state_core.specs.Reading.{central}
use Rattle.state_fit.specs.Parts.{core_fits, tables_fit}

pub unfit-core : (c : Core) (w : List ℕ) → core_fits c ≡ false → false ≡ fits (central c w)
unfit-core c w e =
    sym (unfit (central c w) (core_fits c) (λ f. of-head c.counts c.counters c.bearer c.running c.reports c.key_count f.head) e)

-- each place of a table passes where every word does
from_all : {A : Type 0} (t : A → Bool) (g : ℕ → A) (i n k : ℕ) → ((j : ℕ) → t (g j) ≡ true) → all t (take k (table_from i n g)) ≡ true
unfolding all table_from
from_all t g i n zero h = refl
from_all t g i zero (suc k) h = refl
from_all t g i (suc n) (suc k) h = rw (h i) (from_all t g (suc i) n k h)

short : (x : ℕ) → leb (data_len_of x) 31 ≡ true
short x = le-leb (data_len_of x) 31 (omega arith)

short-response : (x : ℕ) → leb (response_of x) 32 ≡ true
unfolding response_of
short-response x = go (bit_at 4294967296 x)
  where
    go : (b : Bool) → leb (pick b 32 (x / 16777216 % 32)) 32 ≡ true
    go true = refl
    go false = le-leb (x / 16777216 % 32) 32 (omega arith)

lengths-fit : (w : List ℕ) (n : ℕ) → lengths_fit 31 (take n (heard_in w).len) ≡ true
unfolding heard_in
lengths-fit w n = from_all (λ k. leb k 31) (λ i. data_len_of (word w 864 i)) 0 64 n (λ j. short (word w 864 j))

responses-fit : (w : List ℕ) (n : ℕ) → lengths_fit 32 (take n (heard_in w).response) ≡ true
unfolding heard_in
responses-fit w n = from_all (λ k. leb k 32) (λ i. response_of (word w 864 i)) 0 64 n (λ j. short-response (word w 864 j))

module _ (c : Core) (w : List ℕ) (h : core_fits c ≡ true) where
  fit_words : (s r x v l : Bool) → s ≡ steps_fit (take c.counts.waiting (steps_in w)) → r ≡ results_fit (take c.counts.results (results_in w))
      → x ≡ rises (take c.counts.characteristics (characteristics_in w)) → v ≡ values_fit (take c.counts.notifications (notifications_in w))
      → l ≡ links_fit c.counters.links (take c.counts.notifications (notifications_in w))
      → ((((s && r) && x) && v) && l) ≡ fits (central c w)
  fit_words true true true true true e₁ e₂ e₃ e₄ e₅ =
      sym (of-fit (central c w)
      (record {
        head = head_of c.counts c.counters c.bearer c.running c.reports c.key_count h;
        results = sym e₂;
        values = sym e₄;
        lengths = lengths-fit w c.reports;
        responses = responses-fit w c.reports;
        steps = sym e₁;
        rising = sym e₃;
        linked = sym e₅;
      }))
  fit_words false r x v l e₁ e₂ e₃ e₄ e₅ = sym (unfit (central c w) (steps_fit (take c.counts.waiting (steps_in w))) (λ f. f.steps) (sym e₁))
  fit_words true false x v l e₁ e₂ e₃ e₄ e₅ = sym (unfit (central c w) (results_fit (take c.counts.results (results_in w))) (λ f. f.results) (sym e₂))
  fit_words true true false v l e₁ e₂ e₃ e₄ e₅ = sym (unfit (central c w) (rises (take c.counts.characteristics (characteristics_in w))) (λ f. f.rising) (sym e₃))
  fit_words true true true false l e₁ e₂ e₃ e₄ e₅ = sym (unfit (central c w) (values_fit (take c.counts.notifications (notifications_in w))) (λ f. f.values) (sym e₄))
  fit_words true true true true false e₁ e₂ e₃ e₄ e₅ =
      sym (unfit (central c w) (links_fit c.counters.links (take c.counts.notifications (notifications_in w))) (λ f. f.linked) (sym e₅))

-- ---- x is what the core's test said

module _ (c : Core) (x : Bool) (e : x ≡ core_fits c) (h : x ≡ true) where
  fit-core : core_fits c ≡ true
  fit-core = sym e ∙ h

  pub counts-fit : (c.counts.waiting ≤ most_steps) × (c.counts.results ≤ most_results)
      × (c.counts.characteristics ≤ most_characteristics) × (c.counts.notifications ≤ most_notifications)
  counts-fit =
      let f = head_of c.counts c.counters c.bearer c.running c.reports c.key_count fit-core in
      (f.waiting, f.results, f.characteristics, f.notifications)

  pub all_fit : (w : List ℕ) (f : Bool)
      → f ≡ tables_fit w c.counts.waiting c.counts.results c.counts.characteristics c.counts.notifications c.counters.links → f ≡ fits (central c w)
  all_fit w f g = g ∙ fit_words c w fit-core _ _ _ _ _ refl refl refl refl refl
