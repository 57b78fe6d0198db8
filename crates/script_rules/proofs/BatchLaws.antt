-- What each return of the tests of a batch asks.
use Prim.Native.Nat.{ℕ, ◌-◌, ◌≤◌, ◌<◌}
use mathlib.Core.Path.{◌≡◌}
use mathlib.Core.Bool.{Bool, true, false, not}
use lib.ListN.{take}
use lib.Dec.{leb}
use borrow.Author.Tests.{lt-leb, le-leb, leb-true}
use Rattle.bytes_base.proofs.TestLaws.{fits-less, fits_more}
use Rattle.lists.specs.Queue.{all}
use Rattle.state_places.specs.Sizes.{most_steps}
use Rattle.state.specs.declared.Step.TheVariants.{Scan}
use Rattle.state_rules.specs.Steps.{carries, step_fits}
use Rattle.state_rules.proofs.FitLaws.{both}
use Rattle.script_rules.specs.declared.Placed.{Placed}
use Rattle.script_rules.specs.declared.Batch.{Batch}
use Rattle.script_rules.specs.BatchSteps.{steps}
use Rattle.script_rules.specs.Batches.{placed_fits, batch_fits}

-- a place of an array that nothing was put into
abbrev pub no_placed : Placed
no_placed = record { step = Scan (record { 0 = 0 }); place = 0; len = 0 }

-- ---- one step

module _ (size : ℕ) (p : Placed) (a : Bool) (e : a ≡ step_fits p.step p.len) where
  pub placed-bad : a ≡ false → false ≡ placed_fits size p
  placed-bad h = rw (← e, h)

  module _ (b : Bool) (f : b ≡ carries p.step) (h : a ≡ true) where
    pub placed-bare : b ≡ false → true ≡ placed_fits size p
    placed-bare k = rw (← e, h, ← f, k)

    pub placed-long : b ≡ true → size < p.len → false ≡ placed_fits size p
    placed-long k g = rw (← e, h, ← f, k) (fits_more size p.place p.len g)

    pub placed-in : b ≡ true → p.len ≤ size → leb p.place (size - p.len) ≡ placed_fits size p
    placed-in k g = rw (← e, h, ← f, k) (fits-less size p.place p.len g)

-- ---- the batch

pub batch-many : (b : Batch) (size : ℕ) → most_steps < b.count → false ≡ batch_fits size b
unfolding batch_fits
batch-many b size h = rw (lt-leb b.count most_steps h)

pub batch-each : (b : Batch) (size : ℕ) (r : Bool) → b.count ≤ most_steps → r ≡ all (placed_fits size) (take b.count b.steps) → r ≡ batch_fits size b
unfolding batch_fits
batch-each b size r h e = rw (le-leb b.count most_steps h) e

pub batch-count : (b : Batch) (size : ℕ) → batch_fits size b ≡ true → b.count ≤ most_steps
unfolding batch_fits
batch-count b size e = leb-true b.count most_steps (both (leb b.count most_steps) (all (placed_fits size) (steps b)) e).0

pub batch-placed : (b : Batch) (size : ℕ) → batch_fits size b ≡ true → all (placed_fits size) (steps b) ≡ true
unfolding batch_fits
batch-placed b size e = (both (leb b.count most_steps) (all (placed_fits size) (steps b)) e).1
