-- Laws of the search for a range from the end.
use Rattle.std.specs.Prelude.{Option, None}
use Prim.Native.Nat.{ℕ, ◌+◌, ◌-◌, ◌≤◌, ◌<◌}
use mathlib.Core.Path.{◌≡◌, refl}
use mathlib.Core.Bool.{Bool, true, false}
use mathlib.Core.List.{List, [], ◌∷◌}
use native.Mathlib.Omega.{arith}
use lib.ListN.{length, take, drop, get_or}
use lib.Dec.{leb}
use borrow.Author.Tests.{le-leb, lt-leb}
use Rattle.bytes_base.specs.Choice.{pick}
use Rattle.lists.proofs.TableLaws.{here, past}
use Rattle.gatt_characteristics.specs.Characteristic.{zero-characteristic}
use Rattle.gatt_characteristics.specs.declared.Characteristic.{Characteristic}
use Rattle.gatt_descriptors.specs.Range.{declared_in, stop, range_or, first_range}
use Rattle.words_characteristic.specs.Parts.{scanned_on}
use Rattle.words_characteristic.specs.declared.Scan.{Scan}

-- what a scan has found is so of the list from j on
pub record Scanned (start end from : ℕ) (a : List Characteristic) (c j : ℕ) (s : Scan) : Type 0 where
  pub best : s.best ≡ first_range from end (declared_in start end (drop j (take c a)))
  pub to : s.to ≡ stop end (declared_in start end (drop j (take c a)))

module _ (start end from : ℕ) (a : List Characteristic) (c : ℕ) (k : c ≤ length a) where
  pub scan-start : Scanned start end from a c c (record { best = None; to = end })
  unfolding declared_in first_range stop
  scan-start =
      let e : drop c (take c a) ≡ [] = past zero-characteristic a c c k (omega arith) in
      record { best = rw e; to = rw e }

  -- by the two tests that a characteristic passes or not
  by : (s : Scan) (x : Characteristic) (ys : List Characteristic) (b₁ b₂ : Bool) → s.best ≡ first_range from end ys → s.to ≡ stop end ys
      → ((pick b₁ (pick b₂ (record { best = range_or from x.value_handle s.to s.best; to = x.declaration - 1 }) s) s).best
      ≡ first_range from end (pick b₁ (pick b₂ (x ∷ ys) ys) ys))
      × ((pick b₁ (pick b₂ (record { best = range_or from x.value_handle s.to s.best; to = x.declaration - 1 }) s) s).to
      ≡ stop end (pick b₁ (pick b₂ (x ∷ ys) ys) ys))
  unfolding first_range stop
  by s x ys true true f₁ f₂ = (rw (f₁, f₂), refl)
  by s x ys true false f₁ f₂ = (f₁, f₂)
  by s x ys false b₂ f₁ f₂ = (f₁, f₂)

  pub scan_step : (j : ℕ) → j < c → (s : Scan) → Scanned start end from a c (j + 1) s
      → (x : Characteristic) → x ≡ get_or a j zero-characteristic → (r : Scan) → r ≡ scanned_on start end from x s → Scanned start end from a c j r
  unfolding declared_in first_range stop scanned_on
  scan_step j g s i x ex r e =
      let d = here zero-characteristic a c j k g in
      let w =
      by s (get_or a j zero-characteristic) (declared_in start end (drop (j + 1) (take c a)))
      (leb start (get_or a j zero-characteristic).declaration) (leb (get_or a j zero-characteristic).declaration end) i.best i.to in
      record { best = rw (e, ex, d) w.0; to = rw (e, ex, d) w.1 }

-- ---- the ways out of one step

module _ (start end from : ℕ) (c : Characteristic) (s : Scan) where
  pub scan-before : c.declaration < start → s ≡ scanned_on start end from c s
  unfolding scanned_on
  scan-before h = rw (lt-leb start c.declaration h)

  pub scan-after : start ≤ c.declaration → end < c.declaration → s ≡ scanned_on start end from c s
  unfolding scanned_on
  scan-after h g = rw (le-leb start c.declaration h, lt-leb c.declaration end g)

  pub scan-take : (b : Option (ℕ × ℕ)) (x : ℕ) → start ≤ c.declaration → c.declaration ≤ end
      → b ≡ range_or from c.value_handle s.to s.best → x ≡ c.declaration - 1 → record { best = b; to = x } ≡ scanned_on start end from c s
  unfolding scanned_on
  scan-take b x h g e₁ e₂ = rw (le-leb start c.declaration h, le-leb c.declaration end g, e₁, e₂)
