-- What each return of the held bytes and of the gate asks, and what a gate that refuses nothing has shown.
use Prim.Native.Nat.{ℕ, ◌+◌, ◌-◌, ◌≤◌, ◌<◌}
use mathlib.Core.Path.{◌≡◌, refl, sym, ap, ◌∙◌}
use mathlib.Core.Bool.{Bool, true, false, ◌||◌, false≢true}
use native.Mathlib.Omega.{arith}
use lib.Dec.{eqb, leb}
use borrow.Author.Tests.{eqb-true, eqb-false, leb-true, eq-eqb, ne_eqb}
use Rattle.bytes_base.specs.Choice.{pick}
use Rattle.state_places.specs.Sizes.{frame_size}
use Rattle.time.specs.declared.Micros.{Micros}
use Rattle.state.specs.Central.{Central}
use Rattle.state.specs.declared.Bearer.{Bearer}
use Rattle.state_rules.specs.Fit.{most_notified}
use Rattle.state_rules.specs.Gate.{gate}
use Rattle.state_rules.proofs.GateLaws.{Passed, passed}
use Rattle.state_rules.specs.Refusals.{accepted, counter_full, long_frame}
use Rattle.link_rules.specs.Fragment.{with_held, dropped, held_before, held_fits, gate_fragment, refusing}

-- ---- what is held

-- ---- a frame

-- ---- refusals

module _ (b : Bearer) (start : Bool) (n : ℕ) (d : Bool) (e : d ≡ dropped b start) where
  pub fits-dropped : d ≡ true → true ≡ held_fits b start n
  unfolding held_fits
  fits-dropped h = rw (← e, h)

  pub fits-law : (from : ℕ) (r : Bool) → d ≡ false → from ≡ held_before b start → r ≡ leb (from + n) frame_size → r ≡ held_fits b start n
  unfolding held_fits
  fits-law from r h f g = g ∙ ap (λ (m : ℕ). leb (m + n) frame_size) f ∙ rw (← e, h)

module _ (c : Central) (store out : ℕ) (at : Micros) (start : Bool) (n g : ℕ) (e : g ≡ gate c store out at) where
  pub gate-shared : (g ≡ 0 → ⊥) → g ≡ gate_fragment c store out at start n
  unfolding gate_fragment
  gate-shared h = rw (← e, ne_eqb g 0 h)

  pub gate-own : g ≡ 0 → (full : Bool) → full ≡ eqb c.counters.notified most_notified → (x : Bool) → x ≡ held_fits c.bearer start n
      → (r : ℕ) → r ≡ pick full counter_full (pick x accepted long_frame) → r ≡ gate_fragment c store out at start n
  unfolding gate_fragment
  gate-own h full k x f r d = d ∙ rw (← e, eq-eqb g 0 h, ← k, ← f)

module _ (c r : Central) (why : ℕ) where
  pub refusing-long : why ≡ long_frame → r ≡ with_held c 0 → r ≡ refusing c why
  refusing-long h e = e ∙ rw (eq-eqb why long_frame h)

  pub refusing-else : (why ≡ long_frame → ⊥) → c ≡ refusing c why
  refusing-else h = rw (ne_eqb why long_frame h)

-- ---- what a gate that refuses nothing has shown

pub record PassedFragment (c : Central) (store out : ℕ) (at : Micros) (start : Bool) (n : ℕ) : Type 0 where
  pub shared : Passed c store out at
  pub notified : c.counters.notified + 1 ≤ most_notified
  pub room : dropped c.bearer start ≡ false → held_before c.bearer start + n ≤ frame_size

below : (x most : ℕ) → x ≤ most → (x ≡ most → ⊥) → x + 1 ≤ most
below x most h k = omega arith

roomy : (b : Bearer) (start : Bool) (n : ℕ) → held_fits b start n ≡ true → dropped b start ≡ false → held_before b start + n ≤ frame_size
unfolding held_fits
roomy b start n e f = leb-true (held_before b start + n) frame_size (go (dropped b start) f e)
  where
    go : (x : Bool) → x ≡ false → x || leb (held_before b start + n) frame_size ≡ true → leb (held_before b start + n) frame_size ≡ true
    go true h l = absurd (false≢true (sym h))
    go false h l = l

pub passed-fragment : (c : Central) (store out : ℕ) (at : Micros) (start : Bool) (n : ℕ) → gate_fragment c store out at start n ≡ 0 → PassedFragment c store out at start n
unfolding gate_fragment
passed-fragment c store out at start n =
    go (eqb (gate c store out at) accepted) refl (eqb c.counters.notified most_notified) refl (held_fits c.bearer start n) refl
  where
    go : (x : Bool) → eqb (gate c store out at) accepted ≡ x → (y : Bool) → eqb c.counters.notified most_notified ≡ y → (z : Bool) → held_fits c.bearer start n ≡ z
        → ◌≡◌ {A = ℕ} (pick x (pick y counter_full (pick z accepted long_frame)) (gate c store out at)) 0 → PassedFragment c store out at start n
    go true ex false ey true ez h =
        let p = passed c store out at (eqb-true (gate c store out at) 0 ex) in
        record {
          shared = p;
          notified = below c.counters.notified most_notified p.fit.head.notified (eqb-false c.counters.notified most_notified ey);
          room = roomy c.bearer start n ez;
        }
    go true ex false ey false ez h = absurd (omega arith)
    go true ex true ey z ez h = absurd (omega arith)
    go false ex y ey z ez h = absurd (eqb-false (gate c store out at) 0 ex h)
