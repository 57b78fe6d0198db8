-- The words of a core in which nothing is held of a frame.
use Prim.Native.Nat.{ℕ, zero, suc}
use mathlib.Core.Path.{◌≡◌, refl, sym, ap, ◌∙◌}
use mathlib.Core.Bool.{Bool, true, false}
use mathlib.Core.List.{List, [], ◌∷◌}
use lib.ListN.{get_or, set}
use lib.Seq.{get_or-set_other}
use lib.Dec.{eqb}
use native.Mathlib.Omega.{arith}
use borrow.Author.Tests.{ne_eqb}
use Rattle.bytes_base.specs.Choice.{pick}
use Rattle.state_refusals.specs.Refusals.{long_frame}
use Rattle.state_core.specs.declared.Core.{Core}
use Rattle.link_call.specs.Leaves.{emptied}
use Rattle.c_core.specs.Layout.{core_in}
use Rattle.c_central.specs.After.{emptied_if}

other : (w : List ℕ) (k : ℕ) → (k ≡ 17 → ⊥) → get_or (set w 17 0) k 0 ≡ get_or w k 0
other w k h = get_or-set_other w 17 k 0 0 h

-- a word that there is not is 0 too
none : (w : List ℕ) (i : ℕ) → get_or (set w i 0) i 0 ≡ 0
none [] i = refl
none (x ∷ w) zero = refl
none (x ∷ w) (suc i) = none w i

emptied-core : (w : List ℕ) → core_in (set w 17 0) ≡ emptied (core_in w)
unfolding core_in
emptied-core w =
    rw (
      none w 17,
      other w 0 (λ e. omega arith),
      other w 1 (λ e. omega arith),
      other w 2 (λ e. omega arith),
      other w 3 (λ e. omega arith),
      other w 4 (λ e. omega arith),
      other w 5 (λ e. omega arith),
      other w 6 (λ e. omega arith),
      other w 7 (λ e. omega arith),
      other w 8 (λ e. omega arith),
      other w 9 (λ e. omega arith),
      other w 10 (λ e. omega arith),
      other w 11 (λ e. omega arith),
      other w 12 (λ e. omega arith),
      other w 13 (λ e. omega arith),
      other w 14 (λ e. omega arith),
      other w 15 (λ e. omega arith),
      other w 16 (λ e. omega arith),
      other w 18 (λ e. omega arith),
      other w 19 (λ e. omega arith),
      other w 20 (λ e. omega arith),
      other w 21 (λ e. omega arith),
      other w 22 (λ e. omega arith),
      other w 23 (λ e. omega arith),
      other w 24 (λ e. omega arith),
      other w 25 (λ e. omega arith),
      other w 26 (λ e. omega arith),
      other w 27 (λ e. omega arith),
      other w 28 (λ e. omega arith),
      other w 29 (λ e. omega arith),
      other w 30 (λ e. omega arith),
      other w 31 (λ e. omega arith),
      other w 32 (λ e. omega arith),
      other w 33 (λ e. omega arith),
      other w 34 (λ e. omega arith),
      other w 35 (λ e. omega arith),
      other w 36 (λ e. omega arith),
    )

-- by whether the frame was too long
by_length : (b : Bool) (w : List ℕ) (d : Core) → d ≡ core_in w → core_in (pick b (set w 17 0) w) ≡ pick b (emptied d) d
by_length true w d e = emptied-core w ∙ ap emptied (sym e)
by_length false w d e = sym e

pub left-core : (why : ℕ) (w : List ℕ) (d : Core) → d ≡ core_in w → core_in (emptied_if why w) ≡ pick (eqb why long_frame) (emptied d) d
left-core why w d e = by_length (eqb why long_frame) w d e

pub emptied-here : (why : ℕ) (w : List ℕ) → why ≡ long_frame → set w 17 0 ≡ emptied_if why w
emptied-here why w e = ap (λ (n : ℕ). emptied_if n w) (sym e)

pub stays_here : (why : ℕ) (w : List ℕ) → (why ≡ long_frame → ⊥) → w ≡ emptied_if why w
stays_here why w h = rw (ne_eqb why long_frame h)

-- a refusal of a long frame is one
pub not-both : (why : ℕ) → why ≡ 0 → why ≡ long_frame → ⊥
not-both why e f = omega arith
