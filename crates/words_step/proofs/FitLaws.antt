-- What a step's first word tells of whether a batch accepts it, and what a loop over first words tells of all.
use Prim.Native.Nat.{ℕ, zero, suc, ◌-◌, ◌/◌, ◌%◌, ◌≤◌}
use mathlib.Core.Path.{◌≡◌, refl, sym, ◌∙◌}
use mathlib.Core.Bool.{Bool, true, false, ◌&&◌, ◌||◌}
use mathlib.Core.List.{List, [], ◌∷◌}
use native.Mathlib.Omega.{arith}
use lib.ListN.{length, take, drop, get_or}
use Rattle.std.proofs.Common.{◌↔◌, IsTrue, EachIndex}
use lib.Dec.{eqb, leb}
use borrow.Author.Tests.{le-leb, leb-true, ne_eqb}
use Rattle.state_places.specs.Sizes.{value_size}
use Rattle.lists.specs.Queue.{all}
use Rattle.lists.proofs.ScanLaws.{all_head, all_tail, all_cons}
use Rattle.state_rules.specs.Steps.{implies, most_mtu, step_fits}
use Rattle.state_rules.specs.Fit.{steps_fit}
use Rattle.state.specs.Fresh.{no_queued}
use Rattle.state.specs.declared.Queued.{Queued}
use Rattle.words.specs.declared.Flat.{Flat}
use Rattle.words.specs.Words.{two48, step_of, len_of, queued_of, flat_of}
use Rattle.words.specs.Tables.{word, steps_in}
use Rattle.words.proofs.SearchLaws.{all-row, all-is}
use Rattle.words_step.specs.Fits.{word_fits}

unfoldable flat_fits : Flat → Bool
flat_fits f = implies (eqb f.kind 6 || eqb f.kind 8) (leb (f.size % 256) value_size) && implies (eqb f.kind 2) (leb f.size most_mtu)

-- the kind decides, and each kind is a computation
kind_fits : (k : ℕ) (f : Flat) → f.kind ≡ k → step_fits (step_of f) (len_of f) ≡ flat_fits f
unfolding step_fits step_of len_of flat_fits
kind_fits zero f e = rw e
kind_fits (suc zero) f e = rw e
kind_fits (suc (suc zero)) f e = rw e
kind_fits (suc (suc (suc zero))) f e = rw e
kind_fits (suc (suc (suc (suc zero)))) f e = rw e
kind_fits (suc (suc (suc (suc (suc zero))))) f e = rw e
kind_fits (suc (suc (suc (suc (suc (suc zero)))))) f e = rw e
kind_fits (suc (suc (suc (suc (suc (suc (suc zero))))))) f e = rw e
kind_fits (suc (suc (suc (suc (suc (suc (suc (suc zero)))))))) f e = rw e
kind_fits (suc (suc (suc (suc (suc (suc (suc (suc (suc zero))))))))) f e = rw e
kind_fits (suc (suc (suc (suc (suc (suc (suc (suc (suc (suc zero)))))))))) f e = rw e
kind_fits (suc (suc (suc (suc (suc (suc (suc (suc (suc (suc (suc zero))))))))))) f e = rw e
kind_fits (suc (suc (suc (suc (suc (suc (suc (suc (suc (suc (suc (suc n)))))))))))) f e =
    rw (
      ne_eqb f.kind 0 (λ g. omega arith),
      ne_eqb f.kind 1 (λ g. omega arith),
      ne_eqb f.kind 2 (λ g. omega arith),
      ne_eqb f.kind 3 (λ g. omega arith),
      ne_eqb f.kind 4 (λ g. omega arith),
      ne_eqb f.kind 5 (λ g. omega arith),
      ne_eqb f.kind 6 (λ g. omega arith),
      ne_eqb f.kind 7 (λ g. omega arith),
      ne_eqb f.kind 8 (λ g. omega arith),
      ne_eqb f.kind 9 (λ g. omega arith),
      ne_eqb f.kind 10 (λ g. omega arith),
      ne_eqb f.kind 11 (λ g. omega arith),
    )

abbrev pub fine : Queued → Bool
fine q = step_fits q.step q.len

word_fits_flat : (w : List ℕ) (i : ℕ) → word_fits (word w 0 i) ≡ fine (queued_of (flat_of (word w 0 i) (word w 64 i) (word w 128 i) (word w 192 i)))
unfolding flat_fits
word_fits_flat w i =
    let f : Flat = flat_of (word w 0 i) (word w 64 i) (word w 128 i) (word w 192 i) in
    sym (kind_fits f.kind f refl)

-- ---- the quick test

implied : (p : Bool) → implies p true ≡ true
implied true = refl
implied false = refl

-- 245 * 2^48
abbrev short_below : ℕ
short_below = 68961369294110720

short-fits : (a : ℕ) → leb a (short_below - 1) ≡ true → word_fits a ≡ true
short-fits a e =
    let h : a ≤ short_below - 1 = leb-true a (short_below - 1) e in
    let q : a / two48 ≤ 244 = omega arith in
    rw (
      le-leb (a / two48 % 256) value_size (omega arith),
      le-leb (a / two48) most_mtu (omega arith),
      implied (eqb (a % 256) 6 || eqb (a % 256) 8),
      implied (eqb (a % 256) 2),
    )

all-short : (l : List ℕ) → all (λ x. leb x (short_below - 1)) l ≡ true → all word_fits l ≡ true
unfolding all
all-short [] e = refl
all-short (a ∷ l) e =
    all_cons word_fits a l (short-fits a (all_head (λ x. leb x (short_below - 1)) a l e)) (all-short l (all_tail (λ x. leb x (short_below - 1)) a l e))

-- the first words of the first n steps
module _ (w words : List ℕ) (n : ℕ) (few : n ≤ 64) (long : length w ≡ 1152) (e : words ≡ take n (drop 0 w)) where
  by-words : all word_fits words ≡ steps_fit (take n (steps_in w))
  unfolding steps_in
  by-words =
      rw e
      (all-row fine word_fits w 64 n 0 (λ i. queued_of (flat_of (word w 0 i) (word w 64 i) (word w 128 i) (word w 192 i))) no_queued few (omega arith)
      (λ k h. sym (word_fits_flat w k)))

  pub fit-short : all (λ x. leb x (short_below - 1)) words ≡ true → true ≡ steps_fit (take n (steps_in w))
  fit-short h = sym (all-short words h) ∙ by-words

  pub fit-each : (r : Bool) → (IsTrue r ↔ EachIndex words (λ k. word_fits (get_or words k 0) ≡ true)) → r ≡ steps_fit (take n (steps_in w))
  fit-each r h = all-is word_fits words r h ∙ by-words
