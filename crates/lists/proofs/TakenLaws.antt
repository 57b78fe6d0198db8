-- Laws of entries taken in order: the loop that takes them, and what a table keeps.
use Prim.Native.Nat.{ℕ, ◌≤◌, ◌<◌}
use mathlib.Core.Path.{◌≡◌, refl, sym, ap, ◌∙◌}
use mathlib.Core.Bool.{Bool, true, false}
use mathlib.Core.List.{List, [], ◌∷◌, ◌++◌}
use native.Mathlib.Omega.{arith}
use lib.ListN.{length, take}
use lib.Dec.{leb}
use borrow.Author.Tests.{leb-true}
use Rattle.bytes_base.specs.Choice.{pick}
use Rattle.lists.specs.Cut.{entries}
use Rattle.lists.specs.Queue.{onto}
use Rattle.lists.specs.Taken.{Have, have, taken}
use Rattle.lists.proofs.CutLaws.{entries-first, entries-none}
use Rattle.lists.proofs.TableLaws.{length-onto, take-onto, onto-self, onto-onto}

-- ---- the loop over the entries

-- the entries in the bytes s, which are left, give `whole` from the array a with n in it; it is the array a₀ with other entries in front
pub record Going {A : Type 0} (more : List A → List ℕ → List A) (handle : List ℕ → ℕ) (most len : ℕ) (whole : Have A)
    (a₀ a : List A) (n last : ℕ) (s : List ℕ) : Type 0 where
  pub count : n ≤ most
  pub size : length a ≡ most
  pub upon : a ≡ onto a₀ (take n a)
  pub same : taken more handle most (take n a) last (entries len s) ≡ whole

module _ {A : Type 0} (more : List A → List ℕ → List A) (handle : List ℕ → ℕ) (most len : ℕ) (a₀ : List A) where
  pub going : (n last : ℕ) (s : List ℕ) → n ≤ most → length a₀ ≡ most
      → Going more handle most len (taken more handle most (take n a₀) last (entries len s)) a₀ a₀ n last s
  going n last s h g = record { count = h; size = g; upon = sym (onto-self a₀ n (omega arith)); same = refl }

  module _ (whole : Have A) (a : List A) (n last : ℕ) (s : List ℕ) (i : Going more handle most len whole a₀ a n last s) where
    -- no entry is left
    pub done : length s < len → whole ≡ have (take n a) last false
    unfolding taken
    done h = rw (← i.same, entries-none len s h) refl

    -- the entry e is the next
    module _ (e r : List ℕ) (es : s ≡ e ++ r) (p : 0 < len) (l : length e ≡ len) where
      cut : entries len s ≡ e ∷ entries len r
      cut = ap (entries len) es ∙ entries-first len e r p l

      -- it has no place
      pub no_place : leb (length (more (take n a) e)) most ≡ false → whole ≡ have (take n a) last true
      unfolding taken
      no_place f = rw (← i.same, cut, f) refl

      -- it is read
      pub goes : (m : List A) → m ≡ more (take n a) e → length (take n a) ≤ length m → leb (length m) most ≡ true
          → (y : ℕ) → y ≡ handle e → Going more handle most len whole a₀ (onto a m) (length m) y r
      unfolding taken
      goes m em ln ok y ey =
          let km : take (length m) (onto a m) ≡ m = take-onto a m in
          let le : length m ≤ most = leb-true (length m) most ok in
          record {
            count = le;
            size = length-onto a m (omega (arith, i.size)) ∙ i.size;
            upon = rw km (ap (λ (x : List A). onto x m) i.upon ∙ onto-onto a₀ (take n a) m ln);
            same = rw (km, ← i.same, cut, ← em, ok, ey) refl;
          }

-- ---- what a table keeps

-- no more than its size
pub taken-most : {A : Type 0} (more : List A → List ℕ → List A) (handle : List ℕ → ℕ) (most : ℕ) (l : List A) (last : ℕ) (es : List (List ℕ))
    → length l ≤ most → length (taken more handle most l last es).list ≤ most
unfolding taken
taken-most more handle most l last [] h = h
taken-most {A} more handle most l last (e ∷ es) h =
    go (leb (length (more l e)) most) refl (λ k. taken-most more handle most (more l e) (handle e) es k)
  where
    go : (b : Bool) → leb (length (more l e)) most ≡ b → (length (more l e) ≤ most → length (taken more handle most (more l e) (handle e) es).list ≤ most)
        → length (pick {A = Have A} b (taken more handle most (more l e) (handle e) es) (have l last true)).list ≤ most
    go true q ih = ih (leb-true (length (more l e)) most q)
    go false q ih = h

-- what each entry keeps, the whole answer keeps
pub taken-keeps : {A : Type 0} (P : List A → Type 0) (more : List A → List ℕ → List A) (handle : List ℕ → ℕ) (most : ℕ)
    → ((l : List A) (e : List ℕ) → P l → P (more l e)) → (l : List A) (last : ℕ) (es : List (List ℕ))
    → P l → P (taken more handle most l last es).list
unfolding taken
taken-keeps P more handle most k l last [] p = p
taken-keeps {A} P more handle most k l last (e ∷ es) p =
    go (leb (length (more l e)) most) (taken-keeps P more handle most k (more l e) (handle e) es (k l e p))
  where
    go : (b : Bool) → P (taken more handle most (more l e) (handle e) es).list
        → P (pick {A = Have A} b (taken more handle most (more l e) (handle e) es) (have l last true)).list
    go true ih = ih
    go false ih = p
