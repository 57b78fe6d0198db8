-- Results numbered one after another, and what is read off a table that keeps the newest of them.
use Prim.Native.Nat.{ℕ, zero, suc, ◌+◌, ◌-◌, ◌≤◌, ◌<◌}
use mathlib.Core.Path.{◌≡◌, refl, sym, ap, ◌∙◌, subst}
use mathlib.Core.Bool.{Bool, true, false}
use mathlib.Core.List.{List, [], ◌∷◌, ◌++◌}
use native.Mathlib.Omega.{arith}
use lib.ListN.{length, drop, length-append, length-drop}
use lib.Seq.{drop-drop, drop_at, drop-length}
use lib.Dec.{leb}
use borrow.Author.Tests.{leb-true, leb-false}
use Rattle.bytes_base.specs.Choice.{pick}
use Rattle.lists.specs.Queue.{newest}
use Rattle.lists.specs.Blocks.{Valued}
use Rattle.state.specs.declared.StepResult.{StepResult}
use Rattle.thm_trail.specs.Log.{up_to, newer}

abbrev pub Numbered : ℕ → List (Valued StepResult) → Type 0
Numbered k [] = Unit {0}
Numbered k (x ∷ l) = (x.entry.index ≡ k) × Numbered (suc k) l

pub numbered-drop : (m k : ℕ) (l : List (Valued StepResult)) → Numbered k l → Numbered (k + m) (drop m l)
numbered-drop zero k l n = let e : k ≡ k + 0 = omega arith in subst (λ (j : ℕ). Numbered j l) e n
numbered-drop (suc m) k [] n = tt
numbered-drop (suc m) k (x ∷ l) n = let e : suc k + m ≡ k + suc m = omega arith in subst (λ (j : ℕ). Numbered j (drop m l)) e (numbered-drop m (suc k) l n.1)

pub numbered-rest : (m : ℕ) (l : List (Valued StepResult)) → Numbered 0 l → Numbered m (drop m l)
numbered-rest m l n = let e : 0 + m ≡ m = omega arith in subst (λ (j : ℕ). Numbered j (drop m l)) e (numbered-drop m 0 l n)

pub numbered-snoc : (k : ℕ) (l : List (Valued StepResult)) (x : Valued StepResult) → Numbered k l → x.entry.index ≡ k + length l → Numbered k (l ++ (x ∷ []))
numbered-snoc k [] x n e = (omega (arith, e), tt)
numbered-snoc k (y ∷ l) x n e = (n.0, numbered-snoc (suc k) l x n.1 (omega (arith, e)))

pub up-to : (k : ℕ) (x : Valued StepResult) (l : List (Valued StepResult)) → Numbered k (x ∷ l) → up_to (x ∷ l) ≡ k + length (x ∷ l)
unfolding up_to
up-to k x [] n = omega (arith, n.0)
up-to k x (y ∷ l) n = up-to (suc k) y l n.1 ∙ omega arith

pub newer-drop : (n k : ℕ) (l : List (Valued StepResult)) → Numbered k l → newer n l ≡ drop (n - k) l
unfolding newer
newer-drop n k [] h = go (n - k)
  where
    go : (m : ℕ) → ◌≡◌ {A = List (Valued StepResult)} [] (drop m [])
    go zero = refl
    go (suc m) = refl
newer-drop n k (x ∷ l) h = go (leb n x.entry.index) refl (newer-drop n (suc k) l h.1)
  where
    go : (b : Bool) → leb n x.entry.index ≡ b → newer n l ≡ drop (n - suc k) l → pick b (x ∷ newer n l) (newer n l) ≡ drop (n - k) (x ∷ l)
    go true e ih =
        let u : n ≤ x.entry.index = leb-true n x.entry.index e in
        let z : n - k ≡ 0 = omega (arith, h.0) in
        let y : n - suc k ≡ 0 = omega (arith, h.0) in
        ap (λ (t : List (Valued StepResult)). x ∷ t) (ih ∙ ap (λ (m : ℕ). drop m l) y) ∙ ap (λ (m : ℕ). drop m (x ∷ l)) (sym z)
    go false e ih =
        let u : x.entry.index < n = leb-false n x.entry.index e in
        let z : n - k ≡ suc (n - suc k) = omega (arith, h.0) in
        ih ∙ ap (λ (m : ℕ). drop m (x ∷ l)) (sym z)

-- a table that keeps the newest of a log tells how long the log is
pub up-to-newest : (most : ℕ) (l : List (Valued StepResult)) → 0 < most → Numbered 0 l → up_to (newest most l) ≡ length l
unfolding newest up_to
up-to-newest most l h n = go (drop m l) refl
  where
    m : ℕ
    m = length l - most

    d : Numbered m (drop m l)
    d = numbered-rest m l n

    s : length (drop m l) ≡ length l - m
    s = length-drop m l

    go : (t : List (Valued StepResult)) → drop m l ≡ t → up_to t ≡ length l
    go [] e = let z : length (drop m l) ≡ 0 = ap length e in omega (arith, s)
    go (x ∷ t) e =
        let z : length (drop m l) ≡ length (x ∷ t) = ap length e in
        up-to m x t (subst (λ (u : List (Valued StepResult)). Numbered m u) e d) ∙ omega (arith, s)

-- those of the newest that are numbered n or higher
newer-newest : (most n : ℕ) (l : List (Valued StepResult)) → Numbered 0 l → length l - most ≤ n → newer n (newest most l) ≡ drop n l
unfolding newest
newer-newest most n l h k =
    let m : ℕ = length l - most in
    let e : m + (n - m) ≡ n = omega (arith, k) in
    newer-drop n m (drop m l) (numbered-rest m l h) ∙ drop-drop (n - m) m l ∙ ap (λ (i : ℕ). drop i l) e

-- nothing was given
pub gave-none : (most : ℕ) (l : List (Valued StepResult)) → 0 < most → Numbered 0 l → newer (up_to (newest most l)) (newest most l) ≡ []
gave-none most l h n =
    ap (λ (k : ℕ). newer k (newest most l)) (up-to-newest most l h n) ∙ newer-newest most (length l) l n (omega arith) ∙ drop-length l

-- one was given
pub gave_one : (most : ℕ) (l : List (Valued StepResult)) (x : Valued StepResult) → 0 < most → Numbered 0 l → x.entry.index ≡ length l
    → newer (up_to (newest most l)) (newest most (l ++ (x ∷ []))) ≡ x ∷ []
gave_one most l x h n e =
    ap (λ (k : ℕ). newer k (newest most (l ++ (x ∷ [])))) (up-to-newest most l h n)
    ∙ newer-newest most (length l) (l ++ (x ∷ [])) (numbered-snoc 0 l x n (omega (arith, e))) (omega (arith, length-append l (x ∷ [])))
    ∙ drop_at l (x ∷ []) (length l) refl
