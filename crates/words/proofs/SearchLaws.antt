-- What the library's searches of a row say, in the words of the definitions: of all that pass, of one among them, of the first.
use Prim.Native.Nat.{ℕ, zero, suc, ◌+◌, ◌<◌, ◌≤◌}
use mathlib.Core.Path.{◌≡◌, refl, sym, ap, ◌∙◌}
use mathlib.Core.Bool.{Bool, true, false, ◌&&◌}
use mathlib.Core.List.{List, [], ◌∷◌}
use native.Mathlib.Numerals.{add-one}
use lib.ListN.{length, take, drop, get_or, length-drop}
use lib.Seq.{ext_get_or, get_or-take, get_or-drop, length-take-le}
use Rattle.std.proofs.Common.{◌↔◌, IsTrue, EachIndex, arith}
use Rattle.lists.specs.Queue.{all}
use Rattle.lists.proofs.ScanLaws.{all_head, all_tail}
use Rattle.words.specs.Table.{table}
use Rattle.words.specs.Tables.{word}
use Rattle.words.proofs.TableLaws.{table-length, table_at}

module _ {A B : Type 0} (f : A → Bool) (h : B → Bool) (z : A) (y : B) where
  -- two lists that pass in the same places
  all-same : (a : List A) (b : List B) → length a ≡ length b → ((k : ℕ) → k < length a → f (get_or a k z) ≡ h (get_or b k y)) → all f a ≡ all h b
  unfolding all
  all-same [] [] e p = refl
  all-same [] (x ∷ b) e p = absurd (omega arith)
  all-same (x ∷ a) [] e p = absurd (omega arith)
  all-same (x ∷ a) (v ∷ b) e p = rw (p 0 (omega arith)) (ap (λ (t : Bool). h v && t) (all-same a b (omega arith) (λ k l. p (suc k) (omega arith))))

-- the first n places of a table pass where the words of one of its rows do
pub all-row : {A : Type 0} (f : A → Bool) (h : ℕ → Bool) (w : List ℕ) (m n r : ℕ) (g : ℕ → A) (z : A) → n ≤ m → r + n ≤ length w
    → ((k : ℕ) → k < n → f (g k) ≡ h (word w r k)) → all h (take n (drop r w)) ≡ all f (take n (table m g))
all-row f h w m n r g z few room p =
    let s : n ≤ length (drop r w) = simp length-drop (omega arith) in
    let t : n ≤ length (table m g) = omega (arith, table-length m g) in
    sym
    (all-same f h z 0 (take n (table m g)) (take n (drop r w)) (length-take-le n (table m g) t ∙ sym (length-take-le n (drop r w) s))
    (λ k l.
    let q : k < n = omega (arith, length-take-le n (table m g) t) in
    ap f (get_or-take n (table m g) k z q ∙ table_at m k g z (omega arith)) ∙ p k q ∙ sym (ap h (get_or-take n (drop r w) k 0 q ∙ get_or-drop r w k 0))))

-- a row alone
pub row-taken : (w : List ℕ) (m n r : ℕ) → n ≤ m → r + n ≤ length w → take n (drop r w) ≡ take n (table m (λ i. word w r i))
row-taken w m n r few room =
    let s : n ≤ length (drop r w) = simp length-drop (omega arith) in
    let t : n ≤ length (table m (λ i. word w r i)) = omega (arith, table-length m (λ i. word w r i)) in
    ext_get_or 0 (take n (drop r w)) (take n (table m (λ i. word w r i))) (length-take-le n (drop r w) s ∙ sym (length-take-le n (table m (λ i. word w r i)) t))
    (λ k l.
    let q : k < n = omega (arith, length-take-le n (drop r w) s) in
    get_or-take n (drop r w) k 0 q ∙ get_or-drop r w k 0 ∙ sym (get_or-take n (table m (λ i. word w r i)) k 0 q ∙ table_at m k (λ i. word w r i) 0 (omega arith)))

-- ---- what `all` of the library says

module _ (f : ℕ → Bool) where
  each-all : (xs : List ℕ) → ((k : ℕ) → k < length xs → f (get_or xs k 0) ≡ true) → all f xs ≡ true
  unfolding all
  each-all [] p = refl
  each-all (x ∷ xs) p = rw (p 0 (omega arith), each-all xs (λ k l. p (suc k) (omega arith)))

  all-each : (xs : List ℕ) → all f xs ≡ true → (k : ℕ) → k < length xs → f (get_or xs k 0) ≡ true
  all-each [] e k l = absurd (omega arith)
  all-each (x ∷ xs) e zero l = all_head f x xs e
  all-each (x ∷ xs) e (suc k) l = all-each xs (all_tail f x xs e) k (omega arith)

truths : (a b : Bool) → (a ≡ true → b ≡ true) → (b ≡ true → a ≡ true) → a ≡ b
truths true b p q = sym (p refl)
truths false true p q = q refl
truths false false p q = refl

pub all-is : (f : ℕ → Bool) (xs : List ℕ) (r : Bool) → (IsTrue r ↔ EachIndex xs (λ k. f (get_or xs k 0) ≡ true)) → r ≡ all f xs
all-is f xs r p = truths r (all f xs) (λ e. each-all f xs (p.0 e)) (λ e. p.1 (all-each f xs e))

-- ---- a loop that gathers a test: none yet, and one more

pub all-none : (f : ℕ → Bool) → all f [] ≡ true
unfolding all
all-none f = refl

all-suc : (f : ℕ → Bool) (xs : List ℕ) (i : ℕ) → i < length xs → all f (take (suc i) xs) ≡ (all f (take i xs) && f (get_or xs i 0))
unfolding all
all-suc f [] i h = absurd (omega arith)
all-suc f (x ∷ xs) zero h = go (f x)
  where
    go : (b : Bool) → (b && true) ≡ (true && b)
    go true = refl
    go false = refl
all-suc f (x ∷ xs) (suc i) h = go _ _ _ (f x) (all-suc f xs i (omega arith))
  where
    go : (p q r b : Bool) → p ≡ (q && r) → (b && p) ≡ ((b && q) && r)
    go p q r true e = e
    go p q r false e = refl

pub all-more : (f : ℕ → Bool) (xs : List ℕ) (i : ℕ) (b : Bool) → i < length xs → b ≡ all f (take i xs)
    → (b && f (get_or xs i 0)) ≡ all f (take (i + 1) xs)
all-more f xs i b h e = rw (e, add-one i) (sym (all-suc f xs i h))
