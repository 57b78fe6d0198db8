-- Those that count, by the code's definitions and by the promise's.
use Prim.Native.Nat.{ℕ, ◌+◌, ◌*◌, ◌≤◌, min}
use mathlib.Core.Path.{◌≡◌, refl, sym, ap, ap₂, ◌∙◌, subst}
use mathlib.Core.Bool.{Bool, true, false, ◌&&◌, ◌||◌, false≢true}
use mathlib.Core.List.{List, [], ◌∷◌, ◌++◌}
use native.Mathlib.Omega.{arith}
use lib.ListN.{length}
use lib.Dec.{eqb, leb}
use borrow.Author.Tests.{eqb-true, leb-true, leb-false, le-leb, lt-leb}
use Rattle.std.specs.Prelude.{Some, None}
use Rattle.bytes_base.specs.Choice.{pick}
use Rattle.bytes_base.proofs.TestLaws.{both}
use Rattle.lists.specs.Blocks.{Valued}
use Rattle.time.specs.declared.Micros.{Micros}
use Rattle.time.specs.declared.Millis.{Millis}
use Rattle.time.specs.Clock.{latest, largest, later}
use Rattle.notifications.specs.declared.Notification.{Notification}
use Rattle.notifications.specs.declared.Wanted.{Wanted}
use Rattle.notifications.specs.declared.Age.TheVariants.{Within}
use Rattle.notifications.specs.Wait as code
use Rattle.thm_waits.specs.Waits.{Terms, counts, Numbered, numbered, joined}

-- ---- lists

-- each of a list
abbrev pub Each : {A : Type 0} → (A → Type 0) → List A → Type 0
Each P [] = Unit {0}
Each P (x ∷ l) = P x × Each P l

pub each_append : {A : Type 0} (P : A → Type 0) (l m : List A) → Each P l → Each P m → Each P (l ++ m)
each_append P [] m a b = b
each_append P (x ∷ l) m a b = (a.0, each_append P l m a.1 b)

each_last : {A : Type 0} (P : A → Type 0) (l : List A) (x : A) → Each P (l ++ (x ∷ [])) → P x
each_last P [] x e = e.0
each_last P (y ∷ l) x e = each_last P l x e.1

-- none, or a last one
data Ends {A : Type 0} (l : List A) : Type 0 where
  empty : l ≡ [] → Ends l
  ends : (before : List A) (x : A) → l ≡ before ++ (x ∷ []) → Ends l

end_of : {A : Type 0} (l : List A) → Ends l
end_of [] = empty refl
end_of (x ∷ l) = go (end_of l)
  where
    go : Ends l → Ends (x ∷ l)
    go (empty e) = ends [] x (ap (λ t. x ∷ t) e)
    go (ends before y e) = ends (x ∷ before) y (ap (λ t. x ∷ t) e)

-- the entries alone
abbrev pub entries : List (Valued Notification) → List Notification
entries [] = []
entries (x ∷ l) = x.entry ∷ entries l

-- ---- a run of bytes in others

pub record Stands (xs ys : List ℕ) : Type 0 where
  pub front : List ℕ
  pub rest : List ℕ
  pub is : ys ≡ front ++ (xs ++ rest)

record Begins (xs ys : List ℕ) : Type 0 where
  rest : List ℕ
  is : ys ≡ xs ++ rest

begins : (xs ys : List ℕ) → code.starts xs ys ≡ true → Begins xs ys
unfolding code.starts
begins [] ys e = record { rest = ys; is = refl }
begins (x ∷ xs) [] e = absurd (false≢true e)
begins (x ∷ xs) (y ∷ ys) e =
    let k = both (eqb x y) (code.starts xs ys) e in
    let b = begins xs ys k.1 in
    record { rest = b.rest; is = ap₂ (λ (z : ℕ) (t : List ℕ). z ∷ t) (sym (eqb-true x y k.0)) b.is }

stands : (xs ys : List ℕ) → code.contains xs ys ≡ true → Stands xs ys
unfolding code.contains
stands xs [] e = let b = begins xs [] e in record { front = []; rest = b.rest; is = b.is }
stands xs (y ∷ ys) e = go (code.starts xs (y ∷ ys)) refl e (λ f. stands xs ys f)
  where
    go : (b : Bool) → code.starts xs (y ∷ ys) ≡ b → (b || code.contains xs ys) ≡ true → (code.contains xs ys ≡ true → Stands xs ys) → Stands xs (y ∷ ys)
    go true s f next = let b = begins xs (y ∷ ys) s in record { front = []; rest = b.rest; is = b.is }
    go false s f next = let b = next f in record { front = y ∷ b.front; rest = b.rest; is = ap (λ (t : List ℕ). y ∷ t) b.is }

-- ---- those that count for the code

module _ (w : Wanted) where
  abbrev pub chosen : ℕ → List (Valued Notification) → List Numbered
  chosen n l = numbered (code.counts w) n l

  seen-joined : (n : ℕ) (l : List (Valued Notification)) → code.seen w l ≡ joined (chosen n l)
  unfolding code.seen
  seen-joined n [] = refl
  seen-joined n (x ∷ l) = go (code.counts w x.entry) (seen-joined (n + 1) l)
    where
      go : (b : Bool) → code.seen w l ≡ joined (chosen (n + 1) l)
          → pick b x.value [] ++ code.seen w l ≡ joined (pick b (record { number = n; notice = x } ∷ []) [] ++ chosen (n + 1) l)
      go true e = ap (λ (t : List ℕ). x.value ++ t) e
      go false e = e

  -- one past the number of the last, z where there is none
  abbrev last_or : ℕ → List Numbered → ℕ
  last_or z [] = z
  last_or z (x ∷ l) = last_or (x.number + 1) l

  last-or : (z : ℕ) (l : List Numbered) (x : Numbered) → last_or z (l ++ (x ∷ [])) ≡ x.number + 1
  last-or z [] x = refl
  last-or z (y ∷ l) x = last-or (y.number + 1) l x

  newest-is : (n none : ℕ) (l : List (Valued Notification)) → code.newest_counted w n none (entries l) ≡ last_or none (chosen n l)
  unfolding code.newest_counted
  newest-is n none [] = refl
  newest-is n none (x ∷ l) = go (code.counts w x.entry) (λ z. newest-is (n + 1) z l)
    where
      go : (b : Bool) → ((z : ℕ) → code.newest_counted w (n + 1) z (entries l) ≡ last_or z (chosen (n + 1) l))
          → code.newest_counted w (n + 1) (pick b (n + 1) none) (entries l) ≡ last_or none (pick b (record { number = n; notice = x } ∷ []) [] ++ chosen (n + 1) l)
      go true next = next (n + 1)
      go false next = next none

  all-count : (n : ℕ) (l : List (Valued Notification)) → Each (λ (y : Numbered). code.counts w y.notice.entry ≡ true) (chosen n l)
  all-count n [] = tt
  all-count n (x ∷ l) = go (code.counts w x.entry) refl (all-count (n + 1) l)
    where
      go : (b : Bool) → code.counts w x.entry ≡ b → Each (λ (y : Numbered). code.counts w y.notice.entry ≡ true) (chosen (n + 1) l)
          → Each (λ (y : Numbered). code.counts w y.notice.entry ≡ true) (pick b (record { number = n; notice = x } ∷ []) [] ++ chosen (n + 1) l)
      go true e i = (e, i)
      go false e i = i

  -- where none counts nothing passes
  none_any : (n : ℕ) (l : List (Valued Notification)) → chosen n l ≡ [] → code.any w l ≡ false
  unfolding code.any
  none_any n [] e = refl
  none_any n (x ∷ l) e = go (code.counts w x.entry) e (λ f. none_any (n + 1) l f)
    where
      filled : length (record { number = n; notice = x } ∷ chosen (n + 1) l) ≡ 0 → ⊥
      filled z = omega (arith, z)

      go : (b : Bool) → pick b (record { number = n; notice = x } ∷ []) [] ++ chosen (n + 1) l ≡ [] → (chosen (n + 1) l ≡ [] → code.any w l ≡ false) → (b || code.any w l) ≡ false
      go true f next = absurd (filled (ap length f))
      go false f next = next f

  none_passes : (n : ℕ) (l : List (Valued Notification)) (needle : List ℕ) → chosen n l ≡ [] → code.passes w l needle ≡ false
  unfolding code.passes code.contains code.starts
  none_passes n l [] e = none_any n l e
  none_passes n l (y ∷ ys) e = ap (code.contains (y ∷ ys)) (seen-joined n l ∙ ap joined e)

  pass-stands : (n : ℕ) (l : List (Valued Notification)) (needle : List ℕ) → code.passes w l needle ≡ true → Stands needle (joined (chosen n l))
  unfolding code.passes
  pass-stands n l [] e = record { front = []; rest = joined (chosen n l); is = refl }
  pass-stands n l (y ∷ ys) e = subst (Stands (y ∷ ys)) (seen-joined n l) (stands (y ∷ ys) (code.seen w l) e)

  -- what a wait that passes has found
  pub record Found (n : ℕ) (l : List (Valued Notification)) (needle : List ℕ) : Type 0 where
    pub before : List Numbered
    pub newest : Numbered
    pub some : chosen n l ≡ before ++ (newest ∷ [])
    pub counted : code.counts w newest.notice.entry ≡ true
    pub named : code.newest_counted w n 0 (entries l) ≡ newest.number + 1
    pub stands : Stands needle (joined (before ++ (newest ∷ [])))

  pub found : (n : ℕ) (l : List (Valued Notification)) (needle : List ℕ) → code.passes w l needle ≡ true → Found n l needle
  found n l needle p = go (end_of (chosen n l))
    where
      go : Ends (chosen n l) → Found n l needle
      go (empty e) = absurd (false≢true (sym (none_passes n l needle e) ∙ p))
      go (ends before x e) =
          record {
            before = before;
            newest = x;
            some = e;
            counted = each_last (λ (y : Numbered). code.counts w y.notice.entry ≡ true) before x (subst (Each (λ (y : Numbered). code.counts w y.notice.entry ≡ true)) e (all-count n l));
            named = newest-is n 0 l ∙ ap (last_or 0) e ∙ last-or 0 before x;
            stands = subst (λ (t : List Numbered). Stands needle (joined t)) e (pass-stands n l needle p);
          }

  -- nothing is passed on an empty list
  pub none_found : (needle : List ℕ) → code.passes w [] needle ≡ false
  none_found needle = none_passes 0 [] needle refl

-- ---- and for the promise

same-numbered : (f g : Notification → Bool) → ((x : Notification) → f x ≡ g x) → (n : ℕ) (l : List (Valued Notification)) → numbered f n l ≡ numbered g n l
same-numbered f g e n [] = refl
same-numbered f g e n (x ∷ l) =
    ap₂ (λ (b : Bool) (t : List Numbered). pick b (record { number = n; notice = x } ∷ []) [] ++ t) (e x.entry) (same-numbered f g e (n + 1) l)

-- a clock that a call takes is below the largest
up-to : (now y : ℕ) → now ≤ latest → leb now y ≡ leb now (min y largest)
up-to now y h = go (leb now y) refl
  where
    go : (b : Bool) → leb now y ≡ b → b ≡ leb now (min y largest)
    go true e = sym (le-leb now (min y largest) (omega (arith, leb-true now y e, h)))
    go false e = sym (lt-leb now (min y largest) (omega (arith, leb-false now y e)))

grouped : (a b c d : Bool) → (a && b && c && d) ≡ (a && (b && c && d))
grouped true b c d = refl
grouped false b c d = refl

module _ (handle link : ℕ) (now : Micros) (age : Millis) (time : now.0 ≤ latest) where
  abbrev terms : Terms
  terms = record { handle = handle; link = link; now = now; age = age }

  abbrev wanted : Wanted
  wanted = record { handle = handle; age = Within age; link = Some link; now = now }

  same-counts : (x : Notification) → code.counts wanted x ≡ counts terms x
  unfolding code.counts later
  same-counts x =
      sym
      (ap (λ (d : Bool). eqb x.handle handle && eqb x.link link && leb x.at.0 now.0 && d) (up-to now.0 (x.at.0 + age.0 * 1000) time)
      ∙ grouped (eqb x.handle handle) (eqb x.link link) (leb x.at.0 now.0) (leb now.0 (min (x.at.0 + age.0 * 1000) largest)))

  pub same_chosen : (n : ℕ) (l : List (Valued Notification)) → chosen wanted n l ≡ numbered (counts terms) n l
  same_chosen n l = same-numbered (code.counts wanted) (counts terms) same-counts n l

-- an aged wait counts with a link only
pub linked-then : (handle link : ℕ) (now : Micros) (age : Millis) (linked : Bool) (x : Notification)
    → code.counts (record { handle = handle; age = Within age; link = pick linked (Some link) None; now = now }) x ≡ true → linked ≡ true
unfolding code.counts later
linked-then handle link now age true x e = refl
linked-then handle link now age false x e = absurd (false≢true (sym (never (eqb x.handle handle)) ∙ e))
  where
    never : (a : Bool) → (a && (false && leb x.at.0 now.0 && leb now.0 (min (x.at.0 + age.0 * 1000) largest))) ≡ false
    never true = refl
    never false = refl
