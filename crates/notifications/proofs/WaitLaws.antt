-- Laws for the loops of a wait: over the notifications, and over the bytes that are joined.
use Prim.Native.Nat.{ℕ, ◌+◌, ◌≤◌, ◌<◌}
use mathlib.Core.Path.{◌≡◌, refl, ap, ◌∙◌}
use mathlib.Core.Bool.{Bool, true, false}
use mathlib.Core.List.{List, [], ◌∷◌}
use native.Mathlib.Omega.{arith}
use lib.ListN.{length, take, drop, get_or, length-drop}
use lib.Seq.{length-take-le}
use lib.Dec.{leb}
use Rattle.bytes_base.specs.Choice.{pick}
use borrow.Author.Tests.{leb-true}
use Rattle.state_places.specs.Sizes.{value_size}
use Rattle.lists.specs.Blocks.{Valued, place, bytes}
use Rattle.lists.proofs.BlockLaws.{valued-here, valued-end}
use Rattle.lists.proofs.ScanLaws.{rest-cons, rest-nil, all-at}
use Rattle.notifications.specs.Kept.{part, heard, values_fit}
use Rattle.notifications.specs.Wait.{counts, any, seen, contains, passes, newest_counted}
use Rattle.notifications.specs.declared.Notification.{Notification}
use Rattle.notifications.specs.declared.Wanted.{Wanted}

-- a record of zeros, as `get_or` has it past the end
abbrev pub none : Notification
none = record { at = record { 0 = 0 }; handle = 0; len = 0; indication = false; link = 0 }

abbrev fits : Notification → Bool
fits x = leb x.len value_size

-- the first c places of the array a, at place i
module _ (a : List Notification) (c i : ℕ) where
  -- ---- lengths

  pub fit_at : i < c → c ≤ length a → values_fit (take c a) ≡ true → (get_or a i none).len ≤ value_size
  fit_at p q e = leb-true (get_or a i none).len value_size (all-at fits a c i none p q e)

  -- ---- one that counts

  module _ (h : Wanted) (s : List ℕ) where
    here : i < c → c ≤ length a → drop i (heard s (take c a)) ≡ record { entry = get_or a i none; value = bytes s (place part i) (get_or a i none).len } ∷ drop (i + 1) (heard s (take c a))
    here p q = valued-here (λ (x : Notification). x.len) part s a c i none p q

    ended : c ≤ i → c ≤ length a → drop i (heard s (take c a)) ≡ []
    ended p q = valued-end (λ (x : Notification). x.len) part s a c i p q

    pub any-hit : i < c → c ≤ length a → counts h (get_or a i none) ≡ true → any h (drop i (heard s (take c a))) ≡ true
    unfolding any
    any-hit p q e = rw (here p q, e)

    pub any-pass : i < c → c ≤ length a → counts h (get_or a i none) ≡ false
        → any h (drop i (heard s (take c a))) ≡ any h (drop (i + 1) (heard s (take c a)))
    unfolding any
    any-pass p q e = rw (here p q, e)

    pub any-end : c ≤ i → c ≤ length a → any h (drop i (heard s (take c a))) ≡ false
    unfolding any
    any-end p q = ap (any h) (ended p q)

-- ---- the newest that counts

module _ (w : Wanted) (a : List Notification) (c i n m : ℕ) (few : c ≤ length a) where
  pub newest-on : i < c → newest_counted w n m (drop i (take c a)) ≡ newest_counted w (n + 1) (pick (counts w (get_or a i none)) (n + 1) m) (drop (i + 1) (take c a))
  unfolding newest_counted
  newest-on h = ap (newest_counted w n m) (rest-cons a c i none h few)

  pub newest-end : c ≤ i → newest_counted w n m (drop i (take c a)) ≡ m
  unfolding newest_counted
  newest-end h = ap (newest_counted w n m) (rest-nil a c i h few)

-- ---- the two ways of a wait

length-needle : (s : List ℕ) (at m : ℕ) → at + m ≤ length s → length (bytes s at m) ≡ m
length-needle s at m hs = length-take-le m (drop at s) (simp length-drop (omega arith))

pub passes-empty : (h : Wanted) (l : List (Valued Notification)) (s : List ℕ) (at m : ℕ) (b : Bool) → m ≡ 0 → b ≡ any h l → b ≡ passes h l (bytes s at m)
unfolding passes
passes-empty h l s at m b e f = rw e f

pub passes-some : (h : Wanted) (l : List (Valued Notification)) (s : List ℕ) (at m : ℕ) (joined : List ℕ) (b : Bool) → at + m ≤ length s → (m ≡ 0 → ⊥)
    → joined ≡ seen h l → b ≡ contains (bytes s at m) joined → b ≡ passes h l (bytes s at m)
unfolding passes
passes-some h l s at m joined b g e f k =
    k ∙ ap (contains (bytes s at m)) f ∙ go (bytes s at m) (omega (arith, length-needle s at m g))
  where
    go : (needle : List ℕ) → 0 < length needle → contains needle (seen h l) ≡ passes h l needle
    go [] p = absurd (omega arith)
    go (x ∷ xs) p = refl
