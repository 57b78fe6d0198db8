-- The fragment call of a packet, from its parts; and where its data lies.
use Prim.Native.Nat.{ℕ, ◌+◌, ◌≤◌}
use mathlib.Core.Path.{◌≡◌, refl, ap, ◌∙◌}
use mathlib.Core.Bool.{Bool, true, false, ◌||◌}
use mathlib.Core.List.{List}
use mathlib.Core.Logic.{◌⊎◌, inl, inr}
use native.Mathlib.Omega.{arith}
use lib.ListN.{length}
use lib.Dec.{eqb}
use borrow.Author.Tests.{eq-eqb, ne_eqb}
use Rattle.std.specs.Prelude.{Option, None, Some}
use Rattle.bytes_base.specs.Choice.{pick}
use Rattle.bytes_bounds.specs.declared.Span.{Span}
use Rattle.h4_acl.specs.Acl.{parts_of, start, continuation, by_flag, on_handle, fragment_of, begins}
use Rattle.h4_acl.specs.declared.Acl.{Acl}
use Rattle.h4_acl.specs.declared.Fragment.{Fragment}
use Rattle.h4_acl.proofs.SplitLaws.{parts-end, parts-inside}

-- ---- by the flag

module _ (flag : ℕ) where
  pub flag-starts : (flag ≡ 0) ⊎ (flag ≡ 2) → Some true ≡ begins flag
  unfolding begins
  flag-starts (inl e) = rw e
  flag-starts (inr e) = rw e

  pub flag-continues : flag ≡ 1 → Some false ≡ begins flag
  unfolding begins
  flag-continues e = rw e

  pub flag-other : ((flag ≡ 0) ⊎ (flag ≡ 2) → ⊥) → (flag ≡ 1 → ⊥) → None ≡ begins flag
  unfolding begins
  flag-other a b = rw (ne_eqb flag 0 (λ e. a (inl e)), ne_eqb flag 2 (λ e. a (inr e)), ne_eqb flag 1 b)

  -- with the place of the data
  abbrev with-place : Option Bool → Span → Option Fragment
  with-place (Some b) place = Some (record { begins = b; place = place })
  with-place None place = None

  placed : (place : Span) → with-place (begins flag) place ≡ by_flag flag place
  unfolding begins by_flag
  placed place = go (eqb flag 0 || eqb flag 2) (eqb flag 1)
    where
      go : (x y : Bool) → with-place (pick x (Some true) (pick y (Some false) None)) place ≡ pick x (start place) (pick y (continuation place) None)
      go true y = refl
      go false true = refl
      go false false = refl

-- ---- on the connected handle

module _ (s : List ℕ) (connected : ℕ) where
  pub no-packet : None ≡ parts_of s → None ≡ fragment_of s connected
  no-packet e = rw (← e)

  module _ (p : Acl) (e : Some p ≡ parts_of s) where
    pub other-handle : (p.handle ≡ connected → ⊥) → None ≡ fragment_of s connected
    other-handle h = rw (← e, ne_eqb p.handle connected h)

    module _ (h : p.handle ≡ connected) where
      flagged : by_flag p.flag p.place ≡ fragment_of s connected
      flagged = rw (← e, eq-eqb p.handle connected h)

      pub same-handle : (b : Bool) → Some b ≡ begins p.flag → Some (record { begins = b; place = p.place }) ≡ fragment_of s connected
      same-handle b f = ap (λ (o : Option Bool). with-place p.flag o p.place) f ∙ placed p.flag p.place ∙ flagged

      pub no-fragment : None ≡ begins p.flag → None ≡ fragment_of s connected
      no-fragment f = ap (λ (o : Option Bool). with-place p.flag o p.place) f ∙ placed p.flag p.place ∙ flagged

-- where the data of a fragment ends
abbrev pub fragment-end : Option Fragment → ℕ
fragment-end (Some f) = f.place.at + f.place.len
fragment-end None = 0

flag-end : (flag : ℕ) (place : Span) → fragment-end (by_flag flag place) ≤ place.at + place.len
unfolding by_flag
flag-end flag place = go (eqb flag 0 || eqb flag 2) (eqb flag 1)
  where
    go : (x y : Bool) → fragment-end (pick x (start place) (pick y (continuation place) None)) ≤ place.at + place.len
    go true y = omega arith
    go false true = omega arith
    go false false = omega arith

handle-end : (connected : ℕ) (p : Option Acl) → fragment-end (on_handle connected p) ≤ parts-end p
handle-end connected (Some p) = go (eqb p.handle connected)
  where
    go : (x : Bool) → fragment-end (pick x (by_flag p.flag p.place) None) ≤ p.place.at + p.place.len
    go true = flag-end p.flag p.place
    go false = omega arith
handle-end connected None = omega arith

-- it lies in the packet
pub fragment-inside : (s : List ℕ) (connected : ℕ) (f : Option Fragment) → f ≡ fragment_of s connected → fragment-end f ≤ length s
fragment-inside s connected f e = rw e (omega (arith, handle-end connected (parts_of s), parts-inside s (parts_of s) refl))
