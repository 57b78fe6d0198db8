-- A law for each way out of the code, over plain variables.
use Rattle.std.specs.Prelude.{Option, Some, None}
use Prim.Native.Nat.{ℕ, ◌+◌, ◌≤◌, ◌<◌}
use mathlib.Core.Path.{◌≡◌, sym, ap, ap₂, ◌∙◌}
use mathlib.Core.Bool.{Bool, true, false}
use mathlib.Core.List.{List, [], ◌∷◌, ◌++◌}
use native.Mathlib.Omega.{arith}
use lib.ListN.{length, take, set, length-append}
use lib.Seq.{length-take-le}
use lib.Dec.{leb}
use borrow.Author.Tests.{le-leb, lt-leb}
use Rattle.lists.specs.Queue.{onto}
use Rattle.lists.specs.Taken.{Have, have}
use Rattle.lists.proofs.TableLaws.{onto-self, set-onto}
use Rattle.lists.proofs.TakenLaws.{Going, goes, no_place}
use Rattle.gatt_services.specs.Service.{told, listed, with-one, more, end_of, found_by}
use Rattle.gatt_services.specs.declared.Service.{Service}
use Rattle.gatt_services.specs.declared.Services.{Services}

-- ---- the list after what an entry tells

module _ (l : List Service) (x : Option Service) where
  pub with_nothing : x ≡ None → with-one l x ≡ l
  unfolding with-one
  with_nothing e = rw e

  module _ (new : Service) (e : x ≡ Some new) where
    pub with-listed : listed new.start l ≡ true → with-one l x ≡ l
    unfolding with-one
    with-listed f = rw (e, f)

    pub with-new : listed new.start l ≡ false → with-one l x ≡ l ++ (new ∷ [])
    unfolding with-one
    with-new f = rw (e, f)

-- ---- the loop over the entries

-- the answer at each way out
pub found-is : (t : Services) (a : List Service) (n last : ℕ) (f : Bool) (h : Have Service) → h ≡ have (take n a) last f
    → a ≡ onto t.kept (take n a) → n ≤ 32 → length a ≡ 32
    → record { table = record { kept = a; count = n }; last = last; full = f } ≡ found_by t h
found-is t a n last f h e k l g =
    let c : length (take n a) ≡ n = length-take-le n a (omega arith) in
    ap₂ (λ (b : List Service) (m : ℕ). record { table = record { kept = b; count = m }; last = last; full = f }) k (sym c)
    ∙ ap (found_by t) (sym e)

-- the entry e is the next, and tells x
module _ (len : ℕ) (whole : Have Service) (a₀ a : List Service) (n last : ℕ) (s e r : List ℕ)
    (i : Going more end_of 32 len whole a₀ a n last s) (es : s ≡ e ++ r) (p : 4 ≤ len) (le : length e ≡ len)
    (x : Option Service) (ex : x ≡ told e) where
  size : length (take n a) ≡ n
  size = length-take-le n a (omega (arith, i.count, i.size))

  module _ (y : ℕ) (ey : y ≡ end_of e) where
    goes_on_lem : (m : List Service) → m ≡ with-one (take n a) x → n ≤ length m → length m ≤ 32
        → Going more end_of 32 len whole a₀ (onto a m) (length m) y r
    goes_on_lem m em ln k =
        goes more end_of 32 len a₀ whole a n last s i e r es (omega arith) le m (em ∙ ap (with-one (take n a)) ex)
        (omega (arith, size)) (le-leb (length m) 32 k) y ey

    -- the entry leaves the table as it is
    stays : with-one (take n a) x ≡ take n a → Going more end_of 32 len whole a₀ a n y r
    stays q =
        rw (onto-self a n (omega (arith, i.count, i.size)), size) at
        (goes_on_lem (take n a) (sym q) (omega (arith, size)) (omega (arith, size, i.count)))

    pub skips : x ≡ None → Going more end_of 32 len whole a₀ a n y r
    skips q = stays (with_nothing (take n a) x q)

    module _ (new : Service) (q : x ≡ Some new) where
      pub known-skips : listed new.start (take n a) ≡ true → Going more end_of 32 len whole a₀ a n y r
      known-skips f = stays (with-listed (take n a) x new q f)

      -- the service that it tells of goes into the next place
      pub enters : listed new.start (take n a) ≡ false → n < 32 → Going more end_of 32 len whole a₀ (set a n new) (n + 1) y r
      enters f k =
          let m : List Service = take n a ++ (new ∷ []) in
          let lm : length m ≡ n + 1 = simp length-append (omega (arith, size)) in
          rw (← set-onto a n new (omega (arith, i.size)), lm) at
          (goes_on_lem m (sym (with-new (take n a) x new q f)) (omega (arith, lm)) (omega (arith, lm)))

  -- it has no place
  pub stops : (new : Service) → x ≡ Some new → listed new.start (take n a) ≡ false → 32 ≤ n → whole ≡ have (take n a) last true
  stops new q f k =
      let m : List Service = take n a ++ (new ∷ []) in
      let lm : length m ≡ n + 1 = simp length-append (omega (arith, size)) in
      no_place more end_of 32 len a₀ whole a n last s i e r es (omega arith) le
      (ap (λ (l : List Service). leb (length l) 32) (ap (with-one (take n a)) (sym ex) ∙ with-new (take n a) x new q f)
      ∙ lt-leb (length m) 32 (omega (arith, lm)))
