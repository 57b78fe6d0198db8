-- Laws of an answer that names descriptors: one entry, and the loop over them.
use Rattle.std.specs.Prelude.{Some, None}
use Prim.Native.Nat.{ℕ, ◌+◌, ◌≤◌, ◌<◌}
use mathlib.Core.Path.{◌≡◌, refl, sym, ap, ◌∙◌}
use mathlib.Core.Bool.{Bool, true, false}
use mathlib.Core.List.{List, [], ◌∷◌, ◌++◌}
use native.Mathlib.Omega.{arith}
use lib.ListN.{length, drop}
use lib.Seq.{length-take-le}
use lib.Dec.{eqb}
use Rattle.std.specs.Prelude.{Option, Some, None}
use Rattle.bytes_base.specs.Choice.{pick}
use Rattle.uuid_value.specs.Value.{num, short_of, att_uuid}
use Rattle.uuid_value.specs.declared.Uuid.{Uuid}
use Rattle.lists.specs.Cut.{entries}
use Rattle.lists.proofs.CutLaws.{entries-first, entries-none}
use Rattle.lists.proofs.TableLaws.{onto-onto, take-onto, length-onto}
use Rattle.gatt_characteristics.specs.Characteristic.{known, holding}
use Rattle.gatt_characteristics.specs.declared.Characteristic.{Characteristic}
use Rattle.gatt_characteristics.specs.declared.Characteristics.{Characteristics}
use Rattle.gatt_characteristics.proofs.Keeps.{holding-known}
use Rattle.gatt_descriptors.specs.Named.{cccd_type, give, handle_of, give_by, given, given_all, after, descriptors_named}
use Rattle.gatt_descriptors.proofs.GiveLaws.{length-give}

-- ---- one entry

module _ (t : Characteristics) (e : List ℕ) (r : Option Uuid) (er : r ≡ att_uuid (drop 2 e)) where
  module _ (u v : Uuid) (y : Bool) (ei : r ≡ Some u) (ev : v ≡ short_of cccd_type) (ey : y ≡ eqb (num u) (num v)) where
    tests : eqb (num u) (num (short_of cccd_type)) ≡ y
    tests = ap (λ (w : Uuid). eqb (num u) (num w)) (sym ev) ∙ sym ey

    pub entry-marks : (h : ℕ) → h ≡ handle_of e → y ≡ true
        → (x : Characteristics) → x ≡ holding t (give h (known t)) → x ≡ holding t (given (known t) e)
    unfolding given
    entry-marks h eh k x ex = rw (← er, ei, tests, k, ← eh) ex

    pub entry_other : t.count ≤ 64 → length t.kept ≡ 64 → y ≡ false → t ≡ holding t (given (known t) e)
    unfolding given
    entry_other c k q = rw (← er, ei, tests, q) (sym (holding-known t c k))

  pub entry-no-uuid : t.count ≤ 64 → length t.kept ≡ 64 → r ≡ None → t ≡ holding t (given (known t) e)
  unfolding given
  entry-no-uuid c k ei = rw (← er, ei) (sym (holding-known t c k))

pub length-given : (l : List Characteristic) (e : List ℕ) → length (given l e) ≡ length l
unfolding given
length-given l e = go (att_uuid (drop 2 e))
  where
    go : (r : Option Uuid) → length (give_by l (handle_of e) r) ≡ length l
    go (Some u) = by (eqb (num u) (num (short_of cccd_type)))
      where
        by : (b : Bool) → length (pick b (give (handle_of e) l) l) ≡ length l
        by true = length-give (handle_of e) l
        by false = refl
    go None = refl

pub length-given_all : (l : List Characteristic) (es : List (List ℕ)) → length (given_all l es) ≡ length l
unfolding given_all
length-given_all l [] = refl
length-given_all l (e ∷ es) = length-given_all (given l e) es ∙ length-given l e

-- ---- the loop over the entries

-- the entries in the bytes s, which are left, give from the table u on what the entries `all` give from the table t on
pub record Naming (t u : Characteristics) (all : List (List ℕ)) (len first after-now : ℕ) (s : List ℕ) : Type 0 where
  pub count : u.count ≤ 64
  pub size : length u.kept ≡ 64
  pub upon : u ≡ holding t (known u)
  pub list : given_all (known u) (entries len s) ≡ given_all (known t) all
  pub handle : after after-now (entries len s) ≡ after first all

pub naming : (t : Characteristics) (len first : ℕ) (s : List ℕ) → t.count ≤ 64 → length t.kept ≡ 64
    → Naming t t (entries len s) len first first s
naming t len first s h g = record { count = h; size = g; upon = sym (holding-known t h g); list = refl; handle = refl }

module _ (t u : Characteristics) (all : List (List ℕ)) (len first n : ℕ) (s : List ℕ) (i : Naming t u all len first n s) where
  pub named-all : length s < len → record { table = u; «next» = n } ≡ descriptors_named t first all
  unfolding given_all after
  named-all h = rw (← i.list, ← i.handle, entries-none len s h) (ap (λ (x : Characteristics). record { table = x; «next» = n }) i.upon)

  pub names : (e r : List ℕ) → s ≡ e ++ r → 2 ≤ len → length e ≡ len → (v : Characteristics) → v ≡ holding u (given (known u) e)
      → (h : ℕ) → h ≡ handle_of e → Naming t v all len first (h + 1) r
  unfolding given_all after
  names e r es p l v ev h eh =
      let m : List Characteristic = given (known u) e in
      let cut : entries len s ≡ e ∷ entries len r = ap (entries len) es ∙ entries-first len e r (omega arith) l in
      let lu : length (known u) ≡ u.count = length-take-le u.count u.kept (omega (arith, i.count, i.size)) in
      let lm : length m ≡ length (known u) = length-given (known u) e in
      let km : known (holding u m) ≡ m = take-onto u.kept m in
      let eu : holding u m ≡ holding t m =
      ap (λ (z : Characteristics). holding z m) i.upon
      ∙ ap (λ (k : List Characteristic). record { kept = k; count = length m }) (onto-onto t.kept (known u) m (omega arith)) in
      rw ev
      (record {
        count = omega (arith, i.count);
        size = length-onto u.kept m (omega (arith, i.count, i.size)) ∙ i.size;
        upon = rw km eu;
        list = rw (km, ← i.list, cut);
        handle = ap (λ (k : ℕ). after (k + 1) (entries len r)) eh ∙ sym (ap (after n) cut) ∙ i.handle;
      })
