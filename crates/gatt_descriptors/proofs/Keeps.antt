-- What naming descriptors keeps, for those who call: the table's size and its order.
use Rattle.std.specs.Prelude.{Option, Some, None}
use Prim.Native.Nat.{ℕ, suc, ◌≤◌}
use mathlib.Core.Path.{◌≡◌, refl, ◌∙◌}
use mathlib.Core.Bool.{Bool, true, false}
use mathlib.Core.List.{List, [], ◌∷◌}
use native.Mathlib.Omega.{arith}
use lib.ListN.{length, drop}
use lib.Seq.{length-take-le}
use lib.Dec.{eqb, ltb}
use Rattle.bytes_base.specs.Choice.{pick}
use Rattle.uuid_value.specs.declared.Uuid.{Uuid}
use Rattle.uuid_value.specs.Value.{num, short_of, att_uuid}
use Rattle.lists.proofs.TableLaws.{take-onto}
use Rattle.gatt_characteristics.specs.Characteristic.{known, Up, Rising}
use Rattle.gatt_characteristics.specs.declared.Characteristic.{Characteristic}
use Rattle.gatt_characteristics.specs.declared.Characteristics.{Characteristics}
use Rattle.gatt_descriptors.specs.Named.{cccd_type, mark_by, marked, below, give, handle_of, give_by, given, given_all, descriptors_named}
use Rattle.gatt_descriptors.proofs.NamedLaws.{length-given_all}

-- ---- a CCCD changes no declaration

mark-declaration : (h : ℕ) (c : Characteristic) (k : Option ℕ) → (mark_by h c k).declaration ≡ c.declaration
mark-declaration h c None = refl
mark-declaration h c (Some k) = refl

give-up : (h m : ℕ) (l : List Characteristic) → Up m l → Up m (give h l)
unfolding give
give-up h m [] u = tt
give-up h m (x ∷ xs) u = go (below h xs) (ltb x.value_handle h) (give-up h (suc x.declaration) xs u.1)
  where
    go : (a b : Bool) → Up (suc x.declaration) (give h xs) → Up m (pick a (x ∷ give h xs) (pick b (marked h x ∷ xs) (x ∷ xs)))
    go true b ih = (u.0, ih)
    go false true ih = rw (mark-declaration h x x.cccd) u
    go false false ih = u

-- so the table is still rising
given-rising : (l : List Characteristic) (e : List ℕ) → Rising l → Rising (given l e)
unfolding given
given-rising l e u = go (att_uuid (drop 2 e))
  where
    go : (r : Option Uuid) → Rising (give_by l (handle_of e) r)
    go (Some w) = by (eqb (num w) (num (short_of cccd_type)))
      where
        by : (b : Bool) → Rising (pick b (give (handle_of e) l) l)
        by true = give-up (handle_of e) 0 l u
        by false = u
    go None = u

given_all-rising : (l : List Characteristic) (es : List (List ℕ)) → Rising l → Rising (given_all l es)
unfolding given_all
given_all-rising l [] u = u
given_all-rising l (e ∷ es) u = given_all-rising (given l e) es (given-rising l e u)

-- ---- the table

module _ (t : Characteristics) (first : ℕ) (es : List (List ℕ)) where
  pub named-rising : Rising (known t) → Rising (known (descriptors_named t first es).table)
  named-rising u = rw (take-onto t.kept (given_all (known t) es)) (given_all-rising (known t) es u)

  module _ (h : t.count ≤ 64) (size : length t.kept ≡ 64) where
    -- as many as before
    pub named_count : (descriptors_named t first es).table.count ≡ t.count
    named_count = length-given_all (known t) es ∙ length-take-le t.count t.kept (omega arith)
