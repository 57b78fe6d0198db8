-- What the table keeps, for those who call: its size, and its order.
use Prim.Native.Nat.{ℕ, ◌≤◌}
use mathlib.Core.Path.{◌≡◌}
use mathlib.Core.Bool.{true}
use mathlib.Core.List.{List}
use native.Mathlib.Omega.{arith}
use lib.ListN.{length}
use lib.Seq.{length-take-le}
use Rattle.lists.specs.Taken.{taken}
use Rattle.lists.proofs.TableLaws.{onto-self, take-onto}
use Rattle.lists.proofs.TakenLaws.{taken-most, taken-keeps}
use Rattle.gatt_characteristics.specs.Characteristic.{known, holding, Rising, rises, more, told, declaration_of, characteristics_taken}
use Rattle.gatt_characteristics.specs.declared.Characteristic.{Characteristic}
use Rattle.gatt_characteristics.specs.declared.Characteristics.{Characteristics}
use Rattle.gatt_characteristics.proofs.RisingLaws.{up_of, of-up}
use Rattle.gatt_characteristics.proofs.AnswerLaws.{with-one-rising}

-- the test says what is so
pub rising-if : (l : List Characteristic) → rises l ≡ true → Rising l
rising-if l e = up_of 0 l e

pub rises-if : (l : List Characteristic) → Rising l → rises l ≡ true
rises-if l u = of-up 0 l u

-- a table with its own list in it is itself
pub holding-known : (t : Characteristics) → t.count ≤ 64 → length t.kept ≡ 64 → holding t (known t) ≡ t
holding-known t h g = rw (onto-self t.kept t.count (omega arith), length-take-le t.count t.kept (omega arith))

module _ (t : Characteristics) (none : ℕ) (es : List (List ℕ)) where
  pub taken-rising : Rising (known t) → Rising (known (characteristics_taken t none es).table)
  taken-rising u =
      rw (take-onto t.kept (taken more declaration_of 64 (known t) none es).list)
      (taken-keeps Rising more declaration_of 64 (λ k e r. with-one-rising k (told e) r) (known t) none es u)

  module _ (h : t.count ≤ 64) (size : length t.kept ≡ 64) where
    pub taken-count : (characteristics_taken t none es).table.count ≤ 64
    taken-count =
        taken-most more declaration_of 64 (known t) none es (omega (arith, length-take-le t.count t.kept (omega arith)))
