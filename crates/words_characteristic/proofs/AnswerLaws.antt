-- An answer taken into a copy of the known places and written back: places that aren't in use stay as they are.
use Prim.Native.Nat.{ℕ, ◌≤◌}
use mathlib.Core.Path.{◌≡◌, ap, ◌∙◌}
use mathlib.Core.List.{List}
use native.Mathlib.Omega.{arith}
use lib.ListN.{length, take}
use Rattle.lists.specs.Queue.{onto}
use Rattle.lists.specs.Taken.{Have, taken}
use Rattle.lists.proofs.TableLaws.{take-onto}
use Rattle.gatt_characteristics.specs.Characteristic.{known, Rising, more, declaration_of, characteristics_taken}
use Rattle.gatt_characteristics.specs.declared.Characteristic.{Characteristic}
use Rattle.gatt_characteristics.specs.declared.Characteristics.{Characteristics}
use Rattle.att_pdu.specs.declared.Found.{Found}
use Rattle.gatt_characteristics.proofs.Keeps.{taken-count}
use Rattle.gatt_descriptors.specs.Named.{given_all, descriptors_named}
use Rattle.gatt_descriptors.specs.declared.Named.{Named}
use Rattle.gatt_descriptors.proofs.Keeps.{named_count}
use Rattle.words.specs.Tables.{characteristics_in, tables, with_characteristics}
use Rattle.words.proofs.RowLaws.{length-characteristics}
use Rattle.words_characteristic.specs.Parts.{in_table}

module _ (w : List ℕ) (count : ℕ) (k : count ≤ 64) (t : Characteristics) (et : (t.count ≡ count) × (known t ≡ take count (characteristics_in w))) where
  pub rising-too : Rising (take count (characteristics_in w)) → Rising (known t)
  rising-too r = rw et.1 r

  -- ---- characteristics

  module _ (none : ℕ) (es : List (List ℕ)) (f : Found Characteristics) (ef : f ≡ characteristics_taken t none es) where
    abbrev left : List Characteristic → Have Characteristic
    left l = taken more declaration_of 64 l none es

    abbrev whole : Found Characteristics
    whole = characteristics_taken (in_table w count) none es

    as_many : f.table.count ≡ whole.table.count
    as_many = ap (λ (x : Found Characteristics). x.table.count) ef ∙ ap (λ (l : List Characteristic). length (left l).list) et.1

    pub taken-fits : f.table.count ≤ 64
    taken-fits = omega (arith, as_many, taken-count (in_table w count) none es k (length-characteristics w))

    pub taken_back : (v : List ℕ) → tables v ≡ with_characteristics (tables w) (onto (characteristics_in w) (known f.table))
        → (tables v ≡ with_characteristics (tables w) whole.table.kept) × (f.table.count ≡ whole.table.count) × (f.last ≡ whole.last) × (f.full ≡ whole.full)
    taken_back v ev =
        let e : known f.table ≡ (left (take count (characteristics_in w))).list =
        ap (λ (x : Found Characteristics). known x.table) ef ∙ take-onto t.kept (left (known t)).list ∙ ap (λ (l : List Characteristic). (left l).list) et.1 in (
          ev ∙ ap (λ (l : List Characteristic). with_characteristics (tables w) (onto (characteristics_in w) l)) e,
          as_many,
          ap (λ (x : Found Characteristics). x.last) ef ∙ ap (λ (l : List Characteristic). (left l).last) et.1,
          ap (λ (x : Found Characteristics). x.full) ef ∙ ap (λ (l : List Characteristic). (left l).full) et.1,
        )

  -- ---- descriptors

  module _ (first : ℕ) (es : List (List ℕ)) (n : Named) (en : n ≡ descriptors_named t first es) where
    abbrev named : Named
    named = descriptors_named (in_table w count) first es

    pub named-fits : n.table.count ≤ 64
    named-fits =
        let e : n.table.count ≡ named.table.count =
        ap (λ (x : Named). x.table.count) en ∙ ap (λ (l : List Characteristic). length (given_all l es)) et.1 in
        omega (arith, e, named_count (in_table w count) first es k (length-characteristics w))

    pub named_back : (v : List ℕ) → tables v ≡ with_characteristics (tables w) (onto (characteristics_in w) (known n.table))
        → (tables v ≡ with_characteristics (tables w) named.table.kept) × (n.«next» ≡ named.«next»)
    named_back v ev =
        let e : known n.table ≡ given_all (take count (characteristics_in w)) es =
        ap (λ (x : Named). known x.table) en ∙ take-onto t.kept (given_all (known t) es) ∙ ap (λ (l : List Characteristic). given_all l es) et.1 in (
          ev ∙ ap (λ (l : List Characteristic). with_characteristics (tables w) (onto (characteristics_in w) l)) e,
          ap (λ (x : Named). x.«next») en,
        )
