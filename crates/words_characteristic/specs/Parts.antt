-- The table in the words as one by value, and what a part of the code computes.
use Rattle.std.specs.Prelude.{ℕ, ◌-◌, List, leb}
use Rattle.bytes_base.specs.Choice.{pick}
use Rattle.lists.specs.Cut.{entries, part}
use Rattle.gatt_characteristics.specs.Characteristic.{characteristics_taken}
use Rattle.gatt_characteristics.specs.declared.Characteristic.{Characteristic}
use Rattle.gatt_characteristics.specs.declared.Characteristics.{Characteristics}
use Rattle.att_pdu.specs.declared.Found.{Found}
use Rattle.gatt_descriptors.specs.Range.{range_or}
use Rattle.gatt_descriptors.specs.Named.{descriptors_named}
use Rattle.gatt_descriptors.specs.declared.Named.{Named}
use Rattle.words.specs.Tables.{characteristics_in}
use Rattle.words_characteristic.specs.declared.Scan.{Scan}

-- the first count of the words' characteristics are known
abbrev pub in_table : List ℕ → ℕ → Characteristics
in_table w count = record { kept = characteristics_in w; count = count }

-- after the entries of size bytes that stand in the store from index from to index end
abbrev pub taken_in : List ℕ → ℕ → List ℕ → ℕ → ℕ → ℕ → ℕ → Found Characteristics
taken_in w count store from end size none = characteristics_taken (in_table w count) none (entries size (part from end store))

abbrev pub named_in : List ℕ → ℕ → List ℕ → ℕ → ℕ → ℕ → ℕ → Named
named_in w count store from end size first = descriptors_named (in_table w count) first (entries size (part from end store))

-- one characteristic more, from the end: no promise, only a step on the way to one
unfoldable pub scanned_on : ℕ → ℕ → ℕ → Characteristic → Scan → Scan
scanned_on start end from c s =
    pick (leb start c.declaration)
    (pick (leb c.declaration end) (record { best = range_or from c.value_handle s.to s.best; to = c.declaration - 1 }) s)
    s
