-- The handles to ask for descriptors (Core Vol 3 Part G 4.7.1): of each characteristic of a service, from the handle after its value
-- to the one before the next declaration, or to the end of the service.
use Rattle.std.specs.Prelude.{ℕ, ◌+◌, ◌-◌, List, [], ◌∷◌, ltb, leb, Option, Some, None}
use Rattle.att_pdu.specs.Numbers.{last_handle}
use Rattle.bytes_base.specs.Choice.{pick}
use Rattle.gatt_characteristics.specs.Characteristic.{known}
use Rattle.gatt_characteristics.specs.declared.Characteristic.{Characteristic}
use Rattle.gatt_characteristics.specs.declared.Characteristics.{Characteristics}

-- the characteristics declared from start to end
unfoldable pub declared_in : ℕ → ℕ → List Characteristic → List Characteristic
declared_in start end [] = []
declared_in start end (x ∷ xs) =
    pick (leb start x.declaration)
    (pick (leb x.declaration end) (x ∷ declared_in start end xs) (declared_in start end xs))
    (declared_in start end xs)

-- where the descriptors of the characteristic before these end
unfoldable pub stop : ℕ → List Characteristic → ℕ
stop end [] = end
stop end (y ∷ ys) = y.declaration - 1

abbrev pub larger : ℕ → ℕ → ℕ
larger a b = pick (ltb a b) b a

-- the handles from the one after a value on, none before from, up to to; the other where there are none (after FFFF there is none)
abbrev pub range_or : ℕ → ℕ → ℕ → Option (ℕ × ℕ) → Option (ℕ × ℕ)
range_or from value to other =
    pick (ltb value last_handle) (pick (leb (larger (value + 1) from) to) (Some (larger (value + 1) from, to)) other) other

-- the first that has any
unfoldable pub first_range : ℕ → ℕ → List Characteristic → Option (ℕ × ℕ)
first_range from end [] = None
first_range from end (x ∷ xs) = range_or from x.value_handle (stop end xs) (first_range from end xs)

-- the next range to ask for, from from on, in the service from start to end
abbrev pub descriptor_range : Characteristics → ℕ → ℕ → ℕ → Option (ℕ × ℕ)
descriptor_range t start end from = first_range from end (declared_in start end (known t))
