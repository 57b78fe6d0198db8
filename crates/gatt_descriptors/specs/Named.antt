-- What an answer that names descriptors does (Core Vol 3 Part F 3.4.3.2: each entry is a handle and a type; 01: a CCCD goes to the last
-- characteristic, of any service, with value handle below it, unless that has one).
use Rattle.std.specs.Prelude.{ℕ, ◌+◌, Bool, true, false, List, [], ◌∷◌, drop, eqb, ltb, Option, Some, None}
use Rattle.bytes_base.specs.Choice.{pick}
use Rattle.bytes_base.specs.Bytes.{le_at}
use Rattle.uuid_value.specs.declared.Uuid.{Uuid}
use Rattle.uuid_value.specs.Value.{num, short_of, att_uuid}
use Rattle.lists.specs.First.{first}
use Rattle.gatt_characteristics.specs.Characteristic.{known, holding}
use Rattle.gatt_characteristics.specs.declared.Characteristic.{Characteristic}
use Rattle.gatt_characteristics.specs.declared.Characteristics.{Characteristics}
use Rattle.gatt_descriptors.specs.declared.Named.{Named}

-- the type Client Characteristic Configuration (Core Vol 3 Part G 3.3.3.3)
abbrev pub cccd_type : ℕ
cccd_type = 0x2902

-- by what is known of its CCCD
abbrev pub mark_by : ℕ → Characteristic → Option ℕ → Characteristic
mark_by h c None =
    record { declaration = c.declaration; properties = c.properties; value_handle = c.value_handle; uuid = c.uuid; cccd = Some h }
mark_by h c (Some k) = c

-- the characteristic with its CCCD at h, unless it has one
abbrev pub marked : ℕ → Characteristic → Characteristic
marked h c = mark_by h c c.cccd

-- whether some value handle is below h
abbrev pub below : ℕ → List Characteristic → Bool
below h l = first (λ (x : Characteristic). ltb x.value_handle h) (λ (x : Characteristic). true) false l

-- the last one with its value handle below h is marked
unfoldable pub give : ℕ → List Characteristic → List Characteristic
give h [] = []
give h (x ∷ xs) = pick (below h xs) (x ∷ give h xs) (pick (ltb x.value_handle h) (marked h x ∷ xs) (x ∷ xs))

-- ---- an entry

abbrev pub handle_of : List ℕ → ℕ
handle_of e = le_at 2 e 0

-- by what its type is
abbrev pub give_by : List Characteristic → ℕ → Option Uuid → List Characteristic
give_by l h (Some u) = pick (eqb (num u) (num (short_of cccd_type))) (give h l) l
give_by l h None = l

-- the list once an entry is read: only a CCCD is of interest
unfoldable pub given : List Characteristic → List ℕ → List Characteristic
given l e = give_by l (handle_of e) (att_uuid (drop 2 e))

-- ---- an answer

-- all its entries
unfoldable pub given_all : List Characteristic → List (List ℕ) → List Characteristic
given_all l [] = l
given_all l (e ∷ es) = given_all (given l e) es

-- the handle after the last of them
unfoldable pub after : ℕ → List (List ℕ) → ℕ
after n [] = n
after n (e ∷ es) = after (handle_of e + 1) es

-- the table after the entries of an answer, with the handle after the last of them, or first
abbrev pub descriptors_named : Characteristics → ℕ → List (List ℕ) → Named
descriptors_named t first es = record { table = holding t (given_all (known t) es); «next» = after first es }
