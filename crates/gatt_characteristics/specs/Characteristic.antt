-- Characteristics, and what an answer adds to them (Core Vol 3 Part G 3.3.1, 4.6.1: each entry is the handle of a declaration, then
-- the properties, the value handle and the UUID that it declares; 01, 'Sizes' and 'fit': strictly rising by declaration).
use Rattle.std.specs.Prelude.{ℕ, suc, ◌≤◌, Bool, true, false, List, [], ◌∷◌, length, take, drop, get_or, eqb, ltb, leb, Option, Some, None}
use Rattle.bytes_base.specs.Choice.{pick}
use Rattle.bytes_base.specs.Bytes.{le_at}
use Rattle.uuid_value.specs.Value.{num, att_uuid}
use Rattle.uuid_value.specs.declared.Uuid.{Uuid}
use Rattle.state_places.specs.Sizes.{most_characteristics}
use Rattle.lists.specs.Queue.{onto}
use Rattle.lists.specs.First.{first}
use Rattle.lists.specs.Taken.{Have, taken}
use Rattle.gatt_characteristics.specs.declared.Characteristic.{Characteristic}
use Rattle.gatt_characteristics.specs.declared.Characteristics.{Characteristics}
use Rattle.att_pdu.specs.declared.Found.{Found}

-- ---- a table and its list

-- the characteristics that a table holds
abbrev pub known : Characteristics → List Characteristic
known t = take t.count t.kept

-- the table with another list in it
abbrev pub holding : Characteristics → List Characteristic → Characteristics
holding t l = record { kept = onto t.kept l; count = length l }

-- a characteristic of zeros
abbrev pub zero-characteristic : Characteristic
zero-characteristic = record { declaration = 0; properties = 0; value_handle = 0; uuid = record { low = 0; high = 0 }; cccd = None }

-- a table with nothing in it; its places stay
abbrev pub cleared : Characteristics → Characteristics
cleared t = record { kept = t.kept; count = 0 }

-- ---- the order

-- strictly rising by declaration, from n on
abbrev pub Up : ℕ → List Characteristic → Type 0
Up n [] = Unit
Up n (x ∷ xs) = (n ≤ x.declaration) × Up (suc x.declaration) xs

-- strictly rising by declaration
abbrev pub Rising : List Characteristic → Type 0
Rising l = Up 0 l

-- the same as a test
unfoldable pub up_from : ℕ → List Characteristic → Bool
up_from n [] = true
up_from n (x ∷ xs) = pick (leb n x.declaration) (up_from (suc x.declaration) xs) false

abbrev pub rises : List Characteristic → Bool
rises l = up_from 0 l

-- the list with no characteristic declared at n
unfoldable pub without : ℕ → List Characteristic → List Characteristic
without n [] = []
without n (x ∷ xs) = pick (eqb x.declaration n) (without n xs) (x ∷ without n xs)

-- c put before the first that is declared at or after it
unfoldable pub put : Characteristic → List Characteristic → List Characteristic
put c [] = c ∷ []
put c (x ∷ xs) = pick (ltb x.declaration c.declaration) (x ∷ put c xs) (c ∷ x ∷ xs)

-- c in the place of the one with its declaration, or else in its order
unfoldable pub enter : Characteristic → List Characteristic → List Characteristic
enter c l = put c (without c.declaration l)

-- how many of a rising list are declared below n
unfoldable pub place : ℕ → List Characteristic → ℕ
place n [] = 0
place n (x ∷ xs) = pick (ltb x.declaration n) (suc (place n xs)) 0

-- ---- an entry

abbrev pub declaration_of : List ℕ → ℕ
declaration_of e = le_at 2 e 0

-- by what its UUID bytes are
abbrev pub told_by : List ℕ → Option Uuid → Option Characteristic
told_by e (Some u) =
    Some (record { declaration = declaration_of e; properties = get_or e 2 0; value_handle = le_at 2 e 3; uuid = u; cccd = None })
told_by e None = None

-- the characteristic that an entry tells of, if its UUID has 2 or 16 bytes
unfoldable pub told : List ℕ → Option Characteristic
told e = told_by e (att_uuid (drop 5 e))

-- ---- an answer

-- the list with what an entry tells entered
unfoldable pub with-one : List Characteristic → Option Characteristic → List Characteristic
with-one l None = l
with-one l (Some c) = enter c l

-- the list once an entry is read
abbrev pub more : List Characteristic → List ℕ → List Characteristic
more l e = with-one l (told e)

-- by what the entries leave
abbrev pub found_by : Characteristics → Have Characteristic → Found Characteristics
found_by t h = record { table = holding t h.list; last = h.last; full = h.full }

-- the table after the entries of an answer, with the declaration of the last entry read, or none
abbrev pub characteristics_taken : Characteristics → ℕ → List (List ℕ) → Found Characteristics
characteristics_taken t none es = found_by t (taken more declaration_of most_characteristics (known t) none es)

-- ---- the search

-- the first characteristic with a UUID
abbrev pub characteristic_with : Uuid → List Characteristic → Option Characteristic
characteristic_with u l = first (λ (x : Characteristic). eqb (num x.uuid) (num u)) Some None l
