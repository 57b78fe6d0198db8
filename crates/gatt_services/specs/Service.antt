-- Services, and what an answer adds to them (Core Vol 3 Part G 4.4.1: each entry is a start handle, an end handle and a UUID; 01, 'Sizes').
use Rattle.std.specs.Prelude.{ℕ, Bool, true, false, List, [], ◌∷◌, ◌++◌, length, take, drop, eqb, Option, Some, None}
use Rattle.bytes_base.specs.Choice.{pick}
use Rattle.bytes_base.specs.Bytes.{le_at}
pub use Rattle.att_pdu.specs.Numbers.{last_handle}
use Rattle.uuid_value.specs.Value.{num, att_uuid}
use Rattle.uuid_value.specs.declared.Uuid.{Uuid}
use Rattle.state_places.specs.Sizes.{most_services}
use Rattle.lists.specs.Queue.{onto}
use Rattle.lists.specs.First.{first}
use Rattle.lists.specs.Taken.{Have, taken}
use Rattle.gatt_services.specs.declared.Service.{Service}
use Rattle.gatt_services.specs.declared.Services.{Services}
use Rattle.att_pdu.specs.declared.Found.{Found}

-- ---- a table and its list

-- the services that a table holds
abbrev pub known : Services → List Service
known t = take t.count t.kept

-- the table with another list in it
abbrev pub holding : Services → List Service → Services
holding t l = record { kept = onto t.kept l; count = length l }

-- a service of zeros
abbrev pub zero-service : Service
zero-service = record { start = 0; end = 0; uuid = record { low = 0; high = 0 } }

-- a table with nothing in it; its places stay
abbrev pub cleared : Services → Services
cleared t = record { kept = t.kept; count = 0 }

-- ---- an entry

abbrev pub start_of : List ℕ → ℕ
start_of e = le_at 2 e 0

abbrev pub end_of : List ℕ → ℕ
end_of e = le_at 2 e 2

-- by what its UUID bytes are
abbrev pub told_by : ℕ → ℕ → Option Uuid → Option Service
told_by s n (Some u) = Some (record { start = s; end = n; uuid = u })
told_by s n None = None

-- the service that an entry tells of, if its UUID has 2 or 16 bytes
unfoldable pub told : List ℕ → Option Service
told e = told_by (start_of e) (end_of e) (att_uuid (drop 4 e))

-- ---- an answer

-- whether a service of the list starts at n
abbrev pub listed : ℕ → List Service → Bool
listed n l = first (λ (x : Service). eqb x.start n) (λ (x : Service). true) false l

-- the list with one more at its end, if its start is new
unfoldable pub with-one : List Service → Option Service → List Service
with-one l None = l
with-one l (Some s) = pick (listed s.start l) l (l ++ (s ∷ []))

-- the list once an entry is read
abbrev pub more : List Service → List ℕ → List Service
more l e = with-one l (told e)

-- by what the entries leave
abbrev pub found_by : Services → Have Service → Found Services
found_by t h = record { table = holding t h.list; last = h.last; full = h.full }

-- the table after the entries of an answer, with the end handle of the last entry read
abbrev pub services_taken : Services → List (List ℕ) → Found Services
services_taken t es = found_by t (taken more end_of most_services (known t) last_handle es)

-- ---- the search

-- the first service with a UUID
abbrev pub service_with : Uuid → List Service → Option Service
service_with u l = first (λ (x : Service). eqb (num x.uuid) (num u)) Some None l
