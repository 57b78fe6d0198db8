-- What an answer leaves of the services in the words.
use Rattle.std.specs.Prelude.{ℕ, List}
use Rattle.lists.specs.Cut.{entries, part}
use Rattle.gatt_services.specs.Service.{services_taken}
use Rattle.att_pdu.specs.declared.Found.{Found}
use Rattle.words.specs.Tables.{services_in}
use Rattle.gatt_services.specs.declared.Services.{Services}

-- its entries of size bytes stand in s from index from to index end; the first n services of the words are known
abbrev pub taken_in : List ℕ → ℕ → List ℕ → ℕ → ℕ → ℕ → Found Services
taken_in w n s from end size = services_taken (record { kept = services_in w; count = n }) (entries size (part from end s))
