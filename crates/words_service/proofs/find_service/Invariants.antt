use mathlib.Core.Path.{◌≡◌}
use lib.ListN.{take, drop}
use Rattle.gatt_services.specs.Service.{service_with}
use Rattle.words.specs.Tables.{services_in}
use Rattle.words_service.proofs.find_service.Given as goal

abbrev pub invariant-loop-i : goal.invariant-loop-i
invariant-loop-i l = service_with l.uuid (take l.count (services_in l.tables)) ≡ service_with l.uuid (drop l.i (take l.count (services_in l.tables)))
