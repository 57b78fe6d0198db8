-- The walk of discovery through the services of the peer (Core Vol 3 Part G 4.4.1).
use Rattle.std.specs.Prelude.{ℕ, ◌+◌, eqb, ltb, Option, Some, None}
use Rattle.bytes_base.specs.Choice.{pick}
use Rattle.time.specs.declared.Micros.{Micros}
use Rattle.gatt_services.specs.Service as service
use Rattle.att_pdu.specs.declared.Found.{Found}
use Rattle.state.specs.Central.{with_services}
use Rattle.state.specs.declared.StepStatus.TheVariants.{Ok, NotFound, TableFull}
use Rattle.script_rules.specs.World.{World}
use Rattle.script_rules.specs.Discovery.{last_handle, discover_services, discover_characteristics}
use Rattle.link_rules.specs.Moves.{over, become, service_of, entries_of}
use Rattle.link_questions.specs.declared.Goal.{Goal}
use Rattle.link_questions.specs.declared.Goal.TheVariants as goal
use Rattle.gatt_services.specs.declared.Service.{Service}
use Rattle.gatt_services.specs.declared.Services.{Services}

-- the characteristics of a service are next
unfoldable pub walk_into : World → Micros → Option Service → World
walk_into w at None = over w at NotFound
walk_into w at (Some svc) = discover_characteristics w at svc svc.start

-- all services are known
unfoldable pub services_done : World → Micros → Goal → World
services_done w at goal.All = over w at Ok
services_done w at (goal.Of u) = walk_into w at (service_of w u)

-- by what the entries leave; a service that ends at FFFF is the last
unfoldable pub services_found : World → Micros → Goal → Found Services → World
services_found w at g f =
    let v = become w (with_services w.held.state f.table) in
    pick f.full (over v at TableFull) (pick (eqb f.last last_handle) (services_done v at g) (discover_services v at (f.last + 1)))

-- entries of at least 6 bytes: start, end, UUID
unfoldable pub services_heard : World → Micros → Goal → ℕ → ℕ → World
services_heard w at g n size =
    pick (ltb size 6) (services_done w at g) (services_found w at g (service.services_taken w.held.state.services (entries_of w n size)))
