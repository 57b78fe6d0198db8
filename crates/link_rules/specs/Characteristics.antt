-- The walk of discovery through the characteristics of a service and their descriptors (Core Vol 3 Part G 4.6.1, 4.7.1).
use Rattle.std.specs.Prelude.{ℕ, ◌+◌, eqb, leb, ltb, Option, Some, None}
use Rattle.bytes_base.specs.Choice.{pick}
use Rattle.time.specs.declared.Micros.{Micros}
use Rattle.gatt_services.specs.declared.Service.{Service}
use Rattle.gatt_characteristics.specs.Characteristic as characteristic
use Rattle.att_pdu.specs.declared.Found.{Found}
use Rattle.gatt_descriptors.specs.declared.Named.{Named}
use Rattle.gatt_descriptors.specs.Named.{descriptors_named}
use Rattle.state.specs.Central.{with_characteristics}
use Rattle.state.specs.declared.StepStatus.TheVariants.{Ok, NotFound, TableFull}
use Rattle.script_rules.specs.World.{World}
use Rattle.script_rules.specs.Discovery.{discover_characteristics, discover_descriptors}
use Rattle.link_rules.specs.Answers.{width_of}
use Rattle.link_rules.specs.Moves.{over, become, entries_of, after_range}
use Rattle.gatt_characteristics.specs.declared.Characteristics.{Characteristics}

-- ---- characteristics

-- by what the entries leave; a declaration at the service's end, or past it, is the last
unfoldable pub characteristics_found : World → Micros → Service → Found Characteristics → World
characteristics_found w at svc f =
    let v = become w (with_characteristics w.held.state f.table) in
    pick f.full
    (over v at TableFull)
    (pick (leb svc.end f.last) (discover_descriptors v at svc svc.start) (discover_characteristics v at svc (f.last + 1)))

-- entries of at least 7 bytes: declaration, properties, value handle, UUID
unfoldable pub characteristics_heard : World → Micros → ℕ → ℕ → Option Service → World
characteristics_heard w at n size None = over w at NotFound
characteristics_heard w at n size (Some svc) =
    pick (ltb size 7)
    (discover_descriptors w at svc svc.start)
    (characteristics_found w at svc (characteristic.characteristics_taken w.held.state.characteristics svc.end (entries_of w n size)))

-- there are no more
unfoldable pub characteristics_done : World → Micros → Option Service → World
characteristics_done w at None = over w at NotFound
characteristics_done w at (Some svc) = discover_descriptors w at svc svc.start

-- ---- descriptors

-- within the service there may be more
unfoldable pub go_on : World → Micros → Service → ℕ → World
go_on w at svc from = pick (leb from svc.end) (discover_descriptors w at svc from) (over w at Ok)

abbrev pub descriptors_found : World → Micros → Service → Named → World
descriptors_found w at svc x = go_on (become w (with_characteristics w.held.state x.table)) at svc x.«next»

unfoldable pub descriptors_heard : World → Micros → ℕ → ℕ → Option Service → World
descriptors_heard w at n format None = over w at NotFound
descriptors_heard w at n format (Some svc) =
    pick (eqb (width_of format) 0)
    (go_on w at svc (after_range w svc))
    (descriptors_found w at svc (descriptors_named w.held.state.characteristics (after_range w svc) (entries_of w n (width_of format))))

-- there are no more in the range that was asked for
unfoldable pub range_done : World → Micros → Option Service → World
range_done w at None = over w at NotFound
range_done w at (Some svc) = go_on w at svc (after_range w svc)
