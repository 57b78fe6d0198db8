-- Discovery's requests (Core Vol 3 Part G 4.4.1, 4.6.1, 4.7.1): services, then characteristics, then descriptors, each asked for from a handle on.
use Rattle.std.specs.Prelude.{ℕ, ◌||◌, eqb, ltb, Option, Some, None}
use Rattle.bytes_base.specs.Choice.{pick}
use Rattle.state_places.specs.Sizes.{held_at}
use Rattle.time.specs.declared.Micros.{Micros}
use Rattle.att_pdu.specs.Pdu.{read_by_group_type_req, read_by_type_req, find_information_req}
pub use Rattle.gatt_services.specs.Service.{last_handle}
use Rattle.gatt_services.specs.declared.Service.{Service}
use Rattle.gatt_descriptors.specs.Range.{descriptor_range}
use Rattle.state.specs.Central.{with_running}
use Rattle.state.specs.declared.Running.{Running}
use Rattle.state.specs.declared.StepStatus.TheVariants.{Ok}
use Rattle.script_rules.specs.World.{World, on_held, on_state}
use Rattle.script_rules.specs.Finish.{finish}
use Rattle.script_rules.specs.Send.{request}

-- GATT attribute types, Core Vol 3 Part G 3.1 and 3.3.1
abbrev pub primary_service : ℕ
primary_service = 0x2800

abbrev pub characteristic_type : ℕ
characteristic_type = 0x2803

-- what is asked for: 0 services, 1 characteristics, 2 descriptors; and from which handle on
abbrev pub placed : Running → ℕ → ℕ → Running
placed r phase cursor = record { deadline = r.deadline; step = r.step; index = r.index; cursor = cursor; len = r.len; phase = phase; active = r.active; dated = r.dated }

abbrev pub asking : World → ℕ → ℕ → World
asking w phase cursor = on_held w (on_state w.held (with_running w.held.state (placed w.held.state.running phase cursor)))

unfoldable pub discover_services : World → Micros → ℕ → World
discover_services w at from = request (asking w 0 from) at (read_by_group_type_req from last_handle primary_service)

-- where no range is left, the step is done
unfoldable pub ask_range : World → Micros → Option (ℕ × ℕ) → World
ask_range w at None = on_held w (finish w.held at Ok held_at 0 0)
ask_range w at (Some (start, end)) = request (asking w 2 start) at (find_information_req start end)

unfoldable pub discover_descriptors : World → Micros → Service → ℕ → World
discover_descriptors w at svc from = ask_range w at (descriptor_range w.held.state.characteristics svc.start svc.end from)

-- past the service's end, its descriptors
unfoldable pub discover_characteristics : World → Micros → Service → ℕ → World
discover_characteristics w at svc from =
    pick (ltb svc.end from || eqb from 0)
    (discover_descriptors w at svc svc.start)
    (request (asking w 1 from) at (read_by_type_req from svc.end characteristic_type))
