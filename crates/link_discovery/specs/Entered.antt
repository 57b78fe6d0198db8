-- What a walk does once an answer's entries stand in the table, by the last of them and whether one had no place: the second half of
-- `services_found` and of `characteristics_found`.
use Rattle.std.specs.Prelude.{ℕ, ◌+◌, Bool, eqb, leb}
use Rattle.bytes_base.specs.Choice.{pick}
use Rattle.time.specs.declared.Micros.{Micros}
use Rattle.gatt_services.specs.declared.Service.{Service}
use Rattle.state.specs.declared.StepStatus.TheVariants.{TableFull}
use Rattle.script_rules.specs.World.{World}
use Rattle.script_rules.specs.Discovery.{last_handle, discover_services, discover_descriptors, discover_characteristics}
use Rattle.link_questions.specs.declared.Goal.{Goal}
use Rattle.link_rules.specs.Moves.{over}
use Rattle.link_rules.specs.Services.{services_done}

abbrev pub services_entered : World → Micros → Goal → ℕ → Bool → World
services_entered v at g last full =
    pick full (over v at TableFull) (pick (eqb last last_handle) (services_done v at g) (discover_services v at (last + 1)))

abbrev pub characteristics_entered : World → Micros → Service → ℕ → Bool → World
characteristics_entered v at svc last full =
    pick full (over v at TableFull) (pick (leb svc.end last) (discover_descriptors v at svc svc.start) (discover_characteristics v at svc (last + 1)))
