-- The core before the first call, with the options that are chosen.
use Rattle.std.specs.Prelude.{false}
use Rattle.state.specs.Fresh.{no_running}
use Rattle.state.specs.declared.Options.{Options}
use Rattle.state_core.specs.declared.Core.{Core}

abbrev pub fresh_core : Options → Core
fresh_core o =
    record {
      running = no_running;
      bearer = record { held = 0; link = record { handle = 0; mtu = 0; pending = 0; terminating = false }; present = false; closed = false };
      counters = record { next_index = 0; refused_steps = 0; notified = 0; wait_from = 0; links = 0 };
      counts = record { waiting = 0; results = 0; services = 0; characteristics = 0; notifications = 0 };
      reports = 0;
      key_count = 0;
      options = o;
    }
