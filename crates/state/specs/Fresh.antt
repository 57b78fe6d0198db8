-- The state before the first call: nothing queued, running, kept, heard or linked, and all counters 0. What no count reaches is zero.
use Rattle.std.specs.Prelude.{false, replicate}
use Rattle.gatt_services.specs.Service.{zero-service}
use Rattle.gatt_characteristics.specs.Characteristic.{zero-characteristic}
use Rattle.notifications.specs.declared.Notification.{Notification}
use Rattle.state.specs.Central.{Central, with_options}
use Rattle.state.specs.declared.Queued.{Queued}
use Rattle.state.specs.declared.StepResult.{StepResult}
use Rattle.state.specs.declared.Running.{Running}
use Rattle.state.specs.declared.Options.{Options}
use Rattle.state.specs.declared.Step.TheVariants.{Scan}
use Rattle.state.specs.declared.StepStatus.TheVariants.{Ok}

abbrev pub no_queued : Queued
no_queued = record { step = Scan (record { 0 = 0 }); len = 0 }

abbrev pub no_result : StepResult
no_result = record { index = 0; at = record { 0 = 0 }; status = Ok; len = 0; heard = 0 }

abbrev pub no_notification : Notification
no_notification = record { at = record { 0 = 0 }; handle = 0; len = 0; indication = false; link = 0 }

abbrev pub no_running : Running
no_running = record { deadline = record { 0 = 0 }; step = Scan (record { 0 = 0 }); index = 0; cursor = 0; len = 0; phase = 0; active = false; dated = false }

-- the old mode: what the Rust does
abbrev pub no_options : Options
no_options = record { strict = false }

unfoldable pub fresh_central : Central
fresh_central =
    record {
      counters = record { next_index = 0; refused_steps = 0; notified = 0; wait_from = 0; links = 0 };
      queue = record { kept = replicate 64 no_queued; count = 0 };
      running = no_running;
      keys = record { kept = replicate 128 0; count = 0 };
      results = record { kept = replicate 64 no_result; count = 0 };
      reports = record {
        who = replicate 64 0;
        heard = record { at = replicate 64 (record { 0 = 0 }); channel = replicate 64 0; pdu = replicate 64 0; len = replicate 64 0; response = replicate 64 0 };
        count = 0;
      };
      bearer = record { held = 0; link = record { handle = 0; mtu = 0; pending = 0; terminating = false }; present = false; closed = false };
      services = record { kept = replicate 32 zero-service; count = 0 };
      characteristics = record { kept = replicate 64 zero-characteristic; count = 0 };
      notifications = record { kept = replicate 32 no_notification; count = 0 };
      options = no_options;
    }

-- the same with options chosen (02, Four)
abbrev pub fresh_with : Options → Central
fresh_with o = with_options fresh_central o
