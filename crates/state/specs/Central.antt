-- The state as definitions speak of it: the Rust's `Central`, part by part, whatever its layout.
use Rattle.gatt_services.specs.declared.Services.{Services}
use Rattle.gatt_characteristics.specs.declared.Characteristics.{Characteristics}
use Rattle.notifications.specs.declared.Notifications.{Notifications}
use Rattle.state.specs.declared.Queue.{Queue}
use Rattle.state.specs.declared.Results.{Results}
use Rattle.state.specs.declared.Running.{Running}
use Rattle.state.specs.declared.Bearer.{Bearer}
use Rattle.state.specs.declared.Counters.{Counters}
use Rattle.state.specs.declared.Reports.{Reports}
use Rattle.state.specs.declared.Keys.{Keys}
use Rattle.state.specs.declared.Options.{Options}

pub record Central : Type 0 where
  pub counters : Counters
  pub queue : Queue
  pub running : Running
  pub keys : Keys
  pub results : Results
  pub reports : Reports
  pub bearer : Bearer
  pub services : Services
  pub characteristics : Characteristics
  pub notifications : Notifications
  pub options : Options

-- ---- one part replaced

abbrev pub with_counters : Central → Counters → Central
with_counters c p = record { counters = p; queue = c.queue; running = c.running; keys = c.keys; results = c.results; reports = c.reports; bearer = c.bearer; services = c.services; characteristics = c.characteristics; notifications = c.notifications; options = c.options }

abbrev pub with_queue : Central → Queue → Central
with_queue c p = record { counters = c.counters; queue = p; running = c.running; keys = c.keys; results = c.results; reports = c.reports; bearer = c.bearer; services = c.services; characteristics = c.characteristics; notifications = c.notifications; options = c.options }

abbrev pub with_running : Central → Running → Central
with_running c p = record { counters = c.counters; queue = c.queue; running = p; keys = c.keys; results = c.results; reports = c.reports; bearer = c.bearer; services = c.services; characteristics = c.characteristics; notifications = c.notifications; options = c.options }

abbrev pub with_keys : Central → Keys → Central
with_keys c p = record { counters = c.counters; queue = c.queue; running = c.running; keys = p; results = c.results; reports = c.reports; bearer = c.bearer; services = c.services; characteristics = c.characteristics; notifications = c.notifications; options = c.options }

abbrev pub with_results : Central → Results → Central
with_results c p = record { counters = c.counters; queue = c.queue; running = c.running; keys = c.keys; results = p; reports = c.reports; bearer = c.bearer; services = c.services; characteristics = c.characteristics; notifications = c.notifications; options = c.options }

abbrev pub with_reports : Central → Reports → Central
with_reports c p = record { counters = c.counters; queue = c.queue; running = c.running; keys = c.keys; results = c.results; reports = p; bearer = c.bearer; services = c.services; characteristics = c.characteristics; notifications = c.notifications; options = c.options }

abbrev pub with_bearer : Central → Bearer → Central
with_bearer c p = record { counters = c.counters; queue = c.queue; running = c.running; keys = c.keys; results = c.results; reports = c.reports; bearer = p; services = c.services; characteristics = c.characteristics; notifications = c.notifications; options = c.options }

abbrev pub with_services : Central → Services → Central
with_services c p = record { counters = c.counters; queue = c.queue; running = c.running; keys = c.keys; results = c.results; reports = c.reports; bearer = c.bearer; services = p; characteristics = c.characteristics; notifications = c.notifications; options = c.options }

abbrev pub with_characteristics : Central → Characteristics → Central
with_characteristics c p = record { counters = c.counters; queue = c.queue; running = c.running; keys = c.keys; results = c.results; reports = c.reports; bearer = c.bearer; services = c.services; characteristics = p; notifications = c.notifications; options = c.options }

abbrev pub with_notifications : Central → Notifications → Central
with_notifications c p = record { counters = c.counters; queue = c.queue; running = c.running; keys = c.keys; results = c.results; reports = c.reports; bearer = c.bearer; services = c.services; characteristics = c.characteristics; notifications = p; options = c.options }

abbrev pub with_options : Central → Options → Central
with_options c p = record { counters = c.counters; queue = c.queue; running = c.running; keys = c.keys; results = c.results; reports = c.reports; bearer = c.bearer; services = c.services; characteristics = c.characteristics; notifications = c.notifications; options = p }
