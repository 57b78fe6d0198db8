-- A table's live entries are its first `count`; a place at or beyond the count is dead.
use Rattle.std.specs.Prelude.{◌≡◌, take}
use Rattle.gatt_services.specs.declared.Services.{Services}
use Rattle.gatt_characteristics.specs.declared.Characteristics.{Characteristics}
use Rattle.notifications.specs.declared.Notifications.{Notifications}
use Rattle.state.specs.declared.Queue.{Queue}
use Rattle.state.specs.declared.Results.{Results}
use Rattle.state.specs.declared.Reports.{Reports}
use Rattle.state.specs.declared.Keys.{Keys}
use Rattle.state.specs.Central.{Central}

-- ---- each table with its live entries alone

abbrev pub live_queue : Queue → Queue
live_queue t = record { kept = take t.count t.kept; count = t.count }

abbrev pub live_keys : Keys → Keys
live_keys t = record { kept = take t.count t.kept; count = t.count }

abbrev pub live_results : Results → Results
live_results t = record { kept = take t.count t.kept; count = t.count }

abbrev pub live_reports : Reports → Reports
live_reports t =
    record {
      who = take t.count t.who;
      heard = record {
        at = take t.count t.heard.at;
        channel = take t.count t.heard.channel;
        pdu = take t.count t.heard.pdu;
        len = take t.count t.heard.len;
        response = take t.count t.heard.response;
      };
      count = t.count;
    }

abbrev pub live_services : Services → Services
live_services t = record { kept = take t.count t.kept; count = t.count }

abbrev pub live_characteristics : Characteristics → Characteristics
live_characteristics t = record { kept = take t.count t.kept; count = t.count }

abbrev pub live_notifications : Notifications → Notifications
live_notifications t = record { kept = take t.count t.kept; count = t.count }

-- ---- a state with its live entries alone

abbrev pub live : Central → Central
live c =
    record {
      counters = c.counters;
      queue = live_queue c.queue;
      running = c.running;
      keys = live_keys c.keys;
      results = live_results c.results;
      reports = live_reports c.reports;
      bearer = c.bearer;
      services = live_services c.services;
      characteristics = live_characteristics c.characteristics;
      notifications = live_notifications c.notifications;
      options = c.options;
    }

-- states that differ in dead places alone
abbrev pub Alike : Central → Central → Type 0
Alike c d = live c ≡ live d
