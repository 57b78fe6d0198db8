-- What the words of the tables hold, table by table.
use Rattle.std.specs.Prelude.{ℕ, ◌+◌, List, get_or}
use Rattle.gatt_services.specs.declared.Service.{Service}
use Rattle.gatt_characteristics.specs.declared.Characteristic.{Characteristic}
use Rattle.notifications.specs.declared.Notification.{Notification}
use Rattle.state.specs.declared.Heard.{Heard}
use Rattle.state.specs.declared.Queued.{Queued}
use Rattle.state.specs.declared.StepResult.{StepResult}
use Rattle.words.specs.Table.{table}
use Rattle.words.specs.Words.{flat_of, queued_of, result_of, service_of, characteristic_of, notification_of, channel_of, pdu_of, data_len_of, response_of, time_of}

abbrev pub tables_size : ℕ
tables_size = 1152

-- word i of the row that begins at r
abbrev pub word : List ℕ → ℕ → ℕ → ℕ
word w r i = get_or w (r + i) 0

unfoldable pub steps_in : List ℕ → List Queued
steps_in w = table 64 (λ i. queued_of (flat_of (word w 0 i) (word w 64 i) (word w 128 i) (word w 192 i)))

unfoldable pub results_in : List ℕ → List StepResult
results_in w = table 64 (λ i. result_of (word w 256 i) (word w 320 i) (word w 1088 i))

unfoldable pub services_in : List ℕ → List Service
services_in w = table 32 (λ i. service_of (word w 384 i) (word w 416 i) (word w 448 i))

unfoldable pub characteristics_in : List ℕ → List Characteristic
characteristics_in w = table 64 (λ i. characteristic_of (word w 480 i) (word w 544 i) (word w 608 i))

unfoldable pub notifications_in : List ℕ → List Notification
notifications_in w = table 32 (λ i. notification_of (word w 672 i) (word w 704 i) (word w 1056 i))

unfoldable pub who_in : List ℕ → List ℕ
who_in w = table 64 (λ i. word w 736 i)

unfoldable pub heard_in : List ℕ → Heard
heard_in w =
    record {
      at = table 64 (λ i. time_of (word w 800 i));
      channel = table 64 (λ i. channel_of (word w 864 i));
      pdu = table 64 (λ i. pdu_of (word w 864 i));
      len = table 64 (λ i. data_len_of (word w 864 i));
      response = table 64 (λ i. response_of (word w 864 i));
    }

unfoldable pub keys_in : List ℕ → List ℕ
keys_in w = table 128 (λ i. word w 928 i)

-- all of them
pub record Tables : Type 0 where
  pub steps : List Queued
  pub results : List StepResult
  pub services : List Service
  pub characteristics : List Characteristic
  pub notifications : List Notification
  pub who : List ℕ
  pub heard : Heard
  pub keys : List ℕ

abbrev pub tables : List ℕ → Tables
tables w =
    record {
      steps = steps_in w;
      results = results_in w;
      services = services_in w;
      characteristics = characteristics_in w;
      notifications = notifications_in w;
      who = who_in w;
      heard = heard_in w;
      keys = keys_in w;
    }

-- ---- one table replaced

abbrev pub with_steps : Tables → List Queued → Tables
with_steps t l = record { steps = l; results = t.results; services = t.services; characteristics = t.characteristics; notifications = t.notifications; who = t.who; heard = t.heard; keys = t.keys }

abbrev pub with_results : Tables → List StepResult → Tables
with_results t l = record { steps = t.steps; results = l; services = t.services; characteristics = t.characteristics; notifications = t.notifications; who = t.who; heard = t.heard; keys = t.keys }

abbrev pub with_services : Tables → List Service → Tables
with_services t l = record { steps = t.steps; results = t.results; services = l; characteristics = t.characteristics; notifications = t.notifications; who = t.who; heard = t.heard; keys = t.keys }

abbrev pub with_characteristics : Tables → List Characteristic → Tables
with_characteristics t l = record { steps = t.steps; results = t.results; services = t.services; characteristics = l; notifications = t.notifications; who = t.who; heard = t.heard; keys = t.keys }

abbrev pub with_notifications : Tables → List Notification → Tables
with_notifications t l = record { steps = t.steps; results = t.results; services = t.services; characteristics = t.characteristics; notifications = l; who = t.who; heard = t.heard; keys = t.keys }

abbrev pub with_reports : Tables → List ℕ → Heard → Tables
with_reports t l h = record { steps = t.steps; results = t.results; services = t.services; characteristics = t.characteristics; notifications = t.notifications; who = l; heard = h; keys = t.keys }

abbrev pub with_keys : Tables → List ℕ → Tables
with_keys t l = record { steps = t.steps; results = t.results; services = t.services; characteristics = t.characteristics; notifications = t.notifications; who = t.who; heard = t.heard; keys = l }
