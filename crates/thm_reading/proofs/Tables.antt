-- Tables cut to their live entries: cut once or twice, and with another list in them.
use Prim.Native.Nat.{ℕ}
use mathlib.Core.Path.{◌≡◌, sym, ap, ◌∙◌}
use mathlib.Core.List.{List}
use native.Mathlib.Omega.{arith}
use lib.ListN.{length, take}
use lib.Seq.{take-take}
use Rattle.lists.specs.Queue.{pushed, onto}
use Rattle.lists.proofs.QueueLaws.{take-onto}
use Rattle.state_places.specs.Sizes.{most_results, most_notifications}
use Rattle.gatt_services.specs.declared.Service.{Service}
use Rattle.gatt_services.specs.declared.Services.{Services}
use Rattle.gatt_services.specs.Service as service
use Rattle.gatt_characteristics.specs.declared.Characteristic.{Characteristic}
use Rattle.gatt_characteristics.specs.declared.Characteristics.{Characteristics}
use Rattle.gatt_characteristics.specs.Characteristic as characteristic
use Rattle.notifications.specs.declared.Notification.{Notification}
use Rattle.notifications.specs.declared.Notifications.{Notifications}
use Rattle.notifications.specs.Kept.{keeping}
use Rattle.notifications.specs.Kept as waits
use Rattle.state.specs.Central.{Central}
use Rattle.state.specs.declared.Queue.{Queue}
use Rattle.state.specs.declared.Queued.{Queued}
use Rattle.state.specs.declared.Results.{Results}
use Rattle.state.specs.declared.StepResult.{StepResult}
use Rattle.state.specs.declared.Reports.{Reports}
use Rattle.state.specs.declared.Keys.{Keys}
use Rattle.script_rules.specs.Finish.{kept, pushed_result}
use Rattle.script_rules.specs.Waiting.{queueing}
use Rattle.thm_reading.specs.Live.{live_queue, live_keys, live_results, live_reports, live_services, live_characteristics, live_notifications, live}

-- ---- lists

module _ {A : Type 0} where
  -- the first n of the first n
  pub cut_twice : (n : ℕ) (l : List A) → take n (take n l) ≡ take n l
  cut_twice n l = take-take n n l (omega arith)

-- ---- cut twice

pub queue-twice : (t : Queue) → live_queue (live_queue t) ≡ live_queue t
queue-twice t = λ i. record { kept = cut_twice t.count t.kept i; count = t.count }

pub keys-twice : (t : Keys) → live_keys (live_keys t) ≡ live_keys t
keys-twice t = λ i. record { kept = cut_twice t.count t.kept i; count = t.count }

pub results-twice : (t : Results) → live_results (live_results t) ≡ live_results t
results-twice t = λ i. record { kept = cut_twice t.count t.kept i; count = t.count }

pub reports-twice : (t : Reports) → live_reports (live_reports t) ≡ live_reports t
reports-twice t = λ i.
    record {
      who = cut_twice t.count t.who i;
      heard = record {
        at = cut_twice t.count t.heard.at i;
        channel = cut_twice t.count t.heard.channel i;
        pdu = cut_twice t.count t.heard.pdu i;
        len = cut_twice t.count t.heard.len i;
        response = cut_twice t.count t.heard.response i;
      };
      count = t.count;
    }

pub services-twice : (t : Services) → live_services (live_services t) ≡ live_services t
services-twice t = λ i. record { kept = cut_twice t.count t.kept i; count = t.count }

pub characteristics-twice : (t : Characteristics) → live_characteristics (live_characteristics t) ≡ live_characteristics t
characteristics-twice t = λ i. record { kept = cut_twice t.count t.kept i; count = t.count }

pub notifications-twice : (t : Notifications) → live_notifications (live_notifications t) ≡ live_notifications t
notifications-twice t = λ i. record { kept = cut_twice t.count t.kept i; count = t.count }

pub live-twice : (c : Central) → live (live c) ≡ live c
live-twice c = λ i.
    record {
      counters = c.counters;
      queue = queue-twice c.queue i;
      running = c.running;
      keys = keys-twice c.keys i;
      results = results-twice c.results i;
      reports = reports-twice c.reports i;
      bearer = c.bearer;
      services = services-twice c.services i;
      characteristics = characteristics-twice c.characteristics i;
      notifications = notifications-twice c.notifications i;
      options = c.options;
    }

-- ---- another list in a table

pub queue-holds : (t : Queue) (l : List Queued) → live_queue (queueing t l) ≡ record { kept = l; count = length l }
queue-holds t l = λ i. record { kept = take-onto t.kept l i; count = length l }

pub services-hold : (t : Services) (l : List Service) → live_services (service.holding t l) ≡ record { kept = l; count = length l }
services-hold t l = λ i. record { kept = take-onto t.kept l i; count = length l }

pub characteristics-hold : (t : Characteristics) (l : List Characteristic)
    → live_characteristics (characteristic.holding t l) ≡ record { kept = l; count = length l }
characteristics-hold t l = λ i. record { kept = take-onto t.kept l i; count = length l }

-- ---- one more result, one more notification

results-hold : (t : Results) (l : List StepResult) → live_results (record { kept = onto t.kept l; count = length l }) ≡ record { kept = l; count = length l }
results-hold t l = λ i. record { kept = take-onto t.kept l i; count = length l }

pub results-push : (t : Results) (x : StepResult) → live_results (pushed_result t x) ≡ live_results (pushed_result (live_results t) x)
unfolding pushed_result
results-push t x =
    let more : List StepResult → List StepResult = λ l. pushed most_results l x in
    results-hold t (more (kept t))
    ∙ ap (λ (l : List StepResult). record { kept = more l; count = length (more l) }) (sym (cut_twice t.count t.kept))
    ∙ sym (results-hold (live_results t) (more (kept (live_results t))))

notifications-hold : (t : Notifications) (l : List Notification)
    → live_notifications (record { kept = onto t.kept l; count = length l }) ≡ record { kept = l; count = length l }
notifications-hold t l = λ i. record { kept = take-onto t.kept l i; count = length l }

pub notifications-keep : (t : Notifications) (x : Notification) → live_notifications (keeping t x) ≡ live_notifications (keeping (live_notifications t) x)
unfolding keeping
notifications-keep t x =
    let more : List Notification → List Notification = λ l. pushed most_notifications l x in
    notifications-hold t (more (waits.live t))
    ∙ ap (λ (l : List Notification). record { kept = more l; count = length (more l) }) (sym (cut_twice t.count t.kept))
    ∙ sym (notifications-hold (live_notifications t) (more (waits.live (live_notifications t))))
