-- Fit but for two clauses, part by part: what holds all through a call. While a call works, a step may have ended with others waiting;
-- and of deadlines see `Timed`.
use Rattle.std.specs.Prelude.{ℕ, ◌+◌, ◌≤◌, ◌≡◌, true}
use Rattle.state_places.specs.Sizes.{most_steps, most_results, most_reports, most_notifications, most_services, most_characteristics, most_keys, frame_size, data_size}
use Rattle.gatt_services.specs.declared.Services.{Services}
use Rattle.gatt_characteristics.specs.declared.Characteristics.{Characteristics}
use Rattle.gatt_characteristics.specs.Characteristic.{known, rises}
use Rattle.notifications.specs.declared.Notifications.{Notifications}
use Rattle.notifications.specs.Kept.{live, values_fit, links_fit}
use Rattle.state.specs.Central.{Central}
use Rattle.state.specs.declared.Queue.{Queue}
use Rattle.state.specs.declared.Results.{Results}
use Rattle.state.specs.declared.Reports.{Reports}
use Rattle.state.specs.declared.Counters.{Counters}
use Rattle.state.specs.declared.Bearer.{Bearer}
use Rattle.state.specs.declared.Running.{Running}
use Rattle.state_rules.specs.Steps.{default_mtu, most_mtu, step_fits, att_step}
use Rattle.state_rules.specs.Fit.{kept, results_fit, lengths_fit, data_lengths, response_lengths, no_response, waiting, steps_fit, awaits, is_request, most_notified, most_refused, last_index, most_links}

pub record Waits (q : Queue) : Type 0 where
  pub few : q.count ≤ most_steps
  pub fit : steps_fit (waiting q) ≡ true

pub record Ended (r : Results) : Type 0 where
  pub few : r.count ≤ most_results
  pub fit : results_fit (kept r) ≡ true

pub record Peer (s : Services) (x : Characteristics) : Type 0 where
  pub services : s.count ≤ most_services
  pub characteristics : x.count ≤ most_characteristics
  pub rising : rises (known x) ≡ true

pub record Heard (r : Reports) (n : Notifications) (most : ℕ) : Type 0 where
  pub reports : r.count ≤ most_reports
  pub lengths : lengths_fit data_size (data_lengths r) ≡ true
  pub responses : lengths_fit no_response (response_lengths r) ≡ true
  pub notifications : n.count ≤ most_notifications
  pub values : values_fit (live n) ≡ true
  pub counted : most ≤ most_links
  pub links : links_fit most (live n) ≡ true

pub record Tally (k : Counters) (notifications waiting : ℕ) : Type 0 where
  pub kept : notifications ≤ k.notified
  pub notified : k.notified ≤ most_notified
  pub from : k.wait_from ≤ k.notified
  pub refused : k.refused_steps ≤ most_refused
  pub index : k.next_index + waiting ≤ last_index

pub record Linked (b : Bearer) : Type 0 where
  pub held : b.present ≡ true → b.held ≤ frame_size
  pub mtu_low : b.present ≡ true → default_mtu ≤ b.link.mtu
  pub mtu_high : b.present ≡ true → b.link.mtu ≤ most_mtu

pub record Runs (r : Running) : Type 0 where
  pub step : r.active ≡ true → step_fits r.step r.len ≡ true
  pub phase : r.active ≡ true → r.phase ≤ 2

pub record Asks (b : Bearer) (r : Running) : Type 0 where
  pub request : awaits b ≡ true → is_request b.link.pending ≡ true
  pub asking : awaits b ≡ true → r.active ≡ true
  pub att : awaits b ≡ true → att_step r.step ≡ true

pub record Nearly (c : Central) : Type 0 where
  pub waits : Waits c.queue
  pub keys : c.keys.count ≤ most_keys
  pub results : Ended c.results
  pub peer : Peer c.services c.characteristics
  pub heard : Heard c.reports c.notifications c.counters.links
  pub tally : Tally c.counters c.notifications.count c.queue.count
  pub linked : Linked c.bearer
  pub runs : Runs c.running
  pub asks : Asks c.bearer c.running
