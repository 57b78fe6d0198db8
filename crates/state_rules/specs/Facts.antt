-- What a fit state is known to have, as facts: what `omega` reads, and what other definitions ask.
use Rattle.std.specs.Prelude.{ℕ, ◌+◌, ◌≤◌, ◌≡◌, true, false}
use Rattle.state_places.specs.Sizes.{most_steps, most_results, most_reports, most_notifications, most_services, most_characteristics, most_keys, frame_size, data_size}
use Rattle.notifications.specs.Kept.{live, values_fit, links_fit}
use Rattle.gatt_characteristics.specs.Characteristic.{known, rises}
use Rattle.state.specs.Central.{Central}
use Rattle.state.specs.declared.Counts.{Counts}
use Rattle.state.specs.declared.Counters.{Counters}
use Rattle.state.specs.declared.Bearer.{Bearer}
use Rattle.state.specs.declared.Running.{Running}
use Rattle.state_rules.specs.Steps.{default_mtu, most_mtu, step_fits, att_step}
use Rattle.state_rules.specs.Fit.{counted, kept, results_fit, lengths_fit, data_lengths, response_lengths, no_response, waiting, steps_fit, awaits, is_request, most_notified, most_refused, last_index, last_deadline, most_links}

-- of the numbers
pub record Head (n : Counts) (k : Counters) (b : Bearer) (r : Running) (heard asked : ℕ) : Type 0 where
  pub waiting : n.waiting ≤ most_steps
  pub results : n.results ≤ most_results
  pub services : n.services ≤ most_services
  pub characteristics : n.characteristics ≤ most_characteristics
  pub notifications : n.notifications ≤ most_notifications
  pub reports : heard ≤ most_reports
  pub keys : asked ≤ most_keys
  pub held : b.present ≡ true → b.held ≤ frame_size
  pub mtu_low : b.present ≡ true → default_mtu ≤ b.link.mtu
  pub mtu_high : b.present ≡ true → b.link.mtu ≤ most_mtu
  pub step : r.active ≡ true → step_fits r.step r.len ≡ true
  pub phase : r.active ≡ true → r.phase ≤ 2
  pub request : awaits b ≡ true → is_request b.link.pending ≡ true
  pub asking : awaits b ≡ true → r.active ≡ true
  pub att : awaits b ≡ true → att_step r.step ≡ true
  pub idle : r.active ≡ false → n.waiting ≡ 0
  pub kept : n.notifications ≤ k.notified
  pub notified : k.notified ≤ most_notified
  pub from : k.wait_from ≤ k.notified
  pub refused : k.refused_steps ≤ most_refused
  pub index : k.next_index + n.waiting ≤ last_index
  pub deadline : r.active ≡ true → r.dated ≡ true → r.deadline.0 ≤ last_deadline
  pub links : k.links ≤ most_links

-- of the whole
pub record Fit (c : Central) : Type 0 where
  pub head : Head (counted c) c.counters c.bearer c.running c.reports.count c.keys.count
  pub results : results_fit (kept c.results) ≡ true
  pub values : values_fit (live c.notifications) ≡ true
  pub lengths : lengths_fit data_size (data_lengths c.reports) ≡ true
  pub responses : lengths_fit no_response (response_lengths c.reports) ≡ true
  pub steps : steps_fit (waiting c.queue) ≡ true
  pub rising : rises (known c.characteristics) ≡ true
  pub linked : links_fit c.counters.links (live c.notifications) ≡ true
