-- Whether a state is fit does not depend on its dead places.
use mathlib.Core.Path.{◌≡◌, sym}
use mathlib.Core.Bool.{◌&&◌}
use Rattle.state_places.specs.Sizes.{data_size}
use Rattle.notifications.specs.Kept.{values_fit, links_fit}
use Rattle.gatt_characteristics.specs.Characteristic.{rises}
use Rattle.state.specs.Central.{Central}
use Rattle.state_rules.specs.Fit.{no_response, counted, counts_fit, held_fits, results_fit, lengths_fit, mtu_fits, running_fits, steps_fit, phase_fits, pending_fits, idle_fits, notified_fits}
use Rattle.state_rules.specs.Fit.{wait_fits, refused_fits, index_fits, deadline_fits, link_count_fits, fits}
use Rattle.thm_reading.specs.Live.{live}
use Rattle.thm_reading.proofs.Tables.{cut_twice}

pub fits-blind : (c : Central) → fits c ≡ fits (live c)
unfolding fits
fits-blind c = λ i.
    counts_fit (counted c) c.reports.count c.keys.count
    && held_fits c.bearer
    && results_fit (sym (cut_twice c.results.count c.results.kept) i)
    && values_fit (sym (cut_twice c.notifications.count c.notifications.kept) i)
    && lengths_fit data_size (sym (cut_twice c.reports.count c.reports.heard.len) i)
    && lengths_fit no_response (sym (cut_twice c.reports.count c.reports.heard.response) i)
    && mtu_fits c.bearer
    && running_fits c.running
    && steps_fit (sym (cut_twice c.queue.count c.queue.kept) i)
    && phase_fits c.running
    && pending_fits c.bearer c.running
    && idle_fits c.running c.queue.count
    && rises (sym (cut_twice c.characteristics.count c.characteristics.kept) i)
    && notified_fits c.counters c.notifications.count
    && wait_fits c.counters
    && refused_fits c.counters
    && index_fits c.counters c.queue.count
    && deadline_fits c.running
    && link_count_fits c.counters
    && links_fit c.counters.links (sym (cut_twice c.notifications.count c.notifications.kept) i)
