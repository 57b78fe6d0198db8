-- When a state is fit (01, 'Refusal numbers', "Fit means"; 02, One), clause by clause. Live entries alone count; with no link present the
-- link's fields are free, and with no step active the running step's. A place of the store follows from a position (01, 'Sizes'; crate state_places):
-- it is always inside its part and overlaps no other, so that of 01's second clause nothing is left to test.
use Rattle.std.specs.Prelude.{ℕ, Bool, not, ◌&&◌, ◌||◌, List, take, eqb, leb}
use Rattle.bytes_base.specs.Choice.{within}
use Rattle.state_places.specs.Sizes.{most_steps, most_results, most_reports, most_notifications, most_services, most_characteristics, most_keys, result_size, frame_size, data_size}
use Rattle.lists.specs.Queue.{all}
use Rattle.lists.specs.Blocks.{fitting}
use Rattle.notifications.specs.Kept.{live, values_fit, links_fit}
use Rattle.gatt_characteristics.specs.Characteristic.{known, rises}
use Rattle.att_pdu.specs.Numbers.{op_exchange_mtu_req, op_find_information_req, op_read_by_type_req, op_read_req, op_read_by_group_type_req, op_write_req}
use Rattle.state.specs.Central.{Central}
pub use Rattle.state.specs.Kept.{waiting, kept, no_response}
use Rattle.state.specs.declared.Counts.{Counts}
use Rattle.state.specs.declared.Bearer.{Bearer}
use Rattle.state.specs.declared.Running.{Running}
use Rattle.state.specs.declared.Queued.{Queued}
use Rattle.state.specs.declared.StepResult.{StepResult}
use Rattle.state.specs.declared.Reports.{Reports}
pub use Rattle.state_counters.specs.Counters.{most_notified, notified_fits, wait_fits, most_refused, refused_fits, last_index, index_fits, most_links, link_count_fits}
use Rattle.state_rules.specs.Steps.{implies, default_mtu, most_mtu, step_fits, att_step}

-- ---- counts within the sizes

-- how many there are of each
abbrev pub counted : Central → Counts
counted c =
    record {
      waiting = c.queue.count;
      results = c.results.count;
      services = c.services.count;
      characteristics = c.characteristics.count;
      notifications = c.notifications.count;
    }

unfoldable pub counts_fit : Counts → ℕ → ℕ → Bool
counts_fit n reports keys =
    leb n.waiting most_steps
    && leb n.results most_results
    && leb n.services most_services
    && leb n.characteristics most_characteristics
    && leb n.notifications most_notifications
    && leb reports most_reports
    && leb keys most_keys

-- ---- lengths within the sizes

-- the frame that is held
abbrev pub held_fits : Bearer → Bool
held_fits b = implies b.present (leb b.held frame_size)

-- the values of the results that are kept
abbrev pub results_fit : List StepResult → Bool
results_fit l = fitting (λ x. x.len) result_size l

-- the lengths of the reports' advertising data, and of their scan responses
abbrev pub data_lengths : Reports → List ℕ
data_lengths r = take r.count r.heard.len

abbrev pub response_lengths : Reports → List ℕ
response_lengths r = take r.count r.heard.response

abbrev pub lengths_fit : ℕ → List ℕ → Bool
lengths_fit most l = fitting (λ n. n) most l

-- ---- MTU 23 to 247

abbrev pub mtu_fits : Bearer → Bool
mtu_fits b = implies b.present (within default_mtu most_mtu b.link.mtu)

-- ---- steps as a batch would accept them

abbrev pub running_fits : Running → Bool
running_fits r = implies r.active (step_fits r.step r.len)

abbrev pub steps_fit : List Queued → Bool
steps_fit l = all (λ q. step_fits q.step q.len) l

-- ---- phase at most 2

abbrev pub phase_fits : Running → Bool
phase_fits r = implies r.active (leb r.phase 2)

-- ---- a pending opcode is 02, 04, 08, 0A, 10 or 12 and an ATT step runs

abbrev pub awaits : Bearer → Bool
awaits b = b.present && not (eqb b.link.pending 0)

abbrev pub is_request : ℕ → Bool
is_request op =
    eqb op op_exchange_mtu_req
    || eqb op op_find_information_req
    || eqb op op_read_by_type_req
    || eqb op op_read_req
    || eqb op op_read_by_group_type_req
    || eqb op op_write_req

abbrev pub pending_fits : Bearer → Running → Bool
pending_fits b r = implies (awaits b) (is_request b.link.pending && r.active && att_step r.step)

-- ---- no running step means none waiting

abbrev pub idle_fits : Running → ℕ → Bool
idle_fits r waiting = r.active || eqb waiting 0

-- ---- kept notifications <= notified <= 2^62; wait_from <= notified; refused_steps <= 2^62 + 64; next index + waiting <= 4,294,967,295:
-- notified_fits, wait_fits, refused_fits and index_fits, of crate state_counters

-- ---- link count <= 2^62, no kept link number above it (02, One): link_count_fits, of crate state_counters; links_fit, of crate notifications

-- ---- a deadline at most 2^63

abbrev pub last_deadline : ℕ
last_deadline = 9223372036854775808

abbrev pub deadline_fits : Running → Bool
deadline_fits r = implies (r.active && r.dated) (leb r.deadline.0 last_deadline)

-- ---- fit

unfoldable pub fits : Central → Bool
fits c =
    counts_fit (counted c) c.reports.count c.keys.count
    && held_fits c.bearer
    && results_fit (kept c.results)
    && values_fit (live c.notifications)
    && lengths_fit data_size (data_lengths c.reports)
    && lengths_fit no_response (response_lengths c.reports)
    && mtu_fits c.bearer
    && running_fits c.running
    && steps_fit (waiting c.queue)
    && phase_fits c.running
    && pending_fits c.bearer c.running
    && idle_fits c.running c.queue.count
    && rises (known c.characteristics)
    && notified_fits c.counters c.notifications.count
    && wait_fits c.counters
    && refused_fits c.counters
    && index_fits c.counters c.queue.count
    && deadline_fits c.running
    && link_count_fits c.counters
    && links_fit c.counters.links (live c.notifications)
