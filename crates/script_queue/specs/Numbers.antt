-- The core once a waiting step runs, and the counters' ends.
use Rattle.std.specs.Prelude.{ℕ, ◌-◌}
use Rattle.state.specs.declared.Counts.{Counts}
use Rattle.state.specs.declared.Queued.{Queued}
use Rattle.script_rules.specs.Waiting.{begun, counted}
pub use Rattle.state_counters.specs.Counters.{last_index}
use Rattle.state_core.specs.declared.Core.{Core}
use Rattle.script_queue.specs.declared.Line.{Line}

-- 2^64 - 1
abbrev pub largest : ℕ
largest = 18446744073709551615

abbrev pub with_waiting : Counts → ℕ → Counts
with_waiting n k = record { waiting = k; results = n.results; services = n.services; characteristics = n.characteristics; notifications = n.notifications }

-- how many wait and how many were refused, of a core
abbrev pub line_of : Core → Line
line_of c = record { waiting = c.counts.waiting; refused = c.counters.refused_steps }

abbrev pub with_line : Core → Line → Core
with_line c l =
    record {
      running = c.running;
      bearer = c.bearer;
      counters = record { next_index = c.counters.next_index; refused_steps = l.refused; notified = c.counters.notified; wait_from = c.counters.wait_from; links = c.counters.links };
      counts = with_waiting c.counts l.waiting;
      reports = c.reports;
      key_count = c.key_count;
      options = c.options;
    }

-- the step runs, with the next number; no advertiser has been asked
abbrev pub started : Core → Queued → Core
started c q =
    record {
      running = begun q c.counters.next_index;
      bearer = c.bearer;
      counters = counted c.counters;
      counts = with_waiting c.counts (c.counts.waiting - 1);
      reports = c.reports;
      key_count = 0;
      options = c.options;
    }
