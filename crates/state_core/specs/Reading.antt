-- What the numbers and the words of a state say: the reading that all definitions speak of.
use Rattle.std.specs.Prelude.{ℕ, List}
use Rattle.state.specs.Central.{Central}
use Rattle.state.specs.declared.Running.{Running}
use Rattle.state.specs.declared.Bearer.{Bearer}
use Rattle.state.specs.declared.Counters.{Counters}
use Rattle.state.specs.declared.Counts.{Counts}
use Rattle.script_rules.specs.World.{Held, World}
use Rattle.words.specs.Tables.{Tables, tables}
use Rattle.state_core.specs.declared.Core.{Core}
use Rattle.state_core.specs.declared.Turn.{Turn}

-- of a core and the tables that its counts speak of
abbrev pub central_of : Core → Tables → Central
central_of c t =
    record {
      counters = c.counters;
      queue = record { kept = t.steps; count = c.counts.waiting };
      running = c.running;
      keys = record { kept = t.keys; count = c.key_count };
      results = record { kept = t.results; count = c.counts.results };
      reports = record { who = t.who; heard = t.heard; count = c.reports };
      bearer = c.bearer;
      services = record { kept = t.services; count = c.counts.services };
      characteristics = record { kept = t.characteristics; count = c.counts.characteristics };
      notifications = record { kept = t.notifications; count = c.counts.notifications };
      options = c.options;
    }

-- of a core and its words
abbrev pub central : Core → List ℕ → Central
central c w = central_of c (tables w)

abbrev pub held : Core → List ℕ → List ℕ → Held
held c w store = record { state = central c w; store = store }

abbrev pub world : Turn → List ℕ → List ℕ → List ℕ → World
world t w store out = record { held = held t.core w store; told = record { sent = t.sent; out = out } }

-- ---- one part of the core replaced

abbrev pub with_running : Core → Running → Core
with_running c p = record { running = p; bearer = c.bearer; counters = c.counters; counts = c.counts; reports = c.reports; key_count = c.key_count; options = c.options }

abbrev pub with_bearer : Core → Bearer → Core
with_bearer c p = record { running = c.running; bearer = p; counters = c.counters; counts = c.counts; reports = c.reports; key_count = c.key_count; options = c.options }

abbrev pub with_counters : Core → Counters → Core
with_counters c p = record { running = c.running; bearer = c.bearer; counters = p; counts = c.counts; reports = c.reports; key_count = c.key_count; options = c.options }

abbrev pub with_counts : Core → Counts → Core
with_counts c p = record { running = c.running; bearer = c.bearer; counters = c.counters; counts = p; reports = c.reports; key_count = c.key_count; options = c.options }
