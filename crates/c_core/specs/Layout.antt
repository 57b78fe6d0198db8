-- The core that 37 words say, one field a word. Every word says something: a field is the low bits of its word, a flag the lowest, and fit judges the rest.
use Rattle.std.specs.Prelude.{ℕ, ◌%◌, Bool, List, get_or, eqb}
use Rattle.state.specs.declared.Running.{Running}
use Rattle.state.specs.declared.Bearer.{Bearer}
use Rattle.state.specs.declared.Counters.{Counters}
use Rattle.state.specs.declared.Counts.{Counts}
use Rattle.state.specs.declared.Options.{Options}
use Rattle.words.specs.declared.Flat.{Flat}
use Rattle.words.specs.Words.{two16, two32, step_of}
use Rattle.state_core.specs.declared.Core.{Core}

-- how many words there are
abbrev pub core_size : ℕ
core_size = 37

abbrev pub flag_in : ℕ → Bool
flag_in x = eqb (x % 2) 1

-- ---- words 7 to 16: the running step taken apart, as words.specs.Words has it

abbrev pub flat_in : List ℕ → Flat
flat_in w =
    record {
      kind = get_or w 7 0 % 256;
      flag = flag_in (get_or w 8 0);
      ms = record { 0 = get_or w 9 0 % two32 };
      size = get_or w 10 0 % two16;
      uuid = record { low = get_or w 11 0; high = get_or w 12 0 };
      aim = get_or w 13 0 % 256;
      latency = get_or w 14 0 % two16;
      timeout = get_or w 15 0 % two16;
      interval = get_or w 16 0 % two16;
    }

-- ---- words 0 to 6, and the step

abbrev pub running_in : List ℕ → Running
running_in w =
    record {
      deadline = record { 0 = get_or w 0 0 };
      step = step_of (flat_in w);
      index = get_or w 1 0 % two32;
      cursor = get_or w 2 0 % two16;
      len = get_or w 3 0 % 256;
      phase = get_or w 4 0 % 256;
      active = flag_in (get_or w 5 0);
      dated = flag_in (get_or w 6 0);
    }

-- ---- words 17 to 22, and 35

abbrev pub bearer_in : List ℕ → Bearer
bearer_in w =
    record {
      held = get_or w 17 0;
      link = record { handle = get_or w 18 0 % two16; mtu = get_or w 19 0 % two16; pending = get_or w 20 0 % 256; terminating = flag_in (get_or w 21 0) };
      present = flag_in (get_or w 22 0);
      closed = flag_in (get_or w 35 0);
    }

-- ---- words 23 to 26, and 34

abbrev pub counters_in : List ℕ → Counters
counters_in w =
    record { next_index = get_or w 23 0 % two32; refused_steps = get_or w 24 0; notified = get_or w 25 0; wait_from = get_or w 26 0; links = get_or w 34 0 }

-- ---- words 27 to 31

abbrev pub counts_in : List ℕ → Counts
counts_in w =
    record { waiting = get_or w 27 0; results = get_or w 28 0; services = get_or w 29 0; characteristics = get_or w 30 0; notifications = get_or w 31 0 }

-- ---- word 36, one bit an option: the lowest is strict

abbrev pub options_in : ℕ → Options
options_in x = record { strict = flag_in x }

-- ---- all; words 32 and 33 are how many reports and asked advertisers there are

unfoldable pub core_in : List ℕ → Core
core_in w =
    record {
      running = running_in w;
      bearer = bearer_in w;
      counters = counters_in w;
      counts = counts_in w;
      reports = get_or w 32 0;
      key_count = get_or w 33 0;
      options = options_in (get_or w 36 0);
    }
