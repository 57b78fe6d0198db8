-- The batch that words say, 12 words a step. Every word says something, and a word that is not lent is 0; the call's own gate judges the batch.
use Rattle.std.specs.Prelude.{ℕ, ◌+◌, ◌*◌, ◌%◌, List, get_or}
use Rattle.words.specs.declared.Flat.{Flat}
use Rattle.words.specs.Words.{two16, two32, step_of}
use Rattle.words.specs.Table.{table}
use Rattle.script_rules.specs.declared.Placed.{Placed}
use Rattle.script_rules.specs.declared.Batch.{Batch}
use Rattle.c_core.specs.Layout.{flag_in}

-- how many words a step has, and 64 steps
abbrev pub step_size : ℕ
step_size = 12

abbrev pub most_words : ℕ
most_words = 768

-- ---- from the word j on: the step taken apart, in the order of a core's words 7 to 16. An aged wait has its flag set, the low 16 bits of its age
-- where a Connect has its latency, and the high ones where it has its timeout (age_of, words/specs/Words.antt)

abbrev pub flat_at : List ℕ → ℕ → Flat
flat_at w j =
    record {
      kind = get_or w j 0 % 256;
      flag = flag_in (get_or w (j + 1) 0);
      ms = record { 0 = get_or w (j + 2) 0 % two32 };
      size = get_or w (j + 3) 0 % two16;
      uuid = record { low = get_or w (j + 4) 0; high = get_or w (j + 5) 0 };
      aim = get_or w (j + 6) 0 % 256;
      latency = get_or w (j + 7) 0 % two16;
      timeout = get_or w (j + 8) 0 % two16;
      interval = get_or w (j + 9) 0 % two16;
    }

-- with the place of its value in the lent bytes, and its length
abbrev pub placed_at : List ℕ → ℕ → Placed
placed_at w j = record { step = step_of (flat_at w j); place = get_or w (j + 10) 0; len = get_or w (j + 11) 0 }

-- ---- all: 64 places, the first count of which are the batch

unfoldable pub places_in : List ℕ → List Placed
places_in w = table 64 (λ i. placed_at w (step_size * i))

abbrev pub batch_in : List ℕ → ℕ → Batch
batch_in w count = record { steps = places_in w; count = count }
