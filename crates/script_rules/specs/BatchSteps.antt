-- A batch of steps (01, refusal 4): at most 64, each with its value at a place of lent bytes.
use Rattle.std.specs.Prelude.{ℕ, List, take}
use Rattle.bytes_base.specs.Choice.{pick}
use Rattle.state_rules.specs.Steps.{carries}
use Rattle.state.specs.declared.Queued.{Queued}
use Rattle.script_rules.specs.declared.Placed.{Placed}
use Rattle.script_rules.specs.declared.Batch.{Batch}

-- how many bytes of value a step has: none where its kind carries none
abbrev pub value_len : Placed → ℕ
value_len p = pick (carries p.step) p.len 0

-- the steps of a batch
abbrev pub steps : Batch → List Placed
steps b = take b.count b.steps

-- the step as it waits
abbrev pub queued : Placed → Queued
queued p = record { step = p.step; len = value_len p }
