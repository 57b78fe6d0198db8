-- A step as it waits.
use Rattle.std.specs.Prelude.{ℕ}
use Rattle.bytes_base.specs.Choice.{pick}
use Rattle.state_kinds.specs.Kinds.{carries}
use Rattle.state.specs.declared.Queued.{Queued}
use Rattle.state.specs.declared.Step.{Step}

-- a step with the length of its value: 0 where its kind carries none
abbrev pub carried : Step → ℕ → Queued
carried step len = record { step = step; len = pick (carries step) len 0 }
