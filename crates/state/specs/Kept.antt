-- What is kept: the first so many of each array.
use Rattle.std.specs.Prelude.{ℕ, List, take}
use Rattle.state.specs.declared.Queue.{Queue}
use Rattle.state.specs.declared.Queued.{Queued}
use Rattle.state.specs.declared.Results.{Results}
use Rattle.state.specs.declared.StepResult.{StepResult}

-- the steps that wait, the next one first
abbrev pub waiting : Queue → List Queued
waiting q = take q.count q.kept

-- the results, the oldest first
abbrev pub kept : Results → List StepResult
kept r = take r.count r.kept

-- the length of a scan response where there is none: one above the longest
abbrev pub no_response : ℕ
no_response = 32
