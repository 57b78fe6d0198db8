-- The steps that are not done: the one that runs, then those that wait.
use Rattle.std.specs.Prelude.{List, [], ◌∷◌, ◌++◌}
use Rattle.bytes_base.specs.Choice.{pick}
use Rattle.state.specs.Central.{Central}
use Rattle.state.specs.declared.Queued.{Queued}
use Rattle.state.specs.declared.Running.{Running}
use Rattle.script_rules.specs.Waiting.{waiting}

-- the running step, if one runs
abbrev pub running_one : Running → List Queued
running_one r = pick r.active (record { step = r.step; len = r.len } ∷ []) []

abbrev pub in_line : Central → List Queued
in_line c = running_one c.running ++ waiting c.queue
