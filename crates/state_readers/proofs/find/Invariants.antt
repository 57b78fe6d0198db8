use Rattle.std.proofs.Common.{◌≡◌, take, drop}
use Rattle.words.specs.Tables.{results_in}
use Rattle.state_readers.specs.Readers.{find}
use Rattle.state_readers.proofs.find.Given as goal

abbrev pub invariant-loop-i : goal.invariant-loop-i
invariant-loop-i l = find l.index 0 (take l.count (results_in l.tables)) ≡ find l.index l.i (drop l.i (take l.count (results_in l.tables)))
