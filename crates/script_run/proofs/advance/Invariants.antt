use mathlib.Core.Path.{◌≡◌}
use lib.ListN.{length}
use Rattle.script_rules.specs.Sound.{Sound}
use Rattle.script_rules.specs.Script.{advance}
use Rattle.state_core.specs.Reading.{world}
use Rattle.script_run.proofs.advance.Given as goal

abbrev pub invariant-loop-at : goal.invariant-loop-at
invariant-loop-at l = (Sound 65 (world l.u l.tables l.store l.out)) × (advance (world l.u l.tables l.store l.out) l.at ≡ advance (world l.initial.u l.initial.tables l.initial.store l.initial.out) l.at) × (length l.out ≡ length l.initial.out)

abbrev pub decreases-loop-at : goal.decreases-loop-at
decreases-loop-at l = l.u.core.counts.waiting
