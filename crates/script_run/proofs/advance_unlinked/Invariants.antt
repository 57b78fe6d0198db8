use mathlib.Core.Path.{◌≡◌}
use Rattle.script_rules.specs.Sound.{Whole}
use Rattle.script_rules.specs.Unlinked.{advance_unlinked}
use Rattle.state_core.specs.Reading.{held}
use Rattle.script_run.proofs.advance_unlinked.Given as goal

abbrev pub invariant-loop-at : goal.invariant-loop-at
invariant-loop-at l = (Whole (held l.d l.tables l.store)) × (advance_unlinked (held l.d l.tables l.store) l.at ≡ advance_unlinked (held l.initial.d l.initial.tables l.initial.store) l.at)

abbrev pub decreases-loop-at : goal.decreases-loop-at
decreases-loop-at l = l.d.counts.waiting
