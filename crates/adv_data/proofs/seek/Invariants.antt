use Prim.Native.Nat.{◌+◌, ◌-◌, ◌≤◌}
use mathlib.Core.Path.{◌≡◌}
use lib.ListN.{length}
use Rattle.uuid_value.specs.Value.{num}
use Rattle.adv_data.specs.Answers.{sought_in}
use Rattle.adv_data.proofs.Seeks.{from, onto, rest}
use Rattle.adv_data.proofs.seek.Given as goal

abbrev pub invariant-loop-i : goal.invariant-loop-i
invariant-loop-i l = (l.i ≤ l.next)
    × ((l.answer ≡ l.initial.answer) × (rest (num l.uuid) l.data l.width l.i l.next ≡ rest (num l.uuid) l.data l.width (l.at + 2) l.next))

abbrev pub decreases-loop-i : goal.decreases-loop-i
decreases-loop-i l = l.next - l.i

abbrev pub invariant-structures : goal.invariant-structures
invariant-structures l = (l.at ≤ length l.data) × (onto l.answer (from (num l.uuid) l.at l.data) ≡ sought_in (num l.uuid) l.data)

abbrev pub decreases-structures : goal.decreases-structures
decreases-structures l = length l.data - l.at
