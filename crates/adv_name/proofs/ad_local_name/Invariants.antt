use Prim.Native.Nat.{◌-◌, ◌≤◌}
use mathlib.Core.Path.{◌≡◌}
use lib.ListN.{length}
use Rattle.adv_name.specs.Name.{local_name}
use Rattle.adv_name.proofs.Names.{name_from}
use Rattle.adv_name.proofs.ad_local_name.Given as goal

abbrev pub invariant-loop-at : goal.invariant-loop-at
invariant-loop-at l = (l.at ≤ length l.data) × (name_from l.at l.data ≡ local_name l.data)

abbrev pub decreases-loop-at : goal.decreases-loop-at
decreases-loop-at l = length l.data - l.at
