use Prim.Native.Nat.{◌≤◌, ◌-◌}
use lib.ListN.{length}
use Rattle.tool_demo_leaves.proofs.structures.tell_all.Given as goal

-- Safe, and ends: each structure takes some of the bytes that are left.
abbrev pub invariant-loop-at : goal.invariant-loop-at
invariant-loop-at l = l.at ≤ length l.data

abbrev pub decreases-loop-at : goal.decreases-loop-at
decreases-loop-at l = length l.data - l.at
