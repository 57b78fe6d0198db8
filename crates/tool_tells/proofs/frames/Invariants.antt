use Rattle.std.proofs.Common.{length}
use Rattle.tool_tells.proofs.frames.Given as goal

-- Each frame takes some of the bytes that are left.
abbrev pub decreases-loop-first : goal.decreases-loop-first
decreases-loop-first l = length l.rest
