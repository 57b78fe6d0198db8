-- What is counted of what came in along the trails. thm_heard shows that it is what the calls bring in.
use Prim.Native.Nat.{ℕ, ◌+◌}
use mathlib.Core.List.{List, [], ◌∷◌}
use Rattle.bytes_base.specs.Choice.{pick}
use Rattle.script_rules.specs.World.{Held}
use Rattle.thm_trail.specs.Calls.{Call, does, left, done?}
use Rattle.thm_trail.specs.Trail.{News, Pass, goes}

-- along a trail
abbrev pub along : (List News → ℕ) → List Pass → ℕ
along f [] = 0
along f (p ∷ ps) = f p.came + along f ps

-- by a call: none where it is refused
abbrev pub counted_by : (List News → ℕ) → Held → Call → ℕ
counted_by f h c = pick (done? h c) (along f (goes h c)) 0

-- by a sequence of calls
abbrev pub counted_in : (List News → ℕ) → Held → List Call → ℕ
counted_in f h [] = 0
counted_in f h (c ∷ cs) = counted_by f h c + counted_in f (left (does h c)) cs
