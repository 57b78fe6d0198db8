use Prim.Native.Nat.{◌-◌, ◌≤◌}
use mathlib.Core.Path.{◌≡◌}
use lib.ListN.{length, drop}
use Rattle.h4_stream.specs.Cut.{cut}
use Rattle.h4_stream.specs.Feed.{reached}
use Rattle.h4_stream.specs.Hand.{bytes_of}
use Rattle.h4_stream.proofs.Hand.find_packets.Given as goal

abbrev pub invariant-loop-n : goal.invariant-loop-n
invariant-loop-n l =
    record {
      few : l.packets ≤ l.len;
      inside : l.len ≤ length (bytes_of l.self);
      same : reached l.packets l.len (cut (drop l.len (bytes_of l.self))) ≡ reached 0 0 (cut (bytes_of l.self));
    }

abbrev pub decreases-loop-n : goal.decreases-loop-n
decreases-loop-n l = length (bytes_of l.self) - l.len
