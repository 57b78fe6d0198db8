use Prim.Native.Nat.{◌+◌, ◌*◌}
use mathlib.Core.Path.{◌≡◌}
use lib.ListN.{length, take}
use Rattle.h4_builders.specs.Events.{number_bytes}
use Rattle.h4_builders.specs.Build.{written_at}
use Rattle.h4_builders.proofs.put_numbers.Given as goal

abbrev pub invariant-loop-v : goal.invariant-loop-v
invariant-loop-v l =
    record {
      same : l.out ≡ written_at l.initial.out l.at (number_bytes (take l.v-index l.numbers));
      size : length l.out ≡ length l.initial.out;
      end : l.end ≡ l.at + 2 * l.v-index;
    }
