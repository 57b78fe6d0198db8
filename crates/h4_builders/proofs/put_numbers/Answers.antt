use Prim.Native.Nat.{◌+◌}
use native.Mathlib.Omega.{arith}
use mathlib.Core.Path.{ap}
use lib.ListN.{length}
use Rattle.h4_builders.proofs.Pieces.{stored, numbers-none, numbers-behind}
use Rattle.h4_builders.proofs.put_numbers.Goals as goal

pub loop-v-init : goal.loop-v-init
loop-v-init c = record { same = numbers-none c.args.out.now c.args.at c.args.numbers.now; size = omega arith; end = omega arith }

pub loop-v-preserved : goal.loop-v-preserved
loop-v-preserved c =
    let a = c.args in
    let l = c.loop-v in
    record {
      same =
          numbers-behind a.out.now a.at a.numbers.now l.v-index (omega arith) (omega arith)
          _ l.invariant.same _ l.invariant.end _ c.to_le_bytes-bytes.ensures _
          (rw c.copy_from_slice.ensures.after (stored l.out l.end (l.end + 2) c.to_le_bytes-bytes.result (omega (arith, ap length c.to_le_bytes-bytes.ensures))));
      size = omega arith;
      end = omega arith;
    }
