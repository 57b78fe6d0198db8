use Prim.Native.Nat.{ℕ, ◌+◌}
use mathlib.Core.Path.{refl, ap, ◌∙◌}
use native.Mathlib.Omega.{arith}
use mathlib.Core.List.{List}
use lib.ListN.{length}
use Rattle.bytes_base.specs.Splice.{splice}
use Rattle.l2cap.proofs.WriteLaws.{joined}
use Rattle.l2cap.proofs.put.Goals as goal

pub returns : goal.returns
returns c =
    let a = c.args in
    let k = length a.head.now in record {
      out_after = c.copy_in-2.ensures
          ∙ ap (λ (l : List ℕ). splice l (a.at + k) a.value.now a.from a.n) c.copy_in.ensures
          ∙ joined a.out.now a.at a.head.now a.value.now a.from a.n (omega arith) (omega arith);
      value = refl;
    }
