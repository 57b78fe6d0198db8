use mathlib.Core.Path.{ap, ◌∙◌}
use Prim.Native.Nat.{ℕ}
use native.Mathlib.Omega.{arith}
use Rattle.bytes_base.specs.Splice.{splice}
use Rattle.bytes_base.proofs.SpliceLaws.{splice-zero}
use Rattle.h4_stream.proofs.HandLaws.{lowered, lowered-more}
use Rattle.h4_stream.proofs.lower.Goals as goal

pub loop-i-init : goal.loop-i-init
loop-i-init c = splice-zero _ _ _ _ (omega arith) (omega arith)

pub loop-i-preserved : goal.loop-i-preserved
loop-i-preserved c =
    let l = c.loop-i in
    rw l.invariant (lowered-more c.args.held.now c.args.from l.i (omega arith))

pub returns-after-loop-i : goal.returns-after-loop-i
returns-after-loop-i c =
    let s = c.args in
    c.loop-i.invariant
    ∙ ap (λ (k : ℕ). splice s.held.now 0 s.held.now s.from k) (omega arith)
    ∙ lowered s.held.now s.from s.n (omega arith)
