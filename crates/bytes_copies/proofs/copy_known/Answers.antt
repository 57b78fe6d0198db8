use mathlib.Core.Path.{ap, ◌∙◌}
use Prim.Native.Nat.{ℕ}
use native.Mathlib.Omega.{arith}
use Rattle.bytes_base.specs.Splice.{splice}
use Rattle.bytes_base.proofs.SpliceLaws.{splice-zero, splice-suc}
use Rattle.bytes_copies.proofs.copy_known.Goals as goal

pub loop-i-init : goal.loop-i-init
loop-i-init c = splice-zero _ _ _ _ (omega arith) (omega arith)

pub loop-i-preserved : goal.loop-i-preserved
loop-i-preserved c =
    let s = c.args in
    let l = c.loop-i in
    rw l.invariant (splice-suc s.dst.now s.at s.src.now s.from l.i (omega arith) (omega arith))

pub returns : goal.returns
returns c =
    let s = c.args in
    c.loop-i.invariant ∙ ap (λ (k : ℕ). splice s.dst.now s.at s.src.now s.from k) (omega arith)
