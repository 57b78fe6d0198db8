use Prim.Native.Nat.{◌+◌}
use mathlib.Core.Path.{◌≡◌, ap, sym, ◌∙◌}
use native.Mathlib.Omega.{arith}
use lib.ListN.{length, length-set}
use Rattle.uuid_text.proofs.Laws.{kept-one, kept-none, kept-over, kept-all}
use Rattle.uuid_text.proofs.plain.Goals as goal
use Rattle.uuid_text.proofs.plain.Goals.{then-b-ne-HYPHEN+else-len-eq-LONG_DIGITS, else-b-ne-HYPHEN}

pub returns-then-len-eq-LONG_DIGITS : goal.returns-then-len-eq-LONG_DIGITS
returns-then-len-eq-LONG_DIGITS c =
    let l = c.loop-b in
    kept-over l.hex c.args.text.now l.len l.b-index c.if-len-eq-LONG_DIGITS.true l.invariant.1.0 (omega arith) c.if-b-ne-HYPHEN.true l.invariant.1.1

pub loop-b-preserved : goal.loop-b-preserved
loop-b-preserved c =
    let l = c.loop-b in
    let s = c.args.text.now in
    elim c.if-b-ne-HYPHEN.branch [
      | then-b-ne-HYPHEN+else-len-eq-LONG_DIGITS w ↦
          let n : l.len ≡ 32 → ⊥ = w.if-len-eq-LONG_DIGITS.false in
          let m : c.if-b-ne-HYPHEN.len ≡ l.len + 1 = w.len-is in (
            omega arith,
            (
              ap length w.hex-is ∙ simp length-set l.invariant.1.0,
              rw (w.hex-is, m) (sym (kept-one l.hex s l.len l.b-index (omega arith) (omega arith) w.if-b-ne-HYPHEN.true) ∙ l.invariant.1.1),
            ),
          )
      | else-b-ne-HYPHEN w ↦
          let m : c.if-b-ne-HYPHEN.len ≡ l.len = w.len-is in (
            omega arith,
            (
              ap length w.hex-is ∙ l.invariant.1.0,
              rw (w.hex-is, m) (sym (kept-none l.hex s l.len l.b-index (omega arith) w.if-b-ne-HYPHEN.false) ∙ l.invariant.1.1),
            ),
          )
    ]

pub returns : goal.returns
returns c =
    let l = c.loop-b in
    kept-all l.hex c.args.text.now l.len l.b-index (omega arith) (omega arith) l.invariant.1.1
