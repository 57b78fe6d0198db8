use mathlib.Core.Path.{◌∙◌, sym}
use mathlib.Core.Logic.{⊎_elim, inl, inr}
use native.Mathlib.Omega.{arith}
use Rattle.l2cap_signaling.proofs.CodeLaws.{code-whole, code-short, code_other, code-silent, code-range}
use Rattle.l2cap_signaling.proofs.on_code.Goals as goal
use Rattle.l2cap_signaling.proofs.on_code.Goals.{in-1-1, in_default+else-code-lt21+then-code-lt23, in_default-via-then-code-lt21, in_default-via-else-code-lt21+else-code-lt23}

pub returns-then-pdu-ge-PARAMETER_REQ_LEN : goal.returns-then-pdu-ge-PARAMETER_REQ_LEN
returns-then-pdu-ge-PARAMETER_REQ_LEN c =
    let a = c.args in
    c.parameter_answer.ensures ∙ sym (code-whole a.code a.id a.pdu.now c.in-18.is (omega arith))

pub returns-else-pdu-ge-PARAMETER_REQ_LEN : goal.returns-else-pdu-ge-PARAMETER_REQ_LEN
returns-else-pdu-ge-PARAMETER_REQ_LEN c =
    let a = c.args in
    c.rejection.ensures ∙ sym (code-short a.code a.id a.pdu.now c.in-18.is (omega arith))

pub returns-in_default : goal.returns-in_default
returns-in_default c =
    let a = c.args in
    let none = c.in_default-1.rest.1 in
    let apart = c.in_default.branch in
    c.rejection-in_default.ensures
    ∙ sym
    (code_other a.code a.id a.pdu.now
    c.in_default-1.rest.0.1
    (λ e. none (inl e))
    (λ e. none (inr (inl e)))
    (λ e. none (inr (inr (inl e))))
    (λ e. elim apart [ in_default-via-then-code-lt21 w ↦ omega arith | in_default-via-else-code-lt21+else-code-lt23 w ↦ omega arith ])
    (λ e. elim apart [ in_default-via-then-code-lt21 w ↦ omega arith | in_default-via-else-code-lt21+else-code-lt23 w ↦ omega arith ])
    (λ e. none (inr (inr (inr (inl e)))))
    (λ e. none (inr (inr (inr (inr e))))))

pub returns-in-1 : goal.returns-in-1
returns-in-1 c =
    let a = c.args in
    c.silence.ensures
    ∙ sym
    (elim c.in-1-1.branch [
      | in-1-1 w ↦ code-silent a.code a.id a.pdu.now w.in-1-1.keys2
      | in_default+else-code-lt21+then-code-lt23 w ↦ code-range a.code a.id a.pdu.now (omega arith) (omega arith)
    ])
