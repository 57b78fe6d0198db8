use Prim.Native.Nat.{ℕ}
use mathlib.Core.Path.{sym, ap, ◌∙◌}
use Rattle.c_told.specs.Told.{answer_words}
use Rattle.c_central.proofs.WordLaws.{emptied-here, stays_here, not-both}
use Rattle.c_central.proofs.give_fragment.Goals as goal

pub returns-then-why-number : goal.returns-then-why-number
returns-then-why-number c =
    let a = c.args in
    let why = sym c.told_number-why.ensures ∙ c.if-why-number.true ∙ c.number.ensures in (
      c.answer_words.ensures ∙ ap (λ (n : ℕ). answer_words n a.a.gives) c.told_number-why.ensures,
      (λ h. absurd (not-both _ h why), λ h. emptied-here _ a.core.now why),
    )

pub returns : goal.returns
returns c =
    let a = c.args in (
      c.answer_words.ensures ∙ ap (λ (n : ℕ). answer_words n a.a.gives) c.told_number-why.ensures,
      (c.give_core.ensures.0, λ h. c.give_core.ensures.1 h ∙ stays_here _ a.core.now (λ e. c.if-why-number.false (c.told_number-why.ensures ∙ e ∙ sym c.number.ensures))),
    )
