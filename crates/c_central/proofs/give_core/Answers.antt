use mathlib.Core.Path.{refl, sym, ap, ◌∙◌}
use Rattle.state_refusals.specs.Refusals.{told_number}
use Rattle.state_refusals.proofs.RefusalLaws.{not-accepted}
use Rattle.c_central.proofs.give_core.Goals as goal

pub returns-in-None : goal.returns-in-None
returns-in-None c = (λ h. c.encode.ensures, λ h. absurd (h (ap told_number c.in-None.is)))

pub returns-in-Some : goal.returns-in-Some
returns-in-Some c = (λ h. absurd (not-accepted c.in-Some.field-0 (sym (ap told_number c.in-Some.is) ∙ h)), λ h. refl)
