-- What a call that only reads answers past its gate: the gate's refusal, or what was asked for.
use Prim.Native.Nat.{ℕ}
use mathlib.Core.Path.{◌≡◌, refl, ap, ◌∙◌, sym}
use mathlib.Core.Bool.{Bool, true, false}
use Rattle.std.specs.Prelude.{Result, Ok, Err}
use borrow.Author.Tests.{eq-eqb, ne_eqb}
use Rattle.state_refusals.specs.declared.Refusal.{Refusal}
use Rattle.state_refusals.specs.Refusals.{accepted, number}
use Rattle.state_refusals.specs.Refused.{refusal_of, refused, refusal_number}
use Rattle.state_refusals.proofs.RefusalLaws.{not-accepted}
use Rattle.state_refusals.proofs.RefusedLaws.{of-number}
use Rattle.state_rules.specs.Gate.{first_refusal, unless}

module _ {A : Type 0} (g : ℕ) (answer : A) where
  pub refuses-by : (why : Refusal) → number why ≡ g → Err why ≡ unless g refused (Ok answer)
  refuses-by why e = rw (← e, ne_eqb (number why) accepted (not-accepted why), of-number why)

  pub tells-by : (x : A) → accepted ≡ g → x ≡ answer → Ok x ≡ unless g refused (Ok answer)
  tells-by x e f = rw (← e, f)

-- what is told is refused by the gate's number
pub refusal-by : {A : Type 0} (answer : A) (fit sized timely : Bool) → refusal_number (unless (first_refusal fit sized timely) refused (Ok answer)) ≡ first_refusal fit sized timely
unfolding first_refusal
refusal-by answer true true true = refl
refusal-by answer true true false = refl
refusal-by answer true false timely = refl
refusal-by answer false sized timely = refl
