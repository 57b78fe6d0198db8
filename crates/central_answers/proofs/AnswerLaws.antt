-- What the answers of a call that is refused, and of one that is done, tell and leave.
use Rattle.std.specs.Prelude.{ℕ, ◌≡◌, List, None, Some, ⊤}
use Rattle.std.proofs.Common.{refl, ap}
use Rattle.state.specs.declared.Sent.{Sent}
use Rattle.state_refusals.specs.declared.Refusal.{Refusal}
use Rattle.state_refusals.specs.Refusals.{number, told_number}
use Rattle.script_rules.specs.Outcome.{unsent, done, refused, quietly, quietly_refused}
use Rattle.state_core.specs.declared.Core.{Core}
use Rattle.state_core.specs.declared.Turn.{Turn}
use Rattle.state_core.specs.Reading.{central, held, world}
use Rattle.central_answers.specs.declared.Answer.{Answer}
use Rattle.central_answers.specs.Answers.{outcome, quiet, Leaves}

abbrev pub refusing : {T : Type 0} → Core → Refusal → T → Answer Core T
refusing c why gives = record { state = c; refusal = Some why; gives = gives }

abbrev pub giving : {T : Type 0} → Core → T → Answer Core T
giving c gives = record { state = c; refusal = None; gives = gives }

-- ---- of a call that may send

pub refused-told : (c : Core) (why : Refusal) (a : Answer Core Sent) → a ≡ refusing c why unsent
    → (w s o : List ℕ) → outcome a w s o ≡ refused (central c w) (number why) s o
refused-told c why a e w s o = ap (λ (x : Answer Core Sent). outcome x w s o) e

pub done-told : (t : Turn) (a : Answer Core Sent) → a ≡ giving t.core t.sent → (w s o : List ℕ) → outcome a w s o ≡ done (world t w s o)
done-told t a e w s o = ap (λ (x : Answer Core Sent). outcome x w s o) e

-- ---- of one that sends nothing

pub refused-quietly : (c : Core) (why : Refusal) (a : Answer Core ⊤) → a ≡ refusing c why _
    → (w s : List ℕ) → quiet a w s ≡ quietly_refused (central c w) (number why) s
refused-quietly c why a e w s = ap (λ (x : Answer Core ⊤). quiet x w s) e

pub done-quietly : (c : Core) (a : Answer Core ⊤) → a ≡ giving c _ → (w s : List ℕ) → quiet a w s ≡ quietly (held c w s)
done-quietly c a e w s = ap (λ (x : Answer Core ⊤). quiet x w s) e

-- ---- what is left

module _ {T : Type 0} (a : Answer Core T) where
  pub refused-leaves : (c : Core) (why : Refusal) (gives : T) → a ≡ refusing c why gives → (w s : List ℕ) → Leaves (told_number a.refusal) c a.state w w s s
  refused-leaves c why gives e w s h = (ap (λ (x : Answer Core T). x.state) e, refl, refl)

  pub not-refused : (c : Core) (gives : T) → a ≡ giving c gives → {P : Type 0} → (told_number a.refusal ≡ 0 → ⊥) → P
  not-refused c gives e h = absurd (h (ap (λ (x : Answer Core T). told_number x.refusal) e))
