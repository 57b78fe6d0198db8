-- A contract that tells a call's whole outcome leaves no second one: two answers with that outcome agree in all that can be told apart.
use Rattle.std.specs.Prelude.{ℕ, ◌≡◌, List, ⊤}
use Rattle.std.proofs.Common.{sym, ap, ◌∙◌}
use Rattle.state.specs.declared.Sent.{Sent}
use Rattle.state_refusals.proofs.RefusalLaws.{same-told}
use Rattle.script_rules.specs.Outcome.{Outcome, Quiet}
use Rattle.state_core.specs.declared.Core.{Core}
use Rattle.state_core.specs.Reading.{central}
use Rattle.central_answers.specs.declared.Answer.{Answer}
use Rattle.central_answers.specs.Answers.{outcome, quiet}

-- the same reading of core and words, the same refusal, the same sent, the same bytes in the store and in the output
pub record Same (a b : Answer Core Sent) (w₁ w₂ store₁ store₂ out₁ out₂ : List ℕ) : Type 0 where
  pub state : central a.state w₁ ≡ central b.state w₂
  pub refusal : a.refusal ≡ b.refusal
  pub sent : a.gives ≡ b.gives
  pub store : store₁ ≡ store₂
  pub out : out₁ ≡ out₂

pub sole : (o : Outcome) (a b : Answer Core Sent) (w₁ w₂ store₁ store₂ out₁ out₂ : List ℕ)
    → outcome a w₁ store₁ out₁ ≡ o → outcome b w₂ store₂ out₂ ≡ o → Same a b w₁ w₂ store₁ store₂ out₁ out₂
sole o a b w₁ w₂ store₁ store₂ out₁ out₂ e f =
    let same : outcome a w₁ store₁ out₁ ≡ outcome b w₂ store₂ out₂ = e ∙ sym f in
    record {
      state = ap (λ (x : Outcome). x.state) same;
      refusal = same-told a.refusal b.refusal (ap (λ (x : Outcome). x.refusal) same);
      sent = ap (λ (x : Outcome). x.sent) same;
      store = ap (λ (x : Outcome). x.store) same;
      out = ap (λ (x : Outcome). x.out) same;
    }

pub record SameQuiet (a b : Answer Core ⊤) (w₁ w₂ store₁ store₂ : List ℕ) : Type 0 where
  pub state : central a.state w₁ ≡ central b.state w₂
  pub refusal : a.refusal ≡ b.refusal
  pub store : store₁ ≡ store₂

pub sole-quiet : (o : Quiet) (a b : Answer Core ⊤) (w₁ w₂ store₁ store₂ : List ℕ)
    → quiet a w₁ store₁ ≡ o → quiet b w₂ store₂ ≡ o → SameQuiet a b w₁ w₂ store₁ store₂
sole-quiet o a b w₁ w₂ store₁ store₂ e f =
    let same : quiet a w₁ store₁ ≡ quiet b w₂ store₂ = e ∙ sym f in
    record {
      state = ap (λ (x : Quiet). x.state) same;
      refusal = same-told a.refusal b.refusal (ap (λ (x : Quiet). x.refusal) same);
      store = ap (λ (x : Quiet). x.store) same;
    }
