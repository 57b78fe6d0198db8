-- One law for each way out of the match on a code.
use Prim.Native.Nat.{ℕ, ◌≤◌, ◌<◌}
use mathlib.Core.Path.{◌≡◌, refl, ap, sym, ◌∙◌}
use mathlib.Core.Bool.{Bool, true, false, not}
use mathlib.Core.Logic.{◌⊎◌, ⊎_elim}
use mathlib.Core.List.{List}
use native.Mathlib.Omega.{arith}
use lib.ListN.{length}
use lib.Dec.{eqb}
use borrow.Author.Tests.{le-leb, lt-leb, ne_eqb, eqb-true, eqb-false}
use Rattle.bytes_base.specs.Choice.{among}
use Rattle.l2cap_signaling.specs.Answer.{silence, rejection, parameter_request, code_answer}

module _ (code id : ℕ) (pdu : List ℕ) where
  pub code-whole : code ≡ 0x12 → 12 ≤ length pdu → code_answer code id pdu ≡ parameter_request id pdu
  unfolding code_answer
  code-whole e h = rw (e, le-leb 12 (length pdu) h)

  pub code-short : code ≡ 0x12 → length pdu < 12 → code_answer code id pdu ≡ rejection id
  unfolding code_answer
  code-short e h = rw (e, lt-leb 12 (length pdu) h)

  unlike : (k : ℕ) → (code ≡ k → ⊥) → eqb k code ≡ false
  unlike k h = ne_eqb k code (λ e. h (sym e))

  pub code_other : (code ≡ 0x12 → ⊥) → (code ≡ 0x01 → ⊥) → (code ≡ 0x07 → ⊥) → (code ≡ 0x13 → ⊥) → (code ≡ 0x15 → ⊥) → (code ≡ 0x16 → ⊥)
      → (code ≡ 0x18 → ⊥) → (code ≡ 0x1A → ⊥) → code_answer code id pdu ≡ rejection id
  unfolding code_answer among
  code_other h12 h01 h07 h13 h15 h16 h18 h1_a =
      rw (
        ne_eqb code 0x12 h12,
        unlike 0x01 h01,
        unlike 0x07 h07,
        unlike 0x13 h13,
        unlike 0x15 h15,
        unlike 0x16 h16,
        unlike 0x18 h18,
        unlike 0x1A h1_a,
      )

  silent : (k : ℕ) → code_answer k id pdu ≡ silence → code ≡ k → code_answer code id pdu ≡ silence
  silent k h e = ap (λ (x : ℕ). code_answer x id pdu) e ∙ h

  pub code-silent : (code ≡ 0x01) ⊎ ((code ≡ 0x07) ⊎ ((code ≡ 0x13) ⊎ ((code ≡ 0x18) ⊎ (code ≡ 0x1A)))) → code_answer code id pdu ≡ silence
  unfolding code_answer among
  code-silent w =
      ⊎_elim (silent 0x01 refl) (λ w₁. ⊎_elim (silent 0x07 refl) (λ w₂. ⊎_elim (silent 0x13 refl) (λ w₃. ⊎_elim (silent 0x18 refl) (silent 0x1A refl) w₃) w₂) w₁) w

  pub code-range : 0x15 ≤ code → code < 0x17 → code_answer code id pdu ≡ silence
  unfolding code_answer among
  code-range lo hi = go (eqb code 0x15) refl
    where
      go : (x : Bool) → eqb code 0x15 ≡ x → code_answer code id pdu ≡ silence
      go true e = silent 0x15 refl (eqb-true code 0x15 e)
      go false e =
          let not : code ≡ 0x15 → ⊥ = eqb-false code 0x15 e in
          silent 0x16 refl (omega arith)
