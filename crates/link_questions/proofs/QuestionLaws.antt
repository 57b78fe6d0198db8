-- What each return of the questions asks.
use Prim.Native.Nat.{ℕ}
use mathlib.Core.Path.{◌≡◌, refl, sym, ap, ◌∙◌}
use borrow.Author.Tests.{eq-eqb, ne_eqb}
use Rattle.uuid_value.specs.declared.Uuid.{Uuid}
use Rattle.state.specs.declared.Step.{Step}
use Rattle.state.specs.declared.Step.TheVariants.{ExchangeMtu, DiscoverServices, DiscoverCharacteristics}
use Rattle.link_questions.specs.declared.Goal.TheVariants as goal
use Rattle.link_questions.specs.declared.Asked.{Asked}
use Rattle.link_questions.specs.declared.Asked.TheVariants as asked-variants
use Rattle.link_questions.specs.Questions.{asked_in, asked_by}

module _ (u : Uuid) (phase : ℕ) where
  pub asked-services : phase ≡ 0 → asked-variants.Services (goal.Of u) ≡ asked_in u phase
  asked-services h = rw (eq-eqb phase 0 h) refl

  pub asked-characteristics : (phase ≡ 0 → ⊥) → phase ≡ 1 → asked-variants.Characteristics u ≡ asked_in u phase
  asked-characteristics h k = rw (ne_eqb phase 0 h, eq-eqb phase 1 k) refl

  pub asked-descriptors : (phase ≡ 0 → ⊥) → (phase ≡ 1 → ⊥) → asked-variants.Descriptors u ≡ asked_in u phase
  asked-descriptors h k = rw (ne_eqb phase 0 h, ne_eqb phase 1 k) refl

module _ (s : Step) (phase : ℕ) where
  by-step : (k : Step) → s ≡ k → asked_by k phase ≡ asked_by s phase
  by-step k e = sym (ap (λ (x : Step). asked_by x phase) e)

  pub asks-mtu : (m : ℕ) → s ≡ ExchangeMtu m → asked-variants.Mtu m ≡ asked_by s phase
  asks-mtu m e = by-step (ExchangeMtu m) e

  pub asks-all : s ≡ DiscoverServices → phase ≡ 0 → asked-variants.Services goal.All ≡ asked_by s phase
  asks-all e h = rw (e, eq-eqb phase 0 h) refl

  pub asks_none : s ≡ DiscoverServices → (phase ≡ 0 → ⊥) → asked-variants.Nothing ≡ asked_by s phase
  asks_none e h = rw (e, ne_eqb phase 0 h) refl

  pub asks-in : (u : Uuid) (a : Asked) → s ≡ DiscoverCharacteristics u → a ≡ asked_in u phase → a ≡ asked_by s phase
  asks-in u a e f = f ∙ by-step (DiscoverCharacteristics u) e
