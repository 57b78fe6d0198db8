-- A call that goes by its gate: what it may do, and its two ways out.
use Prim.Native.Nat.{ℕ, ◌≤◌}
use mathlib.Core.Path.{◌≡◌, ◌∙◌}
use lib.Dec.{eqb}
use borrow.Author.Tests.{eq-eqb, ne_eqb}
use Rattle.bytes_base.specs.Choice.{pick}
use Rattle.state_rules.specs.Refusals.{accepted}

module _ {A : Type 0} (n g : ℕ) (e : n ≡ g) (x y : A) where
  pub goes_through : n ≡ 0 → pick (eqb g accepted) x y ≡ x
  goes_through h = rw (← e, eq-eqb n 0 h)

  pub is-stopped : (n ≡ 0 → ⊥) → pick (eqb g accepted) x y ≡ y
  is-stopped h = rw (← e, ne_eqb n 0 h)
