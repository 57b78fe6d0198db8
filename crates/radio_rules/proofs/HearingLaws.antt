-- What a call with data has shown when it goes on.
use Prim.Native.Nat.{ℕ, ◌≤◌}
use mathlib.Core.Path.{◌≡◌, refl}
use mathlib.Core.Bool.{Bool, true, false}
use native.Mathlib.Omega.{arith}
use lib.Dec.{eqb, leb}
use borrow.Author.Tests.{eqb-false, eqb-true, leb-true}
use Rattle.bytes_base.specs.Choice.{pick}
use Rattle.state_places.specs.Sizes.{data_size}
use Rattle.time.specs.declared.Micros.{Micros}
use Rattle.state.specs.Central.{Central}
use Rattle.state_rules.specs.Gate.{gate_quiet}
use Rattle.state_rules.proofs.GateLaws.{PassedQuiet, passed-quiet}
use Rattle.radio_rules.specs.Hearing.{then_data}

pub record Passed (c : Central) (store : ℕ) (at : Micros) (n : ℕ) : Type 0 where
  pub gate : PassedQuiet c store at
  pub short : n ≤ data_size

pub passed : (c : Central) (store : ℕ) (at : Micros) (n : ℕ) → then_data (gate_quiet c store at) n ≡ 0 → Passed c store at n
unfolding then_data
passed c store at n e = go (eqb g 0) refl (leb n data_size) refl e
  where
    g : ℕ
    g = gate_quiet c store at

    go : (x : Bool) → eqb (gate_quiet c store at) 0 ≡ x → (y : Bool) → leb n data_size ≡ y → ◌≡◌ {A = ℕ} (pick x (pick y 0 6) (gate_quiet c store at)) 0 → Passed c store at n
    go true ex true ey h = record { gate = passed-quiet c store at (eqb-true (gate_quiet c store at) 0 ex); short = leb-true n data_size ey }
    go true ex false ey h = absurd (omega arith)
    go false ex y ey h = absurd (eqb-false (gate_quiet c store at) 0 ex h)
