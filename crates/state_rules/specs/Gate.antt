-- Refusals 1 to 3, which calls share, in their order (01, 'Refusal numbers'; the order is first_refusal's, of crate state_refusals).
use Rattle.std.specs.Prelude.{ℕ, true, not, ◌&&◌, eqb, leb}
use Rattle.bytes_base.specs.Choice.{pick}
use Rattle.state_places.specs.Sizes.{store_size, output_size}
use Rattle.time.specs.declared.Micros.{Micros}
use Rattle.time.specs.Clock.{too_late}
use Rattle.state.specs.Central.{Central}
use Rattle.state_rules.specs.Fit.{fits}
use Rattle.state_rules.specs.Refusals.{accepted}
unfoldable pub use Rattle.state_refusals.specs.Refusals.{first_refusal}

-- of a call that may send: a state, the bytes lent as store and as output, a time
abbrev pub gate : Central → ℕ → ℕ → Micros → ℕ
gate c store out at = first_refusal (fits c) (eqb store store_size && leb output_size out) (not (too_late at))

-- of a call that sends nothing and lends no output
abbrev pub gate_quiet : Central → ℕ → Micros → ℕ
gate_quiet c store at = first_refusal (fits c) (eqb store store_size) (not (too_late at))

-- of a call that only reads
abbrev pub gate_reader : Central → ℕ → ℕ
gate_reader c store = first_refusal (fits c) (eqb store store_size) true

-- an answer, or a refusal where there is one
abbrev pub unless : {A : Type 0} → ℕ → (ℕ → A) → A → A
unless why refused answer = pick (eqb why accepted) answer (refused why)
