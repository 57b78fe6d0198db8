use Rattle.std.proofs.lemmas.Result.{err_from_is_err_and}
use mathlib.Core.Path.{refl}
use Rattle.state_core.specs.Reading.{central}
use Rattle.state_refusals.specs.Refusals.{number}
use Rattle.state_refusals.proofs.RefusalLaws.{not-accepted}
use Rattle.link_rules.proofs.FragmentLaws.{gate-shared, gate-own}
use Rattle.link_frames.proofs.gate_fragment.Goals as goal

pub returns-in_err-gate : goal.returns-in_err-gate
returns-in_err-gate c =
    let a = c.args in
    let why = c.in_err-gate.field-0.0 in
    let p = err_from_is_err_and c.from_residual.result c.from_residual.ensures.1 in
    rw (p.1, p.2) (gate-shared (central a.c a.tables.now) a.store_len a.out_len a.at a.start a.n (number why) c.in_err-gate.ensures (not-accepted why))

pub returns : goal.returns
returns c =
    let a = c.args in
    gate-own (central a.c a.tables.now) a.store_len a.out_len a.at a.start a.n _ c.in_ok-gate.ensures refl
    _ c.is_full-full.ensures _ c.held_fits-fits.ensures _ c.fragment_refusal.ensures
