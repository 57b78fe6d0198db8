use Rattle.std.proofs.lemmas.Result.{err_from_is_err_and}
use mathlib.Core.Path.{refl}
use Rattle.state_core.specs.Reading.{central}
use Rattle.state_refusals.specs.Refusals.{number}
use Rattle.state_refusals.proofs.RefusalLaws.{not-accepted}
use Rattle.script_events.proofs.GateLaws.{gate-stops, gate-full, gate-goes}
use Rattle.script_events.proofs.gate_connected.Goals as goal

pub returns-in_err-gate : goal.returns-in_err-gate
returns-in_err-gate c =
    let a = c.args in
    let why = c.in_err-gate.field-0.0 in
    let p = err_from_is_err_and c.from_residual.result c.from_residual.ensures.1 in
    rw (p.1, p.2) (gate-stops (central a.c a.tables.now) a.store_len a.out_len a.at (number why) c.in_err-gate.ensures (not-accepted why))

pub returns-then-links_full : goal.returns-then-links_full
returns-then-links_full c =
    let a = c.args in
    gate-full (central a.c a.tables.now) a.store_len a.out_len a.at _ c.in_ok-gate.ensures refl
    _ c.links_full.ensures c.if-links_full.true

pub returns : goal.returns
returns c =
    let a = c.args in
    gate-goes (central a.c a.tables.now) a.store_len a.out_len a.at _ c.in_ok-gate.ensures refl
    _ c.links_full.ensures c.if-links_full.false
