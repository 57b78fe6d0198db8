use Rattle.std.proofs.lemmas.Result.{err_from_is_err_and}
use mathlib.Core.Path.{refl}
use Rattle.state_core.specs.Reading.{central}
use Rattle.state_refusals.specs.Refusals.{number}
use Rattle.state_refusals.proofs.RefusalLaws.{not-accepted}
use Rattle.script_rules.proofs.FitLaws.{gate-shared, gate-bad, gate-counts, gate-full, gate-open}
use Rattle.script_batch.proofs.gate_batch.Goals as goal

pub returns-in_err-gate : goal.returns-in_err-gate
returns-in_err-gate c =
    let a = c.args in
    let why = c.in_err-gate.field-0.0 in
    let p = err_from_is_err_and c.from_residual.result c.from_residual.ensures.1 in
    rw (p.1, p.2) (gate-shared (central a.c a.tables.now) a.store_len a.out_len a.at a.b a.size (number why) c.in_err-gate.ensures (not-accepted why))

pub returns-then-not-batch_fits : goal.returns-then-not-batch_fits
returns-then-not-batch_fits c =
    let a = c.args in
    gate-bad
    (central a.c a.tables.now) a.store_len a.out_len a.at a.b a.size
    _ c.in_ok-gate.ensures refl
    _ c.batch_fits.ensures
    c.if-not-batch_fits.true

pub counters_fit-requires : goal.counters_fit-requires
counters_fit-requires c =
    let a = c.args in
    gate-counts
    (central a.c a.tables.now) a.store_len a.out_len a.at a.b a.size
    _ c.in_ok-gate.ensures refl
    _ c.batch_fits.ensures
    c.if-not-batch_fits.false

pub returns-then-not-counters_fit : goal.returns-then-not-counters_fit
returns-then-not-counters_fit c =
    let a = c.args in
    gate-full
    (central a.c a.tables.now) a.store_len a.out_len a.at a.b a.size
    _ c.in_ok-gate.ensures refl
    _ c.batch_fits.ensures
    c.if-not-batch_fits.false
    _ c.counters_fit.ensures
    c.if-not-counters_fit.true

pub returns : goal.returns
returns c =
    let a = c.args in
    gate-open
    (central a.c a.tables.now) a.store_len a.out_len a.at a.b a.size
    _ c.in_ok-gate.ensures refl
    _ c.batch_fits.ensures
    c.if-not-batch_fits.false
    _ c.counters_fit.ensures
    c.if-not-counters_fit.false
