use mathlib.Core.Path.{sym, ◌∙◌}
use native.Mathlib.Omega.{arith}
use Rattle.script_rules.specs.Batches.{placed_fits}
use Rattle.script_limits.proofs.AllLaws.{passes, fails, at-end}
use Rattle.script_limits.proofs.all_fit.Goals as goal

pub returns-then-not-placed_fits : goal.returns-then-not-placed_fits
returns-then-not-placed_fits c =
    sym (c.loop-p.invariant
    ∙ fails (placed_fits c.args.size) _ c.loop-p.p-index _ _ c.loop-p-test.true c.placed_fits.ensures c.if-not-placed_fits.true)

pub loop-p-preserved : goal.loop-p-preserved
loop-p-preserved c =
    c.loop-p.invariant
    ∙ passes (placed_fits c.args.size) _ c.loop-p.p-index _ _ c.loop-p-test.true c.placed_fits.ensures c.if-not-placed_fits.false

pub returns : goal.returns
returns c = sym (c.loop-p.invariant ∙ at-end (placed_fits c.args.size) _ c.loop-p.p-index (omega (arith, c.loop-p-test.false)))
