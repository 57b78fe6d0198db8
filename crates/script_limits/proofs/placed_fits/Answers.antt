use Rattle.script_rules.proofs.BatchLaws.{placed-bad, placed-bare, placed-long, placed-in}
use Rattle.script_limits.proofs.placed_fits.Goals as goal

pub returns-then-not-step_fits : goal.returns-then-not-step_fits
returns-then-not-step_fits c = placed-bad c.args.size c.args.p _ c.step_fits.ensures c.if-not-step_fits.true

pub returns-then-not-carries : goal.returns-then-not-carries
returns-then-not-carries c = placed-bare c.args.size c.args.p _ c.step_fits.ensures _ c.carries.ensures c.if-not-step_fits.false c.if-not-carries.true

pub returns-then-size-len : goal.returns-then-size-len
returns-then-size-len c = placed-long c.args.size c.args.p _ c.step_fits.ensures _ c.carries.ensures c.if-not-step_fits.false c.if-not-carries.false c.if-size-len.true

pub returns : goal.returns
returns c = placed-in c.args.size c.args.p _ c.step_fits.ensures _ c.carries.ensures c.if-not-step_fits.false c.if-not-carries.false c.if-size-len.false
