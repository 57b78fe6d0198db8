use mathlib.Core.Path.{sym, ◌∙◌}
use Rattle.state_fit.proofs.FitLaws.{unfit-core, counts-fit, all_fit}
use Rattle.state_fit.proofs.is_fit.Goals as goal

pub tables_fit-requires : goal.tables_fit-requires
tables_fit-requires c = counts-fit c.args.c.now _ c.core_fits.ensures c.if-core_fits.true

pub returns-then-core_fits : goal.returns-then-core_fits
returns-then-core_fits c = all_fit c.args.c.now _ c.core_fits.ensures c.if-core_fits.true c.args.tables.now _ c.tables_fit.ensures

pub returns-else-core_fits : goal.returns-else-core_fits
returns-else-core_fits c =
    c.if-core_fits.false ∙ unfit-core c.args.c.now c.args.tables.now (sym c.core_fits.ensures ∙ c.if-core_fits.false)
