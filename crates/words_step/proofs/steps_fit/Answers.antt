use Rattle.words_step.proofs.FitLaws.{fit-short, fit-each}
use Rattle.words_step.proofs.steps_fit.Goals as goal
use mathlib.Core.Path.{sym, ◌∙◌}

pub returns-then-all_at_most : goal.returns-then-all_at_most
returns-then-all_at_most c =
    c.if-all_at_most.true
    ∙ fit-short c.args.tables.now c.row-words.result.now c.args.count c.requires c.told-tables c.row-words.ensures
    (sym c.all_at_most.ensures ∙ c.if-all_at_most.true)

pub returns-else-all_at_most : goal.returns-else-all_at_most
returns-else-all_at_most c =
    fit-each c.args.tables.now c.row-words.result.now c.args.count c.requires c.told-tables c.row-words.ensures _
    c.each_fits.ensures
