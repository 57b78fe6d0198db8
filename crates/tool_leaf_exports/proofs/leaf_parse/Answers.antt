use Rattle.tool_leaf_exports.proofs.Laws.{read_told, none-told}
use Rattle.tool_leaf_exports.proofs.leaf_parse.Goals as goal

pub returns-in-Some : goal.returns-in-Some
returns-in-Some c =
    let told = read_told _ _ c.args.low.now c.args.high.now c.in-Some.ensures in
    record { value = told.0; low_after = told.1.0; high_after = told.1.1 }

pub returns-in-None : goal.returns-in-None
returns-in-None c =
    let told = none-told _ c.args.low.now c.args.high.now c.in-None.ensures in
    record { value = told.0; low_after = told.1.0; high_after = told.1.1 }
