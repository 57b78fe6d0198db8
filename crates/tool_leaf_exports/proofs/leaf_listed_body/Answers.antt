use mathlib.Core.Path.{ap}
use lib.ListN.{length}
use Rattle.tool_leaf_exports.proofs.Laws.{handed}
use Rattle.tool_leaf_exports.proofs.leaf_listed_body.Goals as goal

pub returns : goal.returns
returns c =
    let body = c.listed_body-body.ensures.result_value in
    record { value = ap length body; out_after = handed _ _ _ _ _ c.copy_in.ensures body }
