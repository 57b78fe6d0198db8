use mathlib.Core.Path.{ap}
use Rattle.uuid_value.specs.declared.Att.{Att}
use Rattle.tool_leaf_exports.proofs.Laws.{handed}
use Rattle.tool_leaf_exports.proofs.leaf_to_att.Goals as goal

pub returns : goal.returns
returns c =
    let att = c.to_att-att.ensures in
    record { value = ap (λ (a : Att). a.len) att; out_after = handed _ _ _ _ 16 c.copy_in.ensures (ap (λ (a : Att). a.bytes) att) }
