use mathlib.Core.Path.{◌≡◌, ap, ◌∙◌}
use native.Mathlib.Omega.{arith}
use lib.ListN.{length}
use Rattle.std.proofs.lemmas.List.{take_rest}
use Rattle.uuid_value.specs.Value.{att_uuid}
use Rattle.uuid_value.specs.ValueLaws.{equal-numbers}
use Rattle.gatt_descriptors.proofs.NamedLaws.{entry-marks, entry_other, entry-no-uuid}
use borrow.Author.Rules.{rules}
use Rattle.gatt_descriptors.proofs.name_one.Goals as goal

pub returns-then-eq : goal.returns-then-eq
returns-then-eq c =
    let d = c.from_att.ensures ∙ ap att_uuid (take_rest c.args.entry.now 2) in
    entry-marks c.args.t c.args.entry.now _ d
    c.in-Some.u _ _ (search rules) c.from.ensures (c.eq.ensures ∙ equal-numbers _ _ (omega arith) (omega arith))
    _ c.le16-h.ensures c.if-eq.true _ c.give_to.ensures

pub returns-else-eq : goal.returns-else-eq
returns-else-eq c =
    let g : length c.args.t.kept ≡ 64 = c.well_formed.0.1.1.0.1.0.1 in
    let d = c.from_att.ensures ∙ ap att_uuid (take_rest c.args.entry.now 2) in
    entry_other c.args.t c.args.entry.now _ d
    c.in-Some.u _ _ (search rules) c.from.ensures (c.eq.ensures ∙ equal-numbers _ _ (omega arith) (omega arith))
    c.requires.0 g c.if-eq.false

pub returns-in-None : goal.returns-in-None
returns-in-None c =
    let g : length c.args.t.kept ≡ 64 = c.well_formed.0.1.1.0.1.0.1 in
    let d = c.from_att.ensures ∙ ap att_uuid (take_rest c.args.entry.now 2) in
    entry-no-uuid c.args.t c.args.entry.now _ d c.requires.0 g (search rules)
