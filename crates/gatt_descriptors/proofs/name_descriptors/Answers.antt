use Rattle.std.proofs.Common.{rules, ◌≡◌, ◌<◌, ◌++◌, length}
use Rattle.std.specs.Slice.Iter.{chunks_exact_rest}
use Rattle.gatt_descriptors.proofs.NamedLaws.{names, named-all}
use Rattle.gatt_descriptors.proofs.name_descriptors.Goals as goal

pub loop-entry-preserved : goal.loop-entry-preserved
loop-entry-preserved c =
    let l = c.loop-entry in
    let cut : chunks_exact_rest l.entry-iterator ≡ c.in-Some.entry.now ++ chunks_exact_rest c.next.new.self = search rules in
    let whole : length c.in-Some.entry.now ≡ c.args.len = search rules in
    (names _ l.table _ _ _ _ _ l.invariant.0 _ _ cut l.invariant.1 whole _ c.name_one-table.ensures _ c.le16.ensures, l.invariant.1, search rules)

pub returns : goal.returns
returns c =
    let l = c.loop-entry in
    let short : length (chunks_exact_rest l.entry-iterator) < c.args.len = search rules in
    named-all _ l.table _ _ _ _ _ l.invariant.0 short
