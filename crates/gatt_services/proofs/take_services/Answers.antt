use Rattle.std.proofs.Common.{rules, ◌≡◌, ◌<◌, ◌++◌, length, arith}
use Rattle.std.specs.Slice.Iter.{chunks_exact_rest}
use Rattle.lists.proofs.TakenLaws.{done}
use Rattle.gatt_services.proofs.ServiceLaws.{found-is, skips, known-skips, enters, stops}
use Rattle.gatt_services.proofs.take_services.Goals as goal
use Rattle.gatt_services.proofs.take_services.Goals.{in-Some-told+then-not-is_listed+else-count-eq-MAX_SERVICES, in-Some-told+else-not-is_listed, in_default}

pub returns-then-count-eq-MAX_SERVICES : goal.returns-then-count-eq-MAX_SERVICES
returns-then-count-eq-MAX_SERVICES c =
    let e = c.loop-entry in
    let i = e.invariant.0 in
    found-is c.args.t e.kept e.count _ _ _
    (stops _ _ _ e.kept e.count _ _ c.in-Some.entry.now (chunks_exact_rest c.next.new.self) i (search rules) e.invariant.1 (search rules) _ c.told.ensures
    c.in-Some-told.new c.in-Some-told.is (search rules) (omega arith)) i.upon i.count i.size

pub loop-entry-preserved : goal.loop-entry-preserved
loop-entry-preserved c =
    let e = c.loop-entry in
    let i = e.invariant.0 in
    let cut : chunks_exact_rest e.entry-iterator ≡ c.in-Some.entry.now ++ chunks_exact_rest c.next.new.self = search rules in
    let whole : length c.in-Some.entry.now ≡ c.args.len = search rules in (
      elim c.match-told.branch [
        | in-Some-told+then-not-is_listed+else-count-eq-MAX_SERVICES w ↦
            rw (w.kept-is, w.count-is) (enters _ _ _ e.kept e.count _ _ _ _ i cut e.invariant.1 whole _ c.told.ensures _ c.le16-last.ensures
            w.in-Some-told.new w.in-Some-told.is (search rules) (omega (arith, i.count)))
        | in-Some-told+else-not-is_listed w ↦
            rw (w.kept-is, w.count-is) (known-skips _ _ _ e.kept e.count _ _ _ _ i cut e.invariant.1 whole _ c.told.ensures _ c.le16-last.ensures
            w.in-Some-told.new w.in-Some-told.is (search rules))
        | in_default w ↦
            rw (w.kept-is, w.count-is) (skips _ _ _ e.kept e.count _ _ _ _ i cut e.invariant.1 whole _ c.told.ensures _ c.le16-last.ensures (search rules))
      ],
      e.invariant.1,
      search rules,
    )

pub returns : goal.returns
returns c =
    let e = c.loop-entry in
    let i = e.invariant.0 in
    let short : length (chunks_exact_rest e.entry-iterator) < c.args.len = search rules in
    found-is c.args.t e.kept e.count _ _ _ (done _ _ _ _ _ _ e.kept e.count _ _ i short) i.upon i.count i.size
