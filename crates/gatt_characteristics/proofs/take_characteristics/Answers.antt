use Rattle.std.proofs.Common.{rules, ◌≡◌, ◌<◌, ◌≤◌, ◌++◌, ◌+◌, get_or, length, arith}
use Rattle.std.specs.List.{copy_within}
use Rattle.std.specs.Slice.Iter.{chunks_exact_rest, chunks_exact_size}
use Rattle.lists.proofs.TakenLaws.{done}
use Rattle.gatt_characteristics.specs.Characteristic.{zero-characteristic}
use Rattle.gatt_characteristics.proofs.AnswerLaws.{found-is, skips, replaces, inserts, stops}
use Rattle.gatt_characteristics.proofs.take_characteristics.Goals as goal
use Rattle.gatt_characteristics.proofs.take_characteristics.Goals.{in-Some-told+then-p-count+then-kept-p, in-Some-told+else-p-count+else-count-eq-MAX_CHARACTERISTICS, else-p-count-via-then-p-count+else-kept-p, else-p-count-via-else-p-count, in_default}

pub returns-then-count-eq-MAX_CHARACTERISTICS : goal.returns-then-count-eq-MAX_CHARACTERISTICS
returns-then-count-eq-MAX_CHARACTERISTICS c =
    let e = c.loop-entry in
    let i = e.invariant.0 in
    let new : c.declared_below-p.result < e.count → (get_or e.kept c.declared_below-p.result zero-characteristic).declaration ≡ c.in-Some-told.c.declaration → ⊥ =
    elim c.else-p-count.branch [
      | else-p-count-via-then-p-count+else-kept-p w ↦ λ h. w.if-kept-p.false
      | else-p-count-via-else-p-count w ↦ λ h. absurd (omega (arith, w.if-p-count.false))
    ] in
    found-is c.args.t e.kept e.count _ _ _
    (stops _ _ _ e.kept e.count _ _ c.in-Some.entry.now (chunks_exact_rest c.next.new.self) i e.invariant.1 (search rules) e.invariant.2 (search rules) _ c.told.ensures
    c.in-Some-told.c c.in-Some-told.is _ c.declared_below-p.ensures.place new (omega arith)) i.upon i.count i.size

pub loop-entry-preserved : goal.loop-entry-preserved
loop-entry-preserved c =
    let e = c.loop-entry in
    let i = e.invariant.0 in
    let u = e.invariant.1 in
    let cut : chunks_exact_rest e.entry-iterator ≡ c.in-Some.entry.now ++ chunks_exact_rest c.next.new.self = search rules in
    let whole : length c.in-Some.entry.now ≡ c.args.len = search rules in
    let same : chunks_exact_size c.next.new.self ≡ c.args.len = search rules in
    elim c.match-told.branch [
      | in-Some-told+then-p-count+then-kept-p w ↦
          let r =
          replaces _ _ _ e.kept e.count _ _ _ _ i u cut e.invariant.2 whole _ c.told.ensures
          w.in-Some-told.c w.in-Some-told.is _ w.declared_below-p.ensures.place _ c.le16-last.ensures w.if-p-count.true w.if-kept-p.true in
          rw (w.kept-is, w.count-is) (r.0, r.1, e.invariant.2, same)
      | in-Some-told+else-p-count+else-count-eq-MAX_CHARACTERISTICS w ↦
          let new : w.declared_below-p.result < e.count → (get_or e.kept w.declared_below-p.result zero-characteristic).declaration ≡ w.in-Some-told.c.declaration → ⊥ =
          elim w.else-p-count.branch [
            | else-p-count-via-then-p-count+else-kept-p w' ↦ λ h. w'.if-kept-p.false
            | else-p-count-via-else-p-count w' ↦ λ h. absurd (omega (arith, w'.if-p-count.false))
          ] in
          let below : w.declared_below-p.result ≤ e.count = search rules in
          let r =
          inserts _ _ _ e.kept e.count _ _ _ _ i u cut e.invariant.2 whole _ c.told.ensures
          w.in-Some-told.c w.in-Some-told.is _ w.declared_below-p.ensures.place new _ c.le16-last.ensures below (omega (arith, i.count)) in
          let moved : w.copy_within.new.self ≡ copy_within e.kept w.declared_below-p.result e.count (w.declared_below-p.result + 1) = search rules in
          rw (w.kept-is, w.count-is, moved) (r.0, r.1, e.invariant.2, same)
      | in_default w ↦
          let r = skips _ _ _ e.kept e.count _ _ _ _ i u cut e.invariant.2 whole _ c.told.ensures _ c.le16-last.ensures (search rules) in
          rw (w.kept-is, w.count-is) (r.0, r.1, e.invariant.2, same)
    ]

pub returns : goal.returns
returns c =
    let e = c.loop-entry in
    let i = e.invariant.0 in
    let short : length (chunks_exact_rest e.entry-iterator) < c.args.len = search rules in
    found-is c.args.t e.kept e.count _ _ _ (done _ _ _ _ _ _ e.kept e.count _ _ i short) i.upon i.count i.size
