use native.Mathlib.Omega.{arith}
use Rattle.uuid_value.proofs.Laws.{whole, none}
use Rattle.uuid_value.proofs.Uuid.from_128.Goals as goal
use Rattle.uuid_value.proofs.Uuid.from_128.Goals.{else-s-ge-LONG_LEN-via-then-s-ge-LONG_LEN+else-at-s, else-s-ge-LONG_LEN-via-else-s-ge-LONG_LEN}

pub returns-then-at-s : goal.returns-then-at-s
returns-then-at-s c =
    let a = c.args in
    whole a.s.now a.at c.le64.result c.le64-then-at-s.result (omega arith) (omega arith) c.le64.ensures c.le64-then-at-s.ensures

pub returns : goal.returns
returns c =
    let a = c.args in
    elim c.else-s-ge-LONG_LEN.branch [ else-s-ge-LONG_LEN-via-then-s-ge-LONG_LEN+else-at-s w ↦ none a.s.now a.at (omega arith) | else-s-ge-LONG_LEN-via-else-s-ge-LONG_LEN w ↦ none a.s.now a.at (omega arith) ]
