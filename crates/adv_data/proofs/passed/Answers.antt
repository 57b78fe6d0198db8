use Rattle.adv_data.proofs.Seeks.{passed-even, passed-odd}
use Rattle.adv_data.proofs.passed.Goals as goal

pub returns-then-kind-eq0 : goal.returns-then-kind-eq0
returns-then-kind-eq0 c =
    let a = c.args in
    passed-even a.kind a.«before» c.requires c.if-kind-eq0.true

pub returns : goal.returns
returns c =
    let a = c.args in
    passed-odd a.kind a.«before» c.requires c.if-kind-eq0.false
