use Prim.Native.Nat.{◌+◌}
use Rattle.h4_builders.proofs.BuildLaws.{gate-short, gate-long, gate-passed}
use Rattle.h4_builders.proofs.gate.Goals as goal

pub returns-then-not-is_inside-clause-value : goal.returns-then-not-is_inside-clause-value
returns-then-not-is_inside-clause-value c = let a = c.args in gate-short _ a.room (a.n + a.front) a.n a.most c.is_inside.ensures c.if-not-is_inside.true

pub returns-then-most-n-clause-value : goal.returns-then-most-n-clause-value
returns-then-most-n-clause-value c = let a = c.args in gate-long _ a.room (a.n + a.front) a.n a.most c.is_inside.ensures c.if-not-is_inside.false c.if-most-n.true

pub returns-clause-value : goal.returns-clause-value
returns-clause-value c = let a = c.args in gate-passed _ a.room (a.n + a.front) a.n a.most c.is_inside.ensures c.if-not-is_inside.false c.if-most-n.false
