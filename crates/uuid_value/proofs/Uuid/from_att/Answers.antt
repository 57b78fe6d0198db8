use native.Mathlib.Omega.{arith}
use Rattle.uuid_value.proofs.Laws.{read-two, read-sixteen, read_none}
use Rattle.uuid_value.proofs.Uuid.from_att.Goals as goal

pub returns-in-2 : goal.returns-in-2
returns-in-2 c = read-two c.args.bytes.now c.from.result c.le16.result (omega arith) c.le16.ensures c.from.ensures

pub returns-in-16 : goal.returns-in-16
returns-in-16 c = read-sixteen c.args.bytes.now c.from_128.result (omega arith) c.from_128.ensures

pub returns-in_default : goal.returns-in_default
returns-in_default c = read_none c.args.bytes.now (λ p. omega arith) (λ p. omega arith)
