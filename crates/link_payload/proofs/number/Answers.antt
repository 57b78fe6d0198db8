use Rattle.bytes_base.specs.Bytes.{le_at}
use mathlib.Core.List.{List}
use Prim.Native.Nat.{ℕ}
use Rattle.link_rules.proofs.PayloadLaws.{of-payload}
use Rattle.link_payload.proofs.number.Goals as goal

pub returns : goal.returns
returns c = of-payload (λ (x : List ℕ). le_at 2 x c.args.i) c.args.store.now c.args.n _ c.le16.ensures
