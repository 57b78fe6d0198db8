use lib.ListN.{get_or}
use mathlib.Core.List.{List}
use Prim.Native.Nat.{ℕ}
use Rattle.link_rules.proofs.PayloadLaws.{of-payload}
use Rattle.link_payload.proofs.byte.Goals as goal

pub returns : goal.returns
returns c = of-payload (λ (x : List ℕ). get_or x c.args.i 0) c.args.store.now c.args.n _ c.byte_of.ensures
