use Prim.Native.Nat.{◌-◌}
use mathlib.Core.Path.{◌∙◌}
use native.Mathlib.Omega.{arith}
use lib.ListN.{length, drop, length-drop}
use lib.Seq.{take_all}
use Rattle.uuid_text.proofs.Laws.{after_plus, no_plus, empty}
use Rattle.uuid_text.proofs.unsigned.Goals as goal

pub returns-in-43 : goal.returns-in-43
returns-in-43 c =
    let s = c.args.text.now in
    take_all (length s - 1) (drop 1 s) (rw length-drop (omega arith)) ∙ after_plus s (omega arith) (omega arith)

pub returns-in_default : goal.returns-in_default
returns-in_default c = empty c.args.text.now (omega arith)

pub returns-in_default-2 : goal.returns-in_default-2
returns-in_default-2 c = no_plus c.args.text.now (λ p. omega arith)
