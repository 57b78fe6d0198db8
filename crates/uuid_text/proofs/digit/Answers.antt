use mathlib.Core.Logic.{inl, inr}
use native.Mathlib.Omega.{arith}
use Rattle.uuid_text.proofs.Laws.{decimal, upper, lower, no_digit, a-digit, not-digit}
use Rattle.uuid_text.proofs.digit.Goals as goal

pub returns-in-48-to-57 : goal.returns-in-48-to-57
returns-in-48-to-57 c = a-digit c.args.b _ (decimal c.args.b (omega arith) (omega arith)) (omega arith)

pub returns-in-65-to-70 : goal.returns-in-65-to-70
returns-in-65-to-70 c = a-digit c.args.b _ (upper c.args.b (omega arith) (omega arith)) (omega arith)

pub returns-in-97-to-102 : goal.returns-in-97-to-102
returns-in-97-to-102 c = a-digit c.args.b _ (lower c.args.b (omega arith) (omega arith)) (omega arith)

pub returns-in_default : goal.returns-in_default
returns-in_default c = not-digit c.args.b (no_digit c.args.b (inl (omega arith)) (inl (omega arith)) (inl (omega arith)))

pub returns-in_default-2 : goal.returns-in_default-2
returns-in_default-2 c = not-digit c.args.b (no_digit c.args.b (inr (omega arith)) (inl (omega arith)) (inl (omega arith)))

pub returns-in_default-3 : goal.returns-in_default-3
returns-in_default-3 c = not-digit c.args.b (no_digit c.args.b (inr (omega arith)) (inr (omega arith)) (inl (omega arith)))

pub returns-in_default-4 : goal.returns-in_default-4
returns-in_default-4 c = not-digit c.args.b (no_digit c.args.b (inr (omega arith)) (inr (omega arith)) (inr (omega arith)))
