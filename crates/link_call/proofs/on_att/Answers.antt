use native.Mathlib.Omega.{arith}
use mathlib.Core.Logic.{inl, inr}
use mathlib.Core.Path.{refl}
use Rattle.link_rules.proofs.AttLaws.{empty, on_value, on-short, on-exchange, on-search, on-access, on-silent, on-later, on-even, on-odd, on-other}
use Rattle.state_core.specs.Reading.{world}
use Rattle.link_call.proofs.on_att.Goals as goal
use Rattle.link_call.proofs.on_att.Goals.{in-3-1, in_default+then-opcode-lt27}

pub returns-then-n-eq0 : goal.returns-then-n-eq0
returns-then-n-eq0 c = empty _ _ _ (c.if-n-eq0.true)

pub returns-then-n-ge-ATT_HEAD : goal.returns-then-n-ge-ATT_HEAD
returns-then-n-ge-ATT_HEAD c = on_value (world c.args.t c.args.tables.now c.args.store.now c.args.out.now) _ _ _ _ (c.if-n-eq0.false) (c.byte-opcode.ensures) (c.number-handle.ensures) _ (c.in-27.is) (c.if-n-ge-ATT_HEAD.true) (c.notice.ensures)

pub returns-else-n-ge-ATT_HEAD : goal.returns-else-n-ge-ATT_HEAD
returns-else-n-ge-ATT_HEAD c = on-short (world c.args.t c.args.tables.now c.args.store.now c.args.out.now) _ _ _ _ (c.if-n-eq0.false) (c.byte-opcode.ensures) (c.number-handle.ensures) _ (c.in-27.is) (c.if-n-ge-ATT_HEAD.false) (c.on_response.ensures)

pub returns-in-2 : goal.returns-in-2
returns-in-2 c = on-exchange (world c.args.t c.args.tables.now c.args.store.now c.args.out.now) _ _ _ _ (c.if-n-eq0.false) (c.byte-opcode.ensures) (c.number-handle.ensures) _ (c.in-2.is) (c.exchange.ensures _ _)

pub returns-in-4 : goal.returns-in-4
returns-in-4 c = on-search (world c.args.t c.args.tables.now c.args.store.now c.args.out.now) _ _ _ _ (c.if-n-eq0.false) (c.byte-opcode.ensures) (c.number-handle.ensures) _ (c.in-4.is) (c.refuse.ensures _ _)

pub returns-in-10 : goal.returns-in-10
returns-in-10 c = on-access (world c.args.t c.args.tables.now c.args.store.now c.args.out.now) _ _ _ _ (c.if-n-eq0.false) (c.byte-opcode.ensures) (c.number-handle.ensures) _ (c.in-10.is) (c.refuse-in-10.ensures _ _)

pub returns-in-82 : goal.returns-in-82
returns-in-82 c = on-silent (world c.args.t c.args.tables.now c.args.store.now c.args.out.now) _ _ _ _ (c.if-n-eq0.false) (c.byte-opcode.ensures) (c.number-handle.ensures) _ (c.in-82.is) refl

pub returns-in-32 : goal.returns-in-32
returns-in-32 c = on-later (world c.args.t c.args.tables.now c.args.store.now c.args.out.now) _ _ _ _ (c.if-n-eq0.false) (c.byte-opcode.ensures) (c.number-handle.ensures) _ (c.in-32.is) (c.refuse-in-32.ensures _ _)

pub returns-in_default : goal.returns-in_default
returns-in_default c = on-other (world c.args.t c.args.tables.now c.args.store.now c.args.out.now) _ _ _ _ (c.if-n-eq0.false) (c.byte-opcode.ensures) (c.number-handle.ensures) _ (c.in_default.in_default-own.rest) (omega arith) (c.on_response-in_default.ensures)

pub returns-then-opcode-eq0 : goal.returns-then-opcode-eq0
returns-then-opcode-eq0 c = on-even (world c.args.t c.args.tables.now c.args.store.now c.args.out.now) _ _ _ _ (c.if-n-eq0.false) (c.byte-opcode.ensures) (c.number-handle.ensures) _ (elim c.in-0-to-26-1.branch [ in-3-1 w ↦ inl w.in-3-1.keys6 | in_default+then-opcode-lt27 w ↦ inr (w.in_default-1.rest, w.if-opcode-lt27-1.true) ]) (c.if-opcode-eq0.true) (c.refuse-then-opcode-eq0.ensures _ _)

pub returns-else-opcode-eq0 : goal.returns-else-opcode-eq0
returns-else-opcode-eq0 c = on-odd (world c.args.t c.args.tables.now c.args.store.now c.args.out.now) _ _ _ _ (c.if-n-eq0.false) (c.byte-opcode.ensures) (c.number-handle.ensures) _ (elim c.in-0-to-26-1.branch [ in-3-1 w ↦ inl w.in-3-1.keys6 | in_default+then-opcode-lt27 w ↦ inr (w.in_default-1.rest, w.if-opcode-lt27-1.true) ]) (c.if-opcode-eq0.false) (c.on_response-else-opcode-eq0.ensures)
