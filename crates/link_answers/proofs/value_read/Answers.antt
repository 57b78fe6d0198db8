use Rattle.att_pdu.specs.Numbers.{op_read_rsp}
use Rattle.script_rules.specs.World.{World}
use Rattle.link_rules.specs.Moves.{value_read}
use Rattle.link_answers.proofs.AnswerLaws.{some_byte, told-law, not-told}
use Rattle.link_answers.proofs.value_read.Goals as goal

pub overflow_sub-len : goal.overflow_sub-len
overflow_sub-len c = some_byte _ _ _ c.byte-opcode.ensures c.if-opcode-eq-READ_RSP.true

pub returns-then-opcode-eq-READ_RSP : goal.returns-then-opcode-eq-READ_RSP
returns-then-opcode-eq-READ_RSP c =
    let a = c.args in
    told-law a.t a.tables.now a.store.now a.n _ op_read_rsp c.byte-opcode.ensures _ _ _ (λ (w : World). value_read w a.at a.n)
    c.if-opcode-eq-READ_RSP.true c.finish_turn.ensures

pub returns : goal.returns
returns c =
    let a = c.args in
    not-told a.t a.tables.now a.store.now a.n _ op_read_rsp c.byte-opcode.ensures (λ (w : World). value_read w a.at a.n) c.if-opcode-eq-READ_RSP.false
