use Rattle.att_pdu.specs.Numbers.{op_write_rsp}
use Rattle.state.specs.declared.StepStatus.TheVariants.{Ok}
use Rattle.script_rules.specs.World.{World}
use Rattle.link_rules.specs.Moves.{over}
use Rattle.link_answers.proofs.AnswerLaws.{told-law, not-told}
use Rattle.link_answers.proofs.written.Goals as goal

pub returns-then-opcode-eq-WRITE_RSP : goal.returns-then-opcode-eq-WRITE_RSP
returns-then-opcode-eq-WRITE_RSP c =
    let a = c.args in
    told-law a.t a.tables.now a.store.now a.n _ op_write_rsp c.byte-opcode.ensures _ _ _ (λ (w : World). over w a.at Ok)
    c.if-opcode-eq-WRITE_RSP.true c.end_turn.ensures

pub returns : goal.returns
returns c =
    let a = c.args in
    not-told a.t a.tables.now a.store.now a.n _ op_write_rsp c.byte-opcode.ensures (λ (w : World). over w a.at Ok) c.if-opcode-eq-WRITE_RSP.false
