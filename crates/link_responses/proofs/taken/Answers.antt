use Rattle.link_responses.proofs.ResponseLaws.{taken-idle, taken-error, taken-answer}
use Rattle.state_core.specs.Reading.{world}
use mathlib.Core.Path.{◌∙◌}
use Rattle.link_responses.proofs.taken.Goals as goal

pub returns-then-opcode-eq-ERROR_RSP : goal.returns-then-opcode-eq-ERROR_RSP
returns-then-opcode-eq-ERROR_RSP c =
    let a =
    c.args in
    let w = world a.t a.tables.now a.store.now a.out.now in
    c.failed.ensures
    ∙ taken-error w a.at a.n _ _ (c.if-running.true)
    (c.asked_by-a.ensures)
    (c.byte-opcode.ensures) _
    (c.if-opcode-eq-ERROR_RSP.true)
    (c.byte-code.ensures)

pub returns-then-running : goal.returns-then-running
returns-then-running c =
    let a = c.args in
    let w = world a.t a.tables.now a.store.now a.out.now in
    c.present.ensures
    ∙ taken-answer w a.at a.n _ _ (c.if-running.true)
    (c.asked_by-a.ensures)
    (c.byte-opcode.ensures)
    (c.if-opcode-eq-ERROR_RSP.false)

pub returns : goal.returns
returns c =
    let a = c.args in
    let w = world a.t a.tables.now a.store.now a.out.now in
    taken-idle w a.at a.n (c.if-running.false)
