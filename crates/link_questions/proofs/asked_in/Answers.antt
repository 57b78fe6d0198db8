use Rattle.link_questions.proofs.QuestionLaws.{asked-services, asked-characteristics, asked-descriptors}
use Rattle.link_questions.proofs.asked_in.Goals as goal

pub returns-then-phase-eq0 : goal.returns-then-phase-eq0
returns-then-phase-eq0 c = asked-services c.args.uuid _ c.if-phase-eq0.true

pub returns-then-phase-eq1 : goal.returns-then-phase-eq1
returns-then-phase-eq1 c = asked-characteristics c.args.uuid _ c.if-phase-eq0.false c.if-phase-eq1.true

pub returns : goal.returns
returns c = asked-descriptors c.args.uuid _ c.if-phase-eq0.false c.if-phase-eq1.false
