use Rattle.link_questions.proofs.QuestionLaws.{asks-mtu, asks-all, asks_none, asks-in}
use Rattle.link_questions.proofs.asked_by.Goals as goal

pub returns-then-phase-eq0 : goal.returns-then-phase-eq0
returns-then-phase-eq0 c = asks-all _ _ c.in-DiscoverServices.is c.if-phase-eq0.true

pub returns-in-ExchangeMtu : goal.returns-in-ExchangeMtu
returns-in-ExchangeMtu c = asks-mtu _ _ _ c.in-ExchangeMtu.is

pub returns-else-phase-eq0 : goal.returns-else-phase-eq0
returns-else-phase-eq0 c = asks_none _ _ c.in-DiscoverServices.is c.if-phase-eq0.false

pub returns-in-DiscoverCharacteristics : goal.returns-in-DiscoverCharacteristics
returns-in-DiscoverCharacteristics c = asks-in _ _ _ _ c.in-DiscoverCharacteristics.is c.asked_in.ensures
