use Rattle.link_rules.proofs.ReplyLaws.{confirms, says_nothing}
use Rattle.link_replies.proofs.confirm.Goals as goal

pub returns-then-indication : goal.returns-then-indication
returns-then-indication c = confirms _ _ _ _ c.if-indication.true c.confirmation-pdu.ensures c.send.ensures

pub returns : goal.returns
returns c = says_nothing _ _ c.if-indication.false
