use Rattle.link_rules.proofs.ReplyLaws.{refuse-law}
use Rattle.link_signals.proofs.refuse.Goals as goal

pub returns : goal.returns
returns c = refuse-law _ _ _ _ _ _ c.att_error-pdu.ensures c.send.ensures
