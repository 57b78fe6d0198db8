use Rattle.link_rules.proofs.ReplyLaws.{reply-none, reply-some}
use Rattle.link_signals.proofs.reply.Goals as goal

pub returns-in-None : goal.returns-in-None
returns-in-None g c = reply-none _ _ _ c.in-None.is

pub returns-in-Some : goal.returns-in-Some
returns-in-Some g c = reply-some _ _ _ _ _ c.in-Some.is c.send.ensures
