use Rattle.link_replies.proofs.ReplyLaws.{exchange-law}
use Rattle.link_replies.proofs.exchange.Goals as goal

pub returns : goal.returns
returns c =
    exchange-law c.args.t _ _ _ _ _ _ _
    c.exchange_mtu_rsp-pdu.ensures c.send-told.ensures
    c.clamp.ensures c.agreed-core.ensures
