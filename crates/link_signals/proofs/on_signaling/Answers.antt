use Rattle.link_rules.proofs.ReplyLaws.{signaling-law}
use Rattle.link_signals.proofs.on_signaling.Goals as goal

pub returns : goal.returns
returns c = signaling-law _ c.args.store.now c.args.n _ _ _ _ c.on_signaling-answer.ensures c.reply-told.ensures c.ask_update.ensures
