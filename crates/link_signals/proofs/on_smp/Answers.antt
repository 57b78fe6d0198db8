use Rattle.link_rules.proofs.ReplyLaws.{smp-law}
use Rattle.link_signals.proofs.on_smp.Goals as goal

pub returns : goal.returns
returns c = smp-law _ c.args.store.now c.args.n _ _ c.on_smp-answer.ensures c.reply.ensures
