use Rattle.link_rules.proofs.ReplyLaws.{asks_nothing, asks-update}
use Rattle.link_signals.proofs.ask_update.Goals as goal

pub returns-in-None : goal.returns-in-None
returns-in-None c = asks_nothing _ _ c.in-None.is

pub returns-in-Some : goal.returns-in-Some
returns-in-Some c = asks-update _ _ _ c.in-Some.is
