use borrow.Author.Rules.{rules}
use Rattle.h4_acl.proofs.FragmentLaws.{flag-starts, flag-continues, flag-other}
use Rattle.h4_acl.proofs.begins.Goals as goal

pub returns-in-0 : goal.returns-in-0
returns-in-0 c = flag-starts c.args.flag c.in-0.is

pub returns-in-1 : goal.returns-in-1
returns-in-1 c = flag-continues c.args.flag c.in-1.is

pub returns-in_default : goal.returns-in_default
returns-in_default c = flag-other c.args.flag (search rules) (search rules)
