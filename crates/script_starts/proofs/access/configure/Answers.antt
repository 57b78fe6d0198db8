use Rattle.script_rules.proofs.LinkedLaws.{configure-law}
use Rattle.script_starts.proofs.access.configure.Goals as goal

pub returns-then-indicate : goal.returns-then-indicate
returns-then-indicate c = configure-law _ _ _ _ _ c.lo.ensures c.hi.ensures c.if-indicate.true

pub returns-else-indicate : goal.returns-else-indicate
returns-else-indicate c = configure-law _ _ _ _ _ c.lo-else-indicate.ensures c.hi-else-indicate.ensures c.if-indicate.false
