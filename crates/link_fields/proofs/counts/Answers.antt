use Rattle.link_rules.specs.Payload.{payload_at}
use Rattle.lists.specs.Blocks.{bytes}
use Rattle.link_rules.proofs.AnswerLaws.{none-awaited, error-counts, response-counts}
use Rattle.link_fields.proofs.counts.Goals as goal

pub returns-then-pending-eq0 : goal.returns-then-pending-eq0
returns-then-pending-eq0 c = none-awaited _ (bytes c.args.store.now payload_at c.args.n) c.if-pending-eq0.true

pub returns-then-op-eq-ERROR_RSP : goal.returns-then-op-eq-ERROR_RSP
returns-then-op-eq-ERROR_RSP c = error-counts _ (bytes c.args.store.now payload_at c.args.n) _ _ c.if-pending-eq0.false c.byte-op.ensures c.if-op-eq-ERROR_RSP.true c.byte-named.ensures

pub returns : goal.returns
returns c = response-counts _ (bytes c.args.store.now payload_at c.args.n) _ c.if-pending-eq0.false c.byte-op.ensures c.if-op-eq-ERROR_RSP.false
