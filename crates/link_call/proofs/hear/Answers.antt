use Rattle.state_core.specs.Reading.{world}
use Rattle.link_call.proofs.FrameLaws.{hear-drops, hear-may, hear-gathers}
use Rattle.link_call.proofs.hear.Goals as goal

pub returns-then-is_dropped : goal.returns-then-is_dropped
returns-then-is_dropped c = hear-drops (world c.args.t c.args.tables.now c.args.store.now c.args.out.now) c.args.at c.args.start c.args.fragment.now _ (c.is_dropped.ensures) (c.if-is_dropped.true)

pub gather-requires : goal.gather-requires
gather-requires c = hear-may (world c.args.t c.args.tables.now c.args.store.now c.args.out.now) c.args.at c.args.start c.args.fragment.now _ (c.is_dropped.ensures) (c.if-is_dropped.false) c.requires

pub returns : goal.returns
returns c = hear-gathers (world c.args.t c.args.tables.now c.args.store.now c.args.out.now) c.args.at c.args.start c.args.fragment.now _ (c.is_dropped.ensures) (c.if-is_dropped.false) _ (c.gather.ensures)
