use mathlib.Core.Path.{ap}
use Rattle.script_rules.specs.World.{Held, on_held}
use Rattle.state_core.specs.Reading.{world}
use Rattle.link_call.proofs.FrameLaws.{gather-may, gather-read, gather-rests}
use Rattle.link_call.proofs.gather.Goals as goal

pub frame_read-requires : goal.frame_read-requires
frame_read-requires c = gather-may (world c.args.t c.args.tables.now c.args.store.now c.args.out.now) c.args.at c.args.start c.args.fragment.now c.requires _ (ap (λ (h : Held). on_held (world c.args.t c.args.tables.now c.args.store.now c.args.out.now) h) (c.gather-core.ensures c.args.tables.now)) _ (c.is_whole.ensures c.args.tables.now) (c.if-is_whole.true)

pub returns-then-is_whole : goal.returns-then-is_whole
returns-then-is_whole c = gather-read (world c.args.t c.args.tables.now c.args.store.now c.args.out.now) c.args.at c.args.start c.args.fragment.now c.requires _ (ap (λ (h : Held). on_held (world c.args.t c.args.tables.now c.args.store.now c.args.out.now) h) (c.gather-core.ensures c.args.tables.now)) _ (c.is_whole.ensures c.args.tables.now) (c.if-is_whole.true) _ (c.frame_read.ensures)

pub returns : goal.returns
returns c = gather-rests (world c.args.t c.args.tables.now c.args.store.now c.args.out.now) c.args.at c.args.start c.args.fragment.now c.requires _ (ap (λ (h : Held). on_held (world c.args.t c.args.tables.now c.args.store.now c.args.out.now) h) (c.gather-core.ensures c.args.tables.now)) _ (c.is_whole.ensures c.args.tables.now) (c.if-is_whole.false)
