use mathlib.Core.Path.{ap}
use Rattle.state.specs.Central.{Central}
use Rattle.script_rules.specs.World.{on_held, on_state}
use Rattle.state_core.specs.Reading.{world}
use Rattle.link_call.proofs.FrameLaws.{may-channel, may-advance, read_done}
use Rattle.link_call.proofs.frame_read.Goals as goal

pub on_channel-u-requires : goal.on_channel-u-requires
on_channel-u-requires c = may-channel (world c.args.t c.args.tables.now c.args.store.now c.args.out.now) c.args.at c.requires _ _ (c.frame_length-n.ensures) (c.frame_channel-channel.ensures) _ (ap (λ (x : Central). on_held (world c.args.t c.args.tables.now c.args.store.now c.args.out.now) (on_state (world c.args.t c.args.tables.now c.args.store.now c.args.out.now).held x)) (c.with_held-core.ensures c.args.tables.now))

pub advance-requires : goal.advance-requires
advance-requires c = may-advance (world c.args.t c.args.tables.now c.args.store.now c.args.out.now) c.args.at c.requires _ _ (c.frame_length-n.ensures) (c.frame_channel-channel.ensures) _ (ap (λ (x : Central). on_held (world c.args.t c.args.tables.now c.args.store.now c.args.out.now) (on_state (world c.args.t c.args.tables.now c.args.store.now c.args.out.now).held x)) (c.with_held-core.ensures c.args.tables.now)) _ (c.on_channel-u.ensures)

pub returns : goal.returns
returns c = read_done (world c.args.t c.args.tables.now c.args.store.now c.args.out.now) c.args.at c.requires _ _ (c.frame_length-n.ensures) (c.frame_channel-channel.ensures) _ (ap (λ (x : Central). on_held (world c.args.t c.args.tables.now c.args.store.now c.args.out.now) (on_state (world c.args.t c.args.tables.now c.args.store.now c.args.out.now).held x)) (c.with_held-core.ensures c.args.tables.now)) _ (c.on_channel-u.ensures) _ (c.advance.ensures)
