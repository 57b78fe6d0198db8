use Rattle.state_core.specs.Reading.{world}
use Rattle.link_call.proofs.FrameLaws.{channel-att, channel-signaling, channel-smp, channel-else}
use Rattle.link_call.proofs.on_channel.Goals as goal

pub returns-in-4 : goal.returns-in-4
returns-in-4 c = channel-att (world c.args.t c.args.tables.now c.args.store.now c.args.out.now) c.args.at c.args.channel c.args.n (c.in-4.is) _ (c.on_att.ensures)

pub returns-in-5 : goal.returns-in-5
returns-in-5 c = channel-signaling (world c.args.t c.args.tables.now c.args.store.now c.args.out.now) c.args.at c.args.channel c.args.n (c.in-5.is) _ (c.on_signaling-told.ensures)

pub returns-in-6 : goal.returns-in-6
returns-in-6 c = channel-smp (world c.args.t c.args.tables.now c.args.store.now c.args.out.now) c.args.at c.args.channel c.args.n (c.in-6.is) _ (c.on_smp-told.ensures)

pub returns-in_default : goal.returns-in_default
returns-in_default c = channel-else (world c.args.t c.args.tables.now c.args.store.now c.args.out.now) c.args.at c.args.channel c.args.n (c.in_default.in_default-own.rest.0.0.1) (c.in_default.in_default-own.rest.0.1) (c.in_default.in_default-own.rest.1)
