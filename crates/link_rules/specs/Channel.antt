-- A frame's payload goes by its channel (Core Vol 3 Part A 3.1, 2.1; 01, 'Rules of the link').
use Rattle.std.specs.Prelude.{ℕ, eqb}
use Rattle.bytes_base.specs.Choice.{pick}
use Rattle.time.specs.declared.Micros.{Micros}
use Rattle.l2cap.specs.Numbers.{cid_att, cid_signaling, cid_smp}
use Rattle.script_rules.specs.World.{World, on_told}
use Rattle.link_rules.specs.Payload.{payload}
use Rattle.link_rules.specs.Replies.{on_signaling, on_smp}
use Rattle.link_rules.specs.Att.{on_att}

-- n bytes of payload; other channels get nothing
unfoldable pub on_channel : World → Micros → ℕ → ℕ → World
on_channel w at channel n =
    pick (eqb channel cid_att)
    (on_att w at n)
    (pick (eqb channel cid_signaling)
    (on_told w (on_signaling w.told (payload w.held n)))
    (pick (eqb channel cid_smp) (on_told w (on_smp w.told (payload w.held n))) w))
