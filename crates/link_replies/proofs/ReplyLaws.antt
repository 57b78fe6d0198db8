-- What the return of an MTU exchange asks, from what its callees ensure.
use Prim.Native.Nat.{ℕ, max, min}
use mathlib.Core.Path.{◌≡◌, ap, ap₂, ◌∙◌}
use mathlib.Core.List.{List}
use Rattle.l2cap.specs.Numbers.{cid_att}
use Rattle.att_pdu.specs.Pdu.{exchange_mtu_rsp}
use Rattle.state_rules.specs.Steps.{default_mtu, most_mtu}
use Rattle.state.specs.Central as state
use Rattle.state.specs.declared.Bearer.{Bearer}
use Rattle.state.specs.declared.Sent.{Sent}
use Rattle.script_rules.specs.World.{Told, told}
use Rattle.script_rules.specs.Send.{send}
use Rattle.link_record.specs.Record.{agreed, with_link}
use Rattle.link_rules.specs.Replies.{exchange}
use Rattle.state_core.specs.declared.Turn.{Turn}
use Rattle.state_core.specs.Reading.{central, world, with_bearer}

pub exchange-law : (t : Turn) (b : Bearer) (n : Sent) (out out' pdu : List ℕ) (theirs mtu : ℕ)
    → pdu ≡ exchange_mtu_rsp most_mtu → told n out' ≡ send (told t.sent out) cid_att pdu
    → mtu ≡ max default_mtu (min theirs most_mtu) → b ≡ with_link t.core.bearer (agreed t.core.bearer.link mtu)
    → (w s : List ℕ) → world (record { core = with_bearer t.core b; sent = n }) w s out' ≡ exchange (world t w s out) theirs
unfolding exchange
exchange-law t b n out out' pdu theirs mtu e₁ e₂ e₃ e₄ w s =
    ap₂ (λ (y : Bearer) (x : Told). record { held = record { state = state.with_bearer (central t.core w) y; store = s }; told = x })
    (e₄ ∙ ap (λ (m : ℕ). with_link t.core.bearer (agreed t.core.bearer.link m)) e₃)
    (e₂ ∙ ap (send (told t.sent out) cid_att) e₁)
