use mathlib.Core.Path.{ap, ◌∙◌}
use native.Mathlib.Omega.{arith}
use lib.ListN.{length}
use Rattle.att_pdu.proofs.PduLaws.{length-read_by_type_req}
use Rattle.script_rules.proofs.DiscoveryLaws.{room-seven, past_end, at_zero, within_end}
use Rattle.script_discovery.proofs.DiscoveryLaws.{asked-thus, may-ask}
use Rattle.script_discovery.proofs.discover_characteristics.Goals as goal

pub returns-then-end-from : goal.returns-then-end-from
returns-then-end-from c = c.discover_descriptors.ensures ∙ past_end _ _ _ _ c.if-end-from.true

pub returns-then-from-eq0 : goal.returns-then-from-eq0
returns-then-from-eq0 c =
    c.discover_descriptors-then-from-eq0.ensures ∙ at_zero _ _ _ _
    c.if-end-from.false c.if-from-eq0.true

pub request-requires : goal.request-requires
request-requires c =
    let l = ap length c.read_by_type_req-pdu.ensures ∙ length-read_by_type_req _ _ _ in (
      may-ask c.args.t _ _ _ _ _ c.ask_from-u.ensures
          (room-seven _ c.requires.0) (omega (arith, l)),
      omega (arith, l),
    )

pub returns : goal.returns
returns c =
    asked-thus c.args.t _ _ _ _ _ _ _ _ _
    c.ask_from-u.ensures c.read_by_type_req-pdu.ensures
    c.request.ensures _ _
    ∙ within_end _ _ _ _ c.if-end-from.false c.if-from-eq0.false
