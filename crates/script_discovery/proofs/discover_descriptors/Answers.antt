use mathlib.Core.Path.{ap, ◌∙◌}
use native.Mathlib.Omega.{arith}
use lib.ListN.{length}
use Rattle.att_pdu.proofs.PduLaws.{length-find_information_req}
use Rattle.script_rules.proofs.DiscoveryLaws.{room-seven}
use Rattle.script_discovery.proofs.DiscoveryLaws.{asked-thus, may-ask, none_left, some_left}
use Rattle.script_discovery.proofs.discover_descriptors.Goals as goal

pub request-requires : goal.request-requires
request-requires c =
    let l = ap length c.find_information_req-pdu.ensures ∙ length-find_information_req _ _ in (
      may-ask c.args.t _ _ _ _ _
          c.ask_from-u.ensures (room-seven _ c.requires.0)
          (omega (arith, l)),
      omega (arith, l),
    )

pub returns-in-None : goal.returns-in-None
returns-in-None c =
    none_left c.args.t _ _ _ _ _ _ _
    c.descriptor_range.ensures _ _ _ c.in-None.is
    c.end_turn.ensures

pub returns-in-Some : goal.returns-in-Some
returns-in-Some c =
    some_left c.args.t _ _ _ _ _ _ _
    c.descriptor_range.ensures _ _ _ _
    c.in-Some.is
    (asked-thus c.args.t _ _ _ _ _ _ _ _ _
    c.ask_from-u.ensures c.find_information_req-pdu.ensures
    c.request.ensures)
