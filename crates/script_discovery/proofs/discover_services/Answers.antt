use mathlib.Core.Path.{ap, ◌∙◌}
use native.Mathlib.Omega.{arith}
use lib.ListN.{length}
use Rattle.att_pdu.proofs.PduLaws.{length-read_by_group_type_req}
use Rattle.script_discovery.proofs.DiscoveryLaws.{asked-thus, may-ask, services-asked}
use Rattle.script_discovery.proofs.discover_services.Goals as goal

pub request-requires : goal.request-requires
request-requires c =
    let l = ap length c.read_by_group_type_req-pdu.ensures ∙ length-read_by_group_type_req _ _ _ in (
      may-ask c.args.t _ _ _ _ _ c.ask_from-u.ensures c.requires
          (omega (arith, l)),
      omega (arith, l),
    )

pub returns : goal.returns
returns c =
    services-asked _ _ _ _ _ _
    (asked-thus c.args.t _ _ _ _ _ _ _ _ _ c.ask_from-u.ensures
    c.read_by_group_type_req-pdu.ensures c.request.ensures)
