use Rattle.script_starts.proofs.AccessLaws.{mtu-law}
use Rattle.script_starts.proofs.access.start_mtu.Goals as goal

pub returns : goal.returns
returns c =
    mtu-law c.args.t _ _ _ _ _ _ _
    c.at_least.ensures c.exchange_mtu_req-pdu.ensures c.request.ensures
