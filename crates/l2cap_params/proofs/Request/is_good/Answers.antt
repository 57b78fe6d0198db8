use Rattle.l2cap_params.proofs.ParamsLaws.{good-by}
use Rattle.l2cap_params.proofs.Request.is_good.Goals as goal

pub returns : goal.returns
returns c =
    let a = c.args.self in
    good-by a.min a.max a.latency a.timeout _ _ _ c.is_interval.ensures c.is_interval-2.ensures c.is_timeout.ensures
