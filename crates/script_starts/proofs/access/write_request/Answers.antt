use Rattle.script_starts.proofs.AccessLaws.{asks-law}
use Rattle.script_starts.proofs.access.write_request.Goals as goal

pub returns : goal.returns
returns c =
    let given = c.args in
    asks-law given.t _ _ _ _ _ _ given.handle given.n c.send_value-told.ensures c.asked-next.ensures
