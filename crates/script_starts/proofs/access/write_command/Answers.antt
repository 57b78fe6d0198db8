use Rattle.script_starts.proofs.AccessLaws.{tells-law}
use Rattle.script_starts.proofs.access.write_command.Goals as goal

pub returns : goal.returns
returns c =
    let given = c.args in
    tells-law given.t _ _ _ _ _ _ _ _ _ given.handle given.n c.send_value-told.ensures c.end-next.ensures
