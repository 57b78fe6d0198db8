use Rattle.link_answers.proofs.AnswerLaws.{mtu-law}
use Rattle.link_answers.proofs.mtu_told.Goals as goal

pub returns : goal.returns
returns c =
    let a = c.args in
    mtu-law a.t _ _ a.tables.now _ a.store.now _ a.at a.n _ _ a.mtu
    c.number-server.ensures c.smaller_mtu.ensures
    c.agreed-core.ensures c.end_turn.ensures
