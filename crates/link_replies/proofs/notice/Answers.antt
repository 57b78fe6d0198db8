use Rattle.link_replies.proofs.NoticeLaws.{may-look, notice-law}
use Rattle.link_replies.proofs.notice.Goals as goal

pub check_wait-next-requires : goal.check_wait-next-requires
check_wait-next-requires c =
    let a = c.args in
    may-look a.t a.tables.now a.store.now a.out.now a.at a.n a.indication
    c.requires.0
    c.requires.2
    _ _ _ _ c.keep_one-kept.ensures

pub returns : goal.returns
returns c =
    let a = c.args in
    notice-law a.t a.tables.now a.store.now a.out.now a.at a.n a.indication
    c.requires.0 _ _ _ _ _ _ _ _ _
    c.number-handle.ensures
    c.confirm-told.ensures
    c.keep_one-kept.ensures c.check_wait-next.ensures
