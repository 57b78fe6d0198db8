use Rattle.link_replies.proofs.NoticeLaws.{keep-law}
use Rattle.link_replies.proofs.keep_one.Goals as goal

pub returns : goal.returns
returns c =
    let a = c.args in
    keep-law a.c a.tables.now _ a.store.now _ a.at a.handle a.n a.indication _ _
    c.keep_value.ensures (c.keep-more.ensures.tables_after, c.keep-more.ensures.count) c.note-o.ensures
