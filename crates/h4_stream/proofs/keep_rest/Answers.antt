use Rattle.h4_stream.proofs.HandLaws.{kept_both}
use Rattle.h4_stream.proofs.keep_rest.Goals as goal

pub returns : goal.returns
returns c =
    let a = c.args in
    let r = c.requires in
    kept_both a.held.now a.fed.now _ _ _ c.min-gone.ensures r.inside r.len_inside r.room _ c.lower.ensures _ c.copy_in.ensures
