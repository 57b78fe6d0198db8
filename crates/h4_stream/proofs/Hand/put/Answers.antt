use Rattle.h4_stream.proofs.HandLaws.{put_both}
use Rattle.h4_stream.proofs.Hand.put.Goals as goal

pub returns-then-len-gt0 : goal.returns-then-len-gt0
returns-then-len-gt0 c =
    let a = c.args.self in
    put_both a.held.now a.fed.now _ _ _ c.min-held.ensures c.requires.inside c.requires.room _ c.copy_in.ensures _ c.copy_in-then-len-gt0.ensures
