use Rattle.link_frames.proofs.FrameLaws.{whole-short, whole-law}
use Rattle.link_frames.proofs.is_whole.Goals as goal

pub returns-then-there-lt-HEADER : goal.returns-then-there-lt-HEADER
returns-then-there-lt-HEADER c =
    let a = c.args in
    whole-short a.c a.store.now c.if-there-lt-HEADER.true

pub returns : goal.returns
returns c =
    let a = c.args in
    whole-law a.c a.store.now _ c.if-there-lt-HEADER.false c.frame_length.ensures
