use Rattle.link_frames.proofs.FrameLaws.{gather-law}
use Rattle.link_frames.proofs.gather.Goals as goal

pub returns : goal.returns
returns c =
    let a = c.args in
    gather-law a.c _ a.store.now _ a.fragment.now a.start _
    c.held_before-from.ensures c.copy_in.ensures c.with_held.ensures
