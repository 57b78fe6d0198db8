use Rattle.link_rules.proofs.FragmentLaws.{fits-dropped, fits-law}
use Rattle.link_frames.proofs.held_fits.Goals as goal

pub returns-then-is_dropped : goal.returns-then-is_dropped
returns-then-is_dropped c =
    let a = c.args in
    fits-dropped a.b a.start a.n _ c.is_dropped.ensures c.if-is_dropped.true

pub returns : goal.returns
returns c =
    let a = c.args in
    fits-law a.b a.start a.n _ c.is_dropped.ensures _ _ c.if-is_dropped.false
    c.held_before.ensures c.frame_fits.ensures
