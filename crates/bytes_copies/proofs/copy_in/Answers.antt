use Rattle.std.proofs.Common.{sym}
use Rattle.bytes_base.proofs.SpliceLaws.{splice-off, splice-void}
use Rattle.bytes_base.proofs.TestLaws.{fits-yes, fits-no}
use Rattle.bytes_copies.proofs.copy_in.Goals as goal
use Rattle.bytes_copies.proofs.copy_in.Goals.{else-is_inside-via-then-is_inside+else-is_inside-2, else-is_inside-via-else-is_inside}

pub returns-then-is_inside-2 : goal.returns-then-is_inside-2
returns-then-is_inside-2 c =
    c.copy_known.ensures

pub returns-else-is_inside : goal.returns-else-is_inside
returns-else-is_inside c =
    elim c.else-is_inside.branch [ else-is_inside-via-then-is_inside+else-is_inside-2 w ↦ sym (splice-void _ _ _ _ _ (fits-yes _ _ _ _ c.is_inside.ensures w.if-is_inside.true) (fits-no _ _ _ _ w.is_inside-then-is_inside.ensures w.if-is_inside-2.false)) | else-is_inside-via-else-is_inside w ↦ sym (splice-off _ _ _ _ _ (fits-no _ _ _ _ c.is_inside.ensures w.if-is_inside.false)) ]
