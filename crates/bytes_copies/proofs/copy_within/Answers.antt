use Rattle.std.proofs.Common.{sym, arith, ◌≡◌, ◌+◌, ◌-◌, ◌≤◌, length}
use Rattle.bytes_base.specs.Splice.{splice, moved}
use Rattle.bytes_base.proofs.SpliceLaws.{splice-in, moved_down, moved_apart, moved-over, moved-off, moved-void}
use Rattle.bytes_base.proofs.TestLaws.{fits-yes, fits-no}
use Rattle.bytes_copies.proofs.copy_within.Goals as goal
use Rattle.bytes_copies.proofs.copy_within.Goals.{then-at-from-via-then-at-from, then-at-from-via-else-at-from+then-n-at, else-is_inside-via-then-is_inside+else-is_inside-2, else-is_inside-via-else-is_inside}

pub returns-then-at-from : goal.returns-then-at-from
returns-then-at-from c =
    let a = c.args in
    let h : a.at + a.n ≤ length a.d.now = fits-yes _ _ _ _ c.is_inside.ensures c.if-is_inside.true in
    let k : a.from + a.n ≤ length a.d.now = fits-yes _ _ _ _ c.is_inside-then-is_inside.ensures c.if-is_inside-2.true in
    let f : a.from + a.n - a.from ≡ a.n = omega arith in
    let m : moved a.d.now a.at a.from a.n ≡ splice a.d.now a.at a.d.now a.from a.n
    = elim c.then-at-from.branch [ then-at-from-via-then-at-from w ↦ moved_down _ _ _ _ w.if-at-from.true | then-at-from-via-else-at-from+then-n-at w ↦ moved_apart _ _ _ _ w.if-at-from.false (omega arith) ] in
    rw (m, splice-in a.d.now a.at a.d.now a.from a.n h k, c.copy_within.ensures.after, f)

pub returns-else-n-at : goal.returns-else-n-at
returns-else-n-at c = sym (moved-over _ _ _ _ c.if-at-from.false (omega arith))

pub returns-else-is_inside : goal.returns-else-is_inside
returns-else-is_inside c =
    elim c.else-is_inside.branch [ else-is_inside-via-then-is_inside+else-is_inside-2 w ↦ sym (moved-void _ _ _ _ (fits-yes _ _ _ _ c.is_inside.ensures w.if-is_inside.true) (fits-no _ _ _ _ w.is_inside-then-is_inside.ensures w.if-is_inside-2.false)) | else-is_inside-via-else-is_inside w ↦ sym (moved-off _ _ _ _ (fits-no _ _ _ _ c.is_inside.ensures w.if-is_inside.false)) ]
