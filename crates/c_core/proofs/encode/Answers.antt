use mathlib.Core.Path.{refl}
use Rattle.c_core.proofs.CoreLaws.{core-law}
use Rattle.c_core.proofs.encode.Goals as goal

pub returns : goal.returns
returns c =
    core-law _ c.args.c _
    c.flat_of-f.ensures.0
    refl
    c.long.ensures
    c.half.ensures
    c.byte.ensures
    c.byte-2.ensures
    c.bit.ensures
    c.bit-2.ensures
    c.byte-3.ensures
    c.bit-3.ensures
    c.long-2.ensures
    c.half-2.ensures
    refl
    refl
    c.byte-4.ensures
    c.half-3.ensures
    c.half-4.ensures
    c.half-5.ensures
    (rw (
      c.half-6.ensures,
      c.half-7.ensures,
      c.byte-5.ensures,
      c.bit-4.ensures,
      c.bit-5.ensures,
      c.bit-6.ensures,
    ))
    (rw c.long-3.ensures)
    refl
    refl
    refl
    c.bit-7.ensures
