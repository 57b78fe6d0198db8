use Rattle.c_steps.proofs.BatchLaws.{flat-law}
use Rattle.c_steps.proofs.flat_at.Goals as goal

pub returns : goal.returns
returns c =
    flat-law c.args.steps.now c.args.at _ _ _ _ _ _ _ _ _ _
    c.byte-kind.ensures
    c.bit-flag.ensures
    c.long-ms.ensures
    c.half-size.ensures
    c.word-low.ensures
    c.word-high.ensures
    c.byte-aim.ensures
    c.half-latency.ensures
    c.half-timeout.ensures
    c.half-interval.ensures
