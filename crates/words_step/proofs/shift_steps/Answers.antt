use Rattle.words_step.proofs.StepLaws.{shift-law}
use Rattle.words_step.proofs.shift_steps.Goals as goal

pub returns : goal.returns
returns c =
    let fits = c.requires in
    let step = c.lower.ensures in
    let low = c.lower-2.ensures in
    let high = c.lower-3.ensures in
    shift-law _ _ _ _ _ _ fits step low high c.lower-4.ensures
