use Rattle.link_responses.proofs.ErrorLaws.{failed-absent, failed-over}
use mathlib.Core.Path.{◌∙◌}
use Rattle.link_responses.proofs.failed.Goals as goal

pub returns-then-code-eq-ATTRIBUTE_NOT_FOUND : goal.returns-then-code-eq-ATTRIBUTE_NOT_FOUND
returns-then-code-eq-ATTRIBUTE_NOT_FOUND c = c.absent.ensures ∙ failed-absent _ _ _ _ (c.if-code-eq-ATTRIBUTE_NOT_FOUND.true)

pub returns : goal.returns
returns c =
    c.end_turn.ensures _ ∙ failed-over _ _ (c.args.a) _
    (c.if-code-eq-ATTRIBUTE_NOT_FOUND.false)
