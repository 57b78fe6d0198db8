use Rattle.link_rules.proofs.AnswerLaws.{width-short, width-long, width-none}
use Rattle.link_fields.proofs.width_of.Goals as goal

pub returns-then-format-eq-SHORT_TYPES : goal.returns-then-format-eq-SHORT_TYPES
returns-then-format-eq-SHORT_TYPES c = width-short _ c.if-format-eq-SHORT_TYPES.true

pub returns-then-format-eq-LONG_TYPES : goal.returns-then-format-eq-LONG_TYPES
returns-then-format-eq-LONG_TYPES c = width-long _ c.if-format-eq-SHORT_TYPES.false c.if-format-eq-LONG_TYPES.true

pub returns : goal.returns
returns c = width-none _ c.if-format-eq-SHORT_TYPES.false c.if-format-eq-LONG_TYPES.false
