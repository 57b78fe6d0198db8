use mathlib.Core.Path.{◌∙◌}
use Rattle.uuid_text.proofs.Laws.{parse-more, parse-short, parse-long, parse-other, parse-none}
use borrow.Author.Rules.{rules}
use Rattle.uuid_text.proofs.parse.Goals as goal
use Rattle.uuid_text.proofs.parse.Goals.{else-len-eq-LONG_DIGITS-via-then-len-eq-LONG_DIGITS+else-text-eq-LONG_TEXT, else-len-eq-LONG_DIGITS-via-else-len-eq-LONG_DIGITS}

pub returns-in_err-len : goal.returns-in_err-len
returns-in_err-len c = c.from_residual.ensures ∙ parse-more c.args.text.now c.in_err-len.ensures

pub returns-then-len-eq-SHORT_DIGITS : goal.returns-then-len-eq-SHORT_DIGITS
returns-then-len-eq-SHORT_DIGITS c =
    let d = c.in_ok-len.field-0 in
    c.short.ensures ∙ parse-short c.args.text.now d (search rules) c.in_ok-len.ensures c.if-len-eq-SHORT_DIGITS.true

pub returns-then-text-eq-LONG_TEXT : goal.returns-then-text-eq-LONG_TEXT
returns-then-text-eq-LONG_TEXT c =
    let d = c.in_ok-len.field-0 in
    c.long.ensures ∙ parse-long c.args.text.now d (search rules) c.in_ok-len.ensures c.if-len-eq-LONG_DIGITS.true c.if-text-eq-LONG_TEXT.true

pub returns : goal.returns
returns c =
    let d = c.in_ok-len.field-0 in
    elim c.else-len-eq-LONG_DIGITS.branch [ else-len-eq-LONG_DIGITS-via-then-len-eq-LONG_DIGITS+else-text-eq-LONG_TEXT w ↦ parse-other c.args.text.now d (search rules) c.in_ok-len.ensures w.if-len-eq-LONG_DIGITS.true w.if-text-eq-LONG_TEXT.false | else-len-eq-LONG_DIGITS-via-else-len-eq-LONG_DIGITS w ↦ parse-none c.args.text.now d (search rules) c.in_ok-len.ensures c.if-len-eq-SHORT_DIGITS.false w.if-len-eq-LONG_DIGITS.false ]
