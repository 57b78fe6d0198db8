use Rattle.std.proofs.lemmas.Result.{err_from_is_err_and}
use borrow.Author.Tests.{ne_eqb, le-leb, lt-leb}
use Rattle.state_places.specs.Sizes.{data_size}
use Rattle.state_refusals.specs.Refusals.{number}
use Rattle.state_refusals.proofs.RefusalLaws.{not-accepted}
use Rattle.radio_rules.specs.Hearing.{then_data}
use Rattle.radio_rules.proofs.then_data.Goals as goal

pub returns-in_err-gate : goal.returns-in_err-gate
unfolding then_data
returns-in_err-gate c =
    let p = err_from_is_err_and c.from_residual.result c.from_residual.ensures.1 in
    let why = c.in_err-gate.field-0.0 in
    rw (p.1, p.2, c.in_err-gate.was, ne_eqb (number why) 0 (not-accepted why))

pub returns-then-len-gt-MAX_DATA : goal.returns-then-len-gt-MAX_DATA
unfolding then_data
returns-then-len-gt-MAX_DATA c = rw (c.in_ok-gate.was, lt-leb c.args.len data_size c.if-len-gt-MAX_DATA.true)

pub returns : goal.returns
unfolding then_data
returns c = rw (c.in_ok-gate.was, le-leb c.args.len data_size c.if-len-gt-MAX_DATA.false)
