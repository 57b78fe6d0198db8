use Rattle.state_refusals.specs.Refusals.{first_refusal}
use Rattle.state_refusals.proofs.first_refusal.Goals as goal

pub returns-then-not-fit : goal.returns-then-not-fit
unfolding first_refusal
returns-then-not-fit c = rw c.if-not-fit.true

pub returns-then-not-sized : goal.returns-then-not-sized
unfolding first_refusal
returns-then-not-sized c = rw (c.if-not-fit.false, c.if-not-sized.true)

pub returns-then-not-timely : goal.returns-then-not-timely
unfolding first_refusal
returns-then-not-timely c = rw (c.if-not-fit.false, c.if-not-sized.false, c.if-not-timely.true)

pub returns : goal.returns
unfolding first_refusal
returns c = rw (c.if-not-fit.false, c.if-not-sized.false, c.if-not-timely.false)
