use Rattle.l2cap_signaling.proofs.parameter_answer.Goals as goal

pub returns-then-is_good : goal.returns-then-is_good
returns-then-is_good c = rw (c.command-accepted.ensures, ← c.le16.ensures, ← c.le16-2.ensures, ← c.le16-3.ensures, ← c.le16-4.ensures, ← c.is_good.ensures, c.if-is_good.true)

pub returns : goal.returns
returns c = rw (c.command-rejected.ensures, ← c.le16.ensures, ← c.le16-2.ensures, ← c.le16-3.ensures, ← c.le16-4.ensures, ← c.is_good.ensures, c.if-is_good.false)
