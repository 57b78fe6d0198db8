use Rattle.std.proofs.Common.{◌∙◌}
use Rattle.bytes_numbers.proofs.Numbers.{le-two, there, not-there}
use Rattle.bytes_numbers.proofs.le16.Goals as goal

pub returns-in-Some : goal.returns-in-Some
returns-in-Some c =
    let t = there 2 c.args.s.now c.args.at c.in-Some.bytes c.in-Some.ensures in
    c.from_le_bytes.ensures ∙ le-two c.in-Some.bytes t.0 ∙ t.1

pub returns-in-None : goal.returns-in-None
returns-in-None c = not-there 2 c.args.s.now c.args.at c.in-None.ensures
