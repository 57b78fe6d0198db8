use Rattle.std.proofs.Common.{◌∙◌}
use Rattle.bytes_numbers.proofs.Numbers.{le-eight, there, not-there}
use Rattle.bytes_numbers.proofs.le64.Goals as goal

pub returns-in-Some : goal.returns-in-Some
returns-in-Some c =
    let t = there 8 c.args.s.now c.args.at c.in-Some.bytes c.in-Some.ensures in
    c.from_le_bytes.ensures ∙ le-eight c.in-Some.bytes t.0 ∙ t.1

pub returns-in-None : goal.returns-in-None
returns-in-None c = not-there 8 c.args.s.now c.args.at c.in-None.ensures
