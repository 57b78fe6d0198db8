use Rattle.h4_stream.proofs.FeedLaws.{refused_over, refused-short, taken}
use Rattle.h4_stream.proofs.feed.Goals as goal

pub returns-then-count-gt-LONGEST : goal.returns-then-count-gt-LONGEST
returns-then-count-gt-LONGEST c =
    let a = c.args in
    refused_over a.stream a.held.now a.fed.now a.out.now c.if-count-gt-LONGEST.true _ c.refuse.ensures

pub returns-then-not-is_inside : goal.returns-then-not-is_inside
returns-then-not-is_inside c =
    let a = c.args in
    let i = c.is_inside in
    refused-short a.stream a.held.now a.fed.now a.out.now c.if-count-gt-LONGEST.false i.result i.ensures
    c.if-not-is_inside.true _ c.refuse-then-not-is_inside.ensures

pub returns-in-None : goal.returns-in-None
returns-in-None c =
    let a = c.args in
    let i = c.is_inside in
    taken a.stream a.held.now a.fed.now a.out.now
    c.if-count-gt-LONGEST.false i.result i.ensures
    c.if-not-is_inside.false c.in-None.is _ _ _
    c.take_in.ensures
