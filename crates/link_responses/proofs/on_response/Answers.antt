use Rattle.link_responses.proofs.ResponseLaws.{unasked-able, counted, not-counted}
use Rattle.state_core.specs.Reading.{world}
use mathlib.Core.Path.{◌∙◌}
use Rattle.link_responses.proofs.on_response.Goals as goal

pub taken-requires : goal.taken-requires
taken-requires c =
    let a = c.args in
    let p = c.requires in
    let u = c.unask-u in
    (unasked-able a.t u.result a.tables.now a.store.now a.out.now (u.ensures _ _ _) a.n p, p.short)

pub returns-then-counts : goal.returns-then-counts
returns-then-counts c =
    let a = c.args in
    let u = c.unask-u in
    c.taken.ensures
    ∙ counted a.t u.result a.tables.now a.store.now a.out.now (u.ensures _ _ _) a.at a.n _
    (c.counts.ensures)
    (c.if-counts.true)

pub returns : goal.returns
returns c =
    let a = c.args in
    let w = world a.t a.tables.now a.store.now a.out.now in
    not-counted w a.at a.n _ (c.counts.ensures) (c.if-counts.false)
