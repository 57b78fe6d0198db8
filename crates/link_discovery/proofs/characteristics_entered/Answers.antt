use Rattle.link_discovery.proofs.EnteredLaws.{characteristics-full, characteristics-last, characteristics-more}
use mathlib.Core.Path.{◌∙◌}
use Rattle.link_discovery.proofs.characteristics_entered.Goals as goal

pub returns-then-full : goal.returns-then-full
returns-then-full c =
    let a = c.args in
    c.end_turn.ensures _ ∙ characteristics-full _ a.at a.svc a.last a.full (c.if-full.true)

pub returns-then-svc-last : goal.returns-then-svc-last
returns-then-svc-last c =
    let a = c.args in
    c.discover_descriptors.ensures ∙ characteristics-last _ a.at a.svc a.last a.full
    (c.if-full.false)
    (c.if-svc-last.true)

pub returns : goal.returns
returns c =
    let a = c.args in
    c.discover_characteristics.ensures ∙ characteristics-more _ a.at a.svc a.last a.full
    (c.if-full.false)
    (c.if-svc-last.false)
