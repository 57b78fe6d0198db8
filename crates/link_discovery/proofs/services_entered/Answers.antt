use Rattle.link_discovery.proofs.EnteredLaws.{services-full, services-last, services-more}
use mathlib.Core.Path.{◌∙◌}
use Rattle.link_discovery.proofs.services_entered.Goals as goal

pub returns-then-full : goal.returns-then-full
returns-then-full c =
    let a = c.args in
    c.end_turn.ensures _ ∙ services-full _ a.at a.g a.last a.full (c.if-full.true)

pub returns-then-last-eq-LAST_HANDLE : goal.returns-then-last-eq-LAST_HANDLE
returns-then-last-eq-LAST_HANDLE c =
    let a = c.args in
    c.services_done.ensures ∙ services-last _ a.at a.g a.last a.full
    (c.if-full.false)
    (c.if-last-eq-LAST_HANDLE.true)

pub returns : goal.returns
returns c =
    let a = c.args in
    c.discover_services.ensures _ _ ∙ services-more _ a.at a.g a.last a.full (c.if-full.false)
    (c.if-last-eq-LAST_HANDLE.false)
