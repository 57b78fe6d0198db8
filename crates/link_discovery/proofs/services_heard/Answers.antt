use Rattle.link_rules.proofs.ServiceLaws.{services-none}
use Rattle.link_discovery.proofs.TableLaws.{services-able, services-go}
use mathlib.Core.Path.{◌∙◌}
use Rattle.link_discovery.proofs.services_heard.Goals as goal

pub returns-then-size-lt-SERVICE_SIZE : goal.returns-then-size-lt-SERVICE_SIZE
returns-then-size-lt-SERVICE_SIZE c =
    c.services_done.ensures ∙ services-none _ _ _ _ _
    (c.if-size-lt-SERVICE_SIZE.true)

pub services_entered-requires : goal.services_entered-requires
services_entered-requires c =
    let a = c.args in
    let f = c.take_services-f in
    services-able a.t a.tables.now _ a.store.now a.out.now (c.entries_end-end.result) a.size
    f.result.count f.result.last f.result.full f.ensures
    (c.requires.0)

pub returns : goal.returns
returns c =
    let a =
    c.args in
    let f = c.take_services-f in
    let e = c.entries_end-end in
    c.services_entered.ensures
    ∙ services-go a.t a.tables.now _ a.store.now a.out.now e.result a.size
    f.result.count f.result.last f.result.full f.ensures a.at a.g a.n
    (c.if-size-lt-SERVICE_SIZE.false) e.ensures
