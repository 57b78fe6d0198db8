use Rattle.link_rules.proofs.CharacteristicLaws.{characteristics-none}
use Rattle.link_discovery.proofs.TableLaws.{characteristics-able, characteristics-go}
use Rattle.gatt_characteristics.proofs.Keeps.{rising-if}
use mathlib.Core.Path.{◌∙◌}
use native.Mathlib.Omega.{arith}
use Rattle.link_discovery.proofs.characteristics_in.Goals as goal

pub returns-then-size-lt-CHARACTERISTIC_SIZE : goal.returns-then-size-lt-CHARACTERISTIC_SIZE
returns-then-size-lt-CHARACTERISTIC_SIZE c =
    c.discover_descriptors.ensures ∙ characteristics-none _ _ _ _ _
    (c.if-size-lt-CHARACTERISTIC_SIZE.true)

pub take_characteristics-f-requires : goal.take_characteristics-f-requires
take_characteristics-f-requires c =
    let e = c.entries_end-end.ensures in
    let p = c.requires in (
      p.0.peer.characteristics,
      rising-if _ p.0.peer.rising,
      omega (arith, c.if-size-lt-CHARACTERISTIC_SIZE.false),
      omega (arith, e),
      omega (arith, e, p.0.ready.store, p.1),
    )

pub characteristics_entered-requires : goal.characteristics_entered-requires
characteristics_entered-requires c =
    let a = c.args in
    let f = c.take_characteristics-f in
    characteristics-able a.t a.tables.now _ a.store.now a.out.now (c.entries_end-end.result) a.size
    f.result.count f.result.last f.result.full a.svc f.ensures
    (c.requires.0)

pub returns : goal.returns
returns c =
    let a =
    c.args in
    let f = c.take_characteristics-f in
    let e = c.entries_end-end in
    c.characteristics_entered.ensures
    ∙ characteristics-go a.t a.tables.now _ a.store.now a.out.now e.result a.size
    f.result.count f.result.last f.result.full a.svc f.ensures a.at a.n
    (c.if-size-lt-CHARACTERISTIC_SIZE.false) e.ensures
