use Rattle.link_rules.proofs.CharacteristicLaws.{descriptors-none}
use Rattle.link_discovery.proofs.TableLaws.{descriptors-able, descriptors-go}
use Rattle.link_rules.proofs.AnswerLaws.{width_two}
use Rattle.script_rules.specs.World.{told}
use mathlib.Core.Path.{◌∙◌}
use native.Mathlib.Omega.{arith}
use Rattle.link_discovery.proofs.descriptors_in.Goals as goal

pub returns-then-size-eq0 : goal.returns-then-size-eq0
returns-then-size-eq0 c =
    let a = c.args in
    let f = c.after_range-first.ensures a.store.now (told a.t.sent a.out.now) in
    c.go_on.ensures
    ∙ descriptors-none _ _ _ _ _ _ _ (c.width_of-size.ensures) f
    (c.if-size-eq0.true)

pub name_descriptors-next-requires : goal.name_descriptors-next-requires
name_descriptors-next-requires c =
    let e = c.entries_end-end.ensures in
    let w = c.width_of-size.ensures in
    let p = c.requires in (
      p.0.peer.characteristics,
      rw w (width_two (c.args.format) (λ k.
          c.if-size-eq0.false (w ∙ k))),
      omega (arith, e),
      omega (arith, e, p.0.ready.store, p.1),
    )

pub go_on-requires-2 : goal.go_on-requires-2
go_on-requires-2 c =
    let a = c.args in
    let p = c.requires.0 in
    let x = c.name_descriptors-next in
    descriptors-able a.t a.tables.now _ a.store.now a.out.now (c.entries_end-end.result)
    (c.width_of-size.result)
    (c.after_range-first.result)
    x.result p.peer.characteristics x.ensures p

pub returns : goal.returns
returns c =
    let a =
    c.args in
    let e = c.entries_end-end in
    let z = c.width_of-size in
    let f = c.after_range-first in
    let x = c.name_descriptors-next in
    c.go_on-2.ensures
    ∙ descriptors-go a.t a.tables.now _ a.store.now a.out.now e.result z.result f.result
    x.result
    (c.requires.0.peer.characteristics)
    x.ensures a.at a.svc a.n a.format z.ensures
    (f.ensures a.store.now (told a.t.sent a.out.now))
    (c.if-size-eq0.false) e.ensures
