use Rattle.link_rules.proofs.CharacteristicLaws.{range_none, range-one}
use Rattle.script_rules.specs.World.{told}
use mathlib.Core.Path.{◌∙◌}
use Rattle.link_discovery.proofs.range_done.Goals as goal

pub returns-in-None : goal.returns-in-None
returns-in-None c = c.end_turn.ensures _ ∙ range_none _ _ _ (c.in-None.is)

pub returns-in-Some : goal.returns-in-Some
returns-in-Some c =
    let a = c.args in
    let f = c.after_range-from.ensures a.store.now (told a.t.sent a.out.now) in
    c.go_on.ensures ∙ range-one _ _ _ _ _
    (c.in-Some.is) f
