use Rattle.link_rules.proofs.CharacteristicLaws.{more_within, none_within}
use mathlib.Core.Path.{◌∙◌}
use Rattle.link_discovery.proofs.go_on.Goals as goal

pub returns-then-from-end : goal.returns-then-from-end
returns-then-from-end c =
    c.discover_descriptors.ensures ∙ more_within _ _ _ _
    (c.if-from-end.true)

pub returns : goal.returns
returns c = c.end_turn.ensures _ ∙ none_within _ _ _ _ (c.if-from-end.false)
