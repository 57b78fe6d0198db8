use mathlib.Core.Path.{sym, ap, ◌∙◌}
use mathlib.Core.Logic.{inl, inr}
use Rattle.uuid_value.specs.Value.{num}
use Rattle.adv_data.proofs.Searches.{place_sought, listed-where-found}
use Rattle.adv_data.proofs.search.Goals as goal

pub returns-in-Listed : goal.returns-in-Listed
returns-in-Listed c =
    let a = c.args in
    ap place_sought (c.in-Listed.ensures) ∙ listed-where-found (num a.uuid) a.«data».now

pub returns-in-Absent : goal.returns-in-Absent
returns-in-Absent c =
    let a = c.args in
    let found = ap place_sought c.seek.ensures ∙ listed-where-found (num a.uuid) a.«data».now in
    elim c.in-Absent.is [ inl e ↦ ap place_sought (sym e) ∙ found | inr e ↦ ap place_sought (sym e) ∙ found ]
