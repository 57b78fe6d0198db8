use mathlib.Core.Path.{sym, ap, ◌∙◌}
use Rattle.std.specs.Prelude.{is_some}
use Rattle.uuid_value.specs.Value.{num}
use Rattle.adv_data.specs.Ad.{structures}
use Rattle.adv_data.proofs.Searches.{any_found}
use Rattle.adv_listing.proofs.ad_lists_service.Goals as goal

pub returns : goal.returns
returns c =
    let a = c.args in
    c.is_some.ensures ∙ ap is_some c.search.ensures ∙ sym (any_found (num a.uuid) (structures a.«data».now))
