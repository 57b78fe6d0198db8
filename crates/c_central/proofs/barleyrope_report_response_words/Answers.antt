use lib.ListN.{length}
use mathlib.Core.Path.{refl}
use Rattle.state_core.specs.declared.Core.{Core}
use Rattle.state_core.specs.Reading.{central}
use Rattle.radio_sights.specs.View.{view}
use Rattle.radio_views.specs.Spots.{response_seen}
use Rattle.c_told.specs.Told.{refusal_words}
use Rattle.c_told.specs.Read.{spot_words}
use Rattle.c_told.proofs.ToldLaws.{handed-on}
use Rattle.c_central.proofs.ExportLaws.{exported-reading}
use Rattle.c_central.proofs.barleyrope_report_response_words.Goals as goal

pub returns : goal.returns
returns c =
    let a = c.args in
    exported-reading (λ (x : Core). response_seen (view (central x a.tables.now) (length a.store.now) a.i)) spot_words a.core.now
    _ _ _ (handed-on refusal_words spot_words (λ why. refl) _ _ _ c.spot_words.ensures c.by_number.ensures) c.report_response_at.ensures c.decode-c.ensures
