use lib.ListN.{length}
use mathlib.Core.Path.{refl}
use Rattle.state_core.specs.declared.Core.{Core}
use Rattle.state_core.specs.Reading.{central}
use Rattle.uuid_value.specs.Value.{num}
use Rattle.radio_sights.specs.View.{view}
use Rattle.radio_views.specs.Presences.{presence_seen}
use Rattle.c_told.specs.Told.{refusal_words}
use Rattle.c_told.specs.Read.{sighting_words}
use Rattle.c_told.proofs.ToldLaws.{handed-on}
use Rattle.c_central.proofs.ExportLaws.{exported-reading}
use Rattle.c_central.proofs.barleyrope_report_presence_words.Goals as goal

pub returns : goal.returns
returns c =
    let a = c.args in
    exported-reading (λ (x : Core). presence_seen (num (record { low = a.low; high = a.high })) a.store.now (view (central x a.tables.now) (length a.store.now) a.i)) sighting_words a.core.now
    _ _ _ (handed-on refusal_words sighting_words (λ why. refl) _ _ _ c.sighting_words.ensures c.by_number.ensures) c.report_presence-answer.ensures c.decode-c.ensures
