use lib.ListN.{length}
use mathlib.Core.Path.{refl}
use Rattle.state_core.specs.declared.Core.{Core}
use Rattle.state_core.specs.Reading.{central}
use Rattle.radio_sights.specs.View.{view}
use Rattle.c_told.specs.Read.{report_refusal_words, seen_words}
use Rattle.c_told.proofs.ToldLaws.{handed-on}
use Rattle.c_central.proofs.ExportLaws.{exported-reading}
use Rattle.c_central.proofs.barleyrope_report_words.Goals as goal

pub returns : goal.returns
returns c =
    let a = c.args in
    exported-reading (λ (x : Core). view (central x a.tables.now) (length a.store.now) a.i) seen_words a.core.now
    _ _ _ (handed-on report_refusal_words seen_words (λ why. refl) _ _ _ c.seen_words.ensures c.by_number.ensures) c.report.ensures c.decode-c.ensures
