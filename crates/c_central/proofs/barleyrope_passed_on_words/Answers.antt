use lib.ListN.{length}
use mathlib.Core.Path.{refl}
use Rattle.state_core.specs.declared.Core.{Core}
use Rattle.state_core.specs.Reading.{central}
use Rattle.state_readers.specs.Readers.{passed_on}
use Rattle.c_told.specs.Told.{refusal_words}
use Rattle.c_told.specs.Read.{passed_words}
use Rattle.c_told.proofs.ToldLaws.{handed-on}
use Rattle.c_central.proofs.ExportLaws.{exported-reading}
use Rattle.c_central.proofs.barleyrope_passed_on_words.Goals as goal

pub returns : goal.returns
returns c =
    let a = c.args in
    exported-reading (λ (x : Core). passed_on (central x a.tables.now) (length a.store.now) a.index) passed_words a.core.now
    _ _ _ (handed-on refusal_words passed_words (λ why. refl) _ _ _ c.passed_words.ensures c.by_number.ensures) c.passed_on.ensures c.decode-c.ensures
