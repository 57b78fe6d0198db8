use lib.ListN.{length}
use mathlib.Core.Path.{refl}
use Rattle.state_core.specs.declared.Core.{Core}
use Rattle.state_core.specs.Reading.{central}
use Rattle.state_readers.specs.Readers.{timer}
use Rattle.c_told.specs.Told.{refusal_words}
use Rattle.c_told.specs.Read.{timer_words}
use Rattle.c_told.proofs.ToldLaws.{handed-on}
use Rattle.c_central.proofs.ExportLaws.{exported-reading}
use Rattle.c_central.proofs.barleyrope_timer_us_words.Goals as goal

pub returns : goal.returns
returns c =
    let a = c.args in
    exported-reading (λ (x : Core). timer (central x a.tables.now) (length a.store.now)) timer_words a.core.now
    _ _ _ (handed-on refusal_words timer_words (λ why. refl) _ _ _ c.timer_words.ensures c.by_number.ensures) c.timer_us.ensures c.decode-c.ensures
