use Rattle.link_answers.proofs.AnswerLaws.{after-law}
use Rattle.words_characteristic.specs.Parts.{in_table}
use Rattle.link_answers.proofs.after_range.Goals as goal

pub returns-in-None : goal.returns-in-None
returns-in-None c =
    let a = c.args in
    λ s x. after-law a.c (in_table a.tables.now a.c.counts.characteristics) a.svc _ c.descriptor_range.ensures _ c.in-None.is

pub returns-in-Some : goal.returns-in-Some
returns-in-Some c =
    let a = c.args in
    λ s x. after-law a.c (in_table a.tables.now a.c.counts.characteristics) a.svc _ c.descriptor_range.ensures _ c.in-Some.is
