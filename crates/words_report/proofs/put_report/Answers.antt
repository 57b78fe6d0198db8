use mathlib.Core.Path.{◌≡◌}
use lib.ListN.{length}
use Rattle.words_report.proofs.ReportLaws.{put-law}
use borrow.Author.Rules.{rules}
use Rattle.words_report.proofs.put_report.Goals as goal

pub returns : goal.returns
returns c =
    let args-tables-now = c.args.tables.now in
    let args-x = c.args.x in
    let pre-0 = c.requires.0 in
    let word-of-ensures = c.word_of.ensures in
    let l : length args-tables-now ≡ 1152 = search rules in put-law _ _ _ args-x l pre-0 word-of-ensures
