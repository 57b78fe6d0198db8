use mathlib.Core.Path.{◌≡◌}
use lib.ListN.{length}
use Rattle.words_report.proofs.ReportLaws.{key-law}
use borrow.Author.Rules.{rules}
use Rattle.words_report.proofs.put_key.Goals as goal

pub returns : goal.returns
returns c = let l : length c.args.tables.now ≡ 1152 = search rules in key-law _ _ _ l c.requires
