use mathlib.Core.Path.{◌≡◌}
use lib.ListN.{length}
use Rattle.words_service.proofs.ServiceLaws.{service-put}
use borrow.Author.Rules.{rules}
use Rattle.words_service.proofs.put_service.Goals as goal

pub returns : goal.returns
returns c =
    let l : length c.args.tables.now ≡ 1152 = search rules in
    service-put _ _ _ _ l c.requires c.word_of-word.ensures
