use mathlib.Core.Path.{◌≡◌}
use lib.ListN.{length}
use Rattle.words_notification.proofs.NotificationLaws.{put-law}
use borrow.Author.Rules.{rules}
use Rattle.words_notification.proofs.put_notification.Goals as goal

pub returns : goal.returns
returns c =
    let l : length c.args.tables.now ≡ 1152 = search rules in
    put-law _ _ _ _ _ l c.requires _ c.word_of.ensures
