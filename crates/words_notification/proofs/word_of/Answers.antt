use native.Mathlib.Omega.{arith}
use Rattle.words_notification.proofs.NotificationLaws.{word_read, flag-number, flag-small}
use Rattle.words_notification.proofs.word_of.Goals as goal

pub returns : goal.returns
returns c =
    let x = c.args.x in
    rw (c.from.ensures, c.from-2.ensures, c.from-3.ensures)
    (word_read x _ (flag-number x.indication) (flag-small x.indication) (omega arith))
