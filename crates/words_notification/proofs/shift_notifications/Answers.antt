use Rattle.words_notification.proofs.NotificationLaws.{down-law}
use Rattle.words_notification.proofs.shift_notifications.Goals as goal

pub returns : goal.returns
returns c = down-law _ _ _ _ c.lower.ensures c.lower-2.ensures c.lower-3.ensures
