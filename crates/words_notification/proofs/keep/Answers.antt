use Rattle.words_notification.proofs.NotificationLaws.{keep-room, keep-full}
use Rattle.words_notification.proofs.keep.Goals as goal

pub returns-then-count-lt-MAX_NOTIFICATIONS : goal.returns-then-count-lt-MAX_NOTIFICATIONS
returns-then-count-lt-MAX_NOTIFICATIONS c = record { tables_after = (keep-room _ _ _ _ c.if-count-lt-MAX_NOTIFICATIONS.true c.put_notification.ensures).0; count = (keep-room _ _ _ _ c.if-count-lt-MAX_NOTIFICATIONS.true c.put_notification.ensures).1 }

pub returns : goal.returns
returns c = record { tables_after = (keep-full _ _ _ _ _ c.if-count-lt-MAX_NOTIFICATIONS.false c.shift_notifications.ensures c.put_notification-2.ensures).0; count = (keep-full _ _ _ _ _ c.if-count-lt-MAX_NOTIFICATIONS.false c.shift_notifications.ensures c.put_notification-2.ensures).1 }
