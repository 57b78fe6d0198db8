use Rattle.notifications.proofs.KeepLaws.{value_room, value-full}
use Rattle.notifications.proofs.keep_value.Goals as goal

pub returns-then-count-lt-MAX_NOTIFICATIONS : goal.returns-then-count-lt-MAX_NOTIFICATIONS
returns-then-count-lt-MAX_NOTIFICATIONS c = search value_room

pub returns-else-count-lt-MAX_NOTIFICATIONS : goal.returns-else-count-lt-MAX_NOTIFICATIONS
returns-else-count-lt-MAX_NOTIFICATIONS c = search value-full
