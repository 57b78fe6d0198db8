use mathlib.Core.Path.{refl}
use Rattle.words_notification.proofs.NotificationLaws.{word-say}
use Rattle.words_notification.proofs.notification_at.Goals as goal

pub returns : goal.returns
returns c = word-say c.args.tables.now c.args.i _ c.requires refl
