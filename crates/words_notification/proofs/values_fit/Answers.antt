use Rattle.words_notification.proofs.NotificationLaws.{values-law}
use Rattle.words_notification.proofs.values_fit.Goals as goal

pub returns : goal.returns
returns c = values-law c.args.tables.now _ c.args.count _ c.requires c.told-tables c.row.ensures c.all_at_most.ensures
