use Rattle.words_notification.proofs.NotificationLaws.{links-law}
use Rattle.words_notification.proofs.links_fit.Goals as goal

pub returns : goal.returns
returns c = links-law c.args.tables.now _ c.args.count _ c.requires c.told-tables c.args.links c.row.ensures c.all_at_most.ensures
