use mathlib.Core.Path.{◌≡◌}
use lib.ListN.{length}
use Rattle.words_characteristic.proofs.PlaceLaws.{put-law}
use borrow.Author.Rules.{rules}
use Rattle.words_characteristic.proofs.put_words.Goals as goal

pub returns : goal.returns
returns c = let l : length c.args.tables.now ≡ 1152 = search rules in put-law _ _ _ _ _ l c.requires
