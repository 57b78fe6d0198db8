use Rattle.words_characteristic.proofs.PlaceLaws.{cccd-is, cccd-none}
use Rattle.words_characteristic.proofs.cccd_of.Goals as goal

pub returns-then-known : goal.returns-then-known
returns-then-known c = cccd-is _ _ c.if-known.true

pub returns : goal.returns
returns c = cccd-none _ _ c.if-known.false
