use Rattle.words_characteristic.proofs.PlaceLaws.{unpacks}
use Rattle.words_characteristic.proofs.unpacked.Goals as goal

pub returns : goal.returns
returns c = unpacks _ _ _ _ _ c.cccd_of-cccd.ensures c.declaration_of-declaration.ensures
