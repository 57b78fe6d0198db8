use Rattle.words_characteristic.proofs.AnswerLaws.{named-fits, named_back}
use Rattle.words_characteristic.proofs.name_descriptors.Goals as goal

pub put_characteristics-requires : goal.put_characteristics-requires
put_characteristics-requires c =
    named-fits _ _ c.requires.0 _ c.characteristics_of-t.ensures
    _ _ _ c.name_descriptors-n.ensures

pub returns : goal.returns
returns c =
    named_back _ _ c.requires.0 _ c.characteristics_of-t.ensures
    _ _ _ c.name_descriptors-n.ensures _ c.put_characteristics.ensures
