use native.Mathlib.Omega.{arith}
use Rattle.words_characteristic.proofs.AnswerLaws.{rising-too, taken-fits, taken_back}
use Rattle.words_characteristic.proofs.take_characteristics.Goals as goal

pub take_characteristics-f-requires : goal.take_characteristics-f-requires
take_characteristics-f-requires c =
    let p = c.requires in
    let o = c.characteristics_of-t.ensures in
    (omega (arith, o.0), rising-too _ _ p.0 _ o p.1, p.2, p.3, p.4)

pub put_characteristics-requires : goal.put_characteristics-requires
put_characteristics-requires c =
    taken-fits _ _ c.requires.0 _ c.characteristics_of-t.ensures
    _ _ _ c.take_characteristics-f.ensures

pub returns : goal.returns
returns c =
    taken_back _ _ c.requires.0 _ c.characteristics_of-t.ensures
    _ _ _ c.take_characteristics-f.ensures _ c.put_characteristics.ensures
