use mathlib.Core.Path.{◌≡◌}
use lib.ListN.{take, drop}
use Rattle.gatt_characteristics.specs.Characteristic.{characteristic_with}
use Rattle.words.specs.Tables.{characteristics_in}
use Rattle.words_characteristic.proofs.find_characteristic.Given as goal

abbrev pub invariant-loop-i : goal.invariant-loop-i
invariant-loop-i l =
    characteristic_with l.uuid (take l.count (characteristics_in l.tables)) ≡ characteristic_with l.uuid (drop l.i (take l.count (characteristics_in l.tables)))
