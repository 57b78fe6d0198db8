use mathlib.Core.Path.{◌≡◌}
use mathlib.Core.Bool.{◌&&◌}
use lib.ListN.{take, drop}
use Rattle.gatt_characteristics.specs.Characteristic.{rises, up_from}
use Rattle.words.specs.Tables.{characteristics_in}
use Rattle.words_characteristic.proofs.is_rising.Given as goal

abbrev pub invariant-loop-i : goal.invariant-loop-i
invariant-loop-i l = (l.ok && up_from l.least (drop l.i (take l.count (characteristics_in l.tables)))) ≡ rises (take l.count (characteristics_in l.tables))
