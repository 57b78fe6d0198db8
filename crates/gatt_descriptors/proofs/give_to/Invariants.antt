use Rattle.std.proofs.Common.{◌≡◌, drop, false}
use Rattle.gatt_characteristics.specs.Characteristic.{known}
use Rattle.gatt_descriptors.specs.Named.{below}
use Rattle.gatt_descriptors.proofs.give_to.Given as goal

abbrev pub invariant-loop-i : goal.invariant-loop-i
invariant-loop-i l = (below l.h (drop l.i (known l.t)) ≡ false) × (l.t ≡ l.initial.t)
