use Rattle.std.proofs.Common.{rules, ltb, Bool}
use Rattle.std.proofs.lemmas.List.Sorted.{IsPartitionPoint-from_clause}
use Rattle.gatt_characteristics.specs.declared.Characteristic.{Characteristic}
use Rattle.gatt_characteristics.proofs.RisingLaws.{parted, place-is}
use Rattle.gatt_characteristics.proofs.declared_below.Goals as goal

pub returns-clause-place : goal.returns-clause-place
returns-clause-place c =
    let below : Characteristic → Bool = λ (x : Characteristic). ltb x.declaration c.args.declaration in
    place-is c.args.declaration c.args.known.now _ c.partition_point.ensures.bound
    (IsPartitionPoint-from_clause below c.args.known.now _ c.partition_point.ensures.partitioned (parted c.args.declaration c.args.known.now c.requires) (search rules))
