use Rattle.std.proofs.Common.{◌≡◌, ◌≤◌, take}
use Rattle.std.specs.Slice.Iter.{chunks_exact_rest, chunks_exact_size}
use Rattle.lists.specs.Cut.{entries, part}
use Rattle.lists.specs.Taken.{taken}
use Rattle.lists.proofs.TakenLaws.{Going}
use Rattle.gatt_characteristics.specs.Characteristic.{Rising, more, declaration_of}
use Rattle.gatt_characteristics.proofs.take_characteristics.Given as goal

abbrev pub invariant-loop-entry : goal.invariant-loop-entry
invariant-loop-entry l =
    Going more declaration_of 64 l.len (taken more declaration_of 64 (take l.initial.count l.initial.kept) l.none (entries l.len (part l.from l.end l.s)))
    l.initial.kept l.kept l.count l.last (chunks_exact_rest l.entry-iterator)
    × Rising (take l.count l.kept)
    × (5 ≤ l.len)
    × (chunks_exact_size l.entry-iterator ≡ l.len)
