use Rattle.std.proofs.Common.{◌≡◌, ◌≤◌, take}
use Rattle.std.specs.Slice.Iter.{chunks_exact_rest, chunks_exact_size}
use Rattle.lists.specs.Cut.{entries, part}
use Rattle.lists.specs.Taken.{taken}
use Rattle.lists.proofs.TakenLaws.{Going}
use Rattle.gatt_services.specs.Service.{more, end_of}
use Rattle.gatt_services.proofs.take_services.Given as goal

abbrev pub invariant-loop-entry : goal.invariant-loop-entry
invariant-loop-entry l =
    Going more end_of 32 l.len (taken more end_of 32 (take l.initial.count l.initial.kept) 65535 (entries l.len (part l.from l.end l.s)))
    l.initial.kept l.kept l.count l.last (chunks_exact_rest l.entry-iterator)
    × (4 ≤ l.len)
    × (chunks_exact_size l.entry-iterator ≡ l.len)
