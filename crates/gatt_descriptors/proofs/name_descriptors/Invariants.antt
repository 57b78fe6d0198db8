use Rattle.std.proofs.Common.{◌≡◌, ◌≤◌}
use Rattle.std.specs.Slice.Iter.{chunks_exact_rest, chunks_exact_size}
use Rattle.lists.specs.Cut.{entries, part}
use Rattle.gatt_descriptors.proofs.NamedLaws.{Naming}
use Rattle.gatt_descriptors.proofs.name_descriptors.Given as goal

abbrev pub invariant-loop-entry : goal.invariant-loop-entry
invariant-loop-entry l =
    Naming l.initial.table l.table (entries l.len (part l.from l.end l.s)) l.len l.first l.next (chunks_exact_rest l.entry-iterator)
    × (2 ≤ l.len)
    × (chunks_exact_size l.entry-iterator ≡ l.len)
