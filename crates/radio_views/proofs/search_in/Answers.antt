use Rattle.std.proofs.Common.{arith}
use Rattle.uuid_value.specs.Value.{num}
use Rattle.radio_views.proofs.ViewLaws.{search-inside}
use Rattle.radio_views.proofs.search_in.Goals as goal

pub overflow_add-at : goal.overflow_add-at
overflow_add-at c =
    let a = c.args in
    omega (arith, search-inside (num a.uuid) a.store.now a.x _ (rw c.part.ensures.result_value at c.in_ok-body.ensures) c.requires)
