use Rattle.std.proofs.Common.{length}
use Rattle.radio_views.proofs.ViewLaws.{data-inside}
use Rattle.radio_views.proofs.report_data.Goals as goal

pub part-requires : goal.part-requires
part-requires c =
    let a = c.args in
    data-inside a.core a.tables.now (length a.store.now) a.i c.report.result _ c.report.ensures c.data_in-x.ensures
