use lib.ListN.{length}
use Rattle.uuid_value.specs.Value.{num}
use Rattle.radio_sights.specs.View.{view}
use Rattle.radio_sights.proofs.ViewLaws.{body-told}
use Rattle.state_core.specs.Reading.{central}
use Rattle.radio_views.proofs.report_body.Goals as goal

pub returns : goal.returns
returns c =
    let a = c.args in
    let bytes = c.report_data-data in
    let answer = c.report_response-response in
    let body = c.listed_body in
    let both = body-told (num a.uuid) a.store.now a.store.ref_ptr (view (central a.core a.tables.now) (length a.store.now) a.i) bytes.result answer.result
    bytes.ensures.result_value bytes.ensures.ref_ptr_value answer.ensures.result_value answer.ensures.ref_ptr_value _ _ body.ensures.result_value body.ensures.ref_ptr_value in
    record { result_value = both.0; ref_ptr_value = both.1 }
