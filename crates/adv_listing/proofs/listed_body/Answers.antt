use native.Mathlib.Omega.{arith}
use Rattle.uuid_value.specs.Value.{num}
use Rattle.adv_data.proofs.Searches.{found_at}
use Rattle.adv_listing.proofs.Bodies.{in-data, in-response, in-neither}
use Rattle.adv_listing.proofs.listed_body.Goals as goal

pub overflow_add-result : goal.overflow_add-result
overflow_add-result c =
    let a = c.args in
    let f = found_at (num a.uuid) a.«data».now _ c.in-Some.ensures in
    omega (arith, f.inside)

pub overflow_add-result-in-Some-search : goal.overflow_add-result-in-Some-search
overflow_add-result-in-Some-search c =
    let a = c.args in
    let f = found_at (num a.uuid) a.response.now _ c.in-Some-search.ensures in
    omega (arith, f.inside)

pub returns-in-Some : goal.returns-in-Some
returns-in-Some c =
    let a = c.args in
    let k = in-data (num a.uuid) a.«data» a.response _ c.in-Some.ensures in
    record { result_value = k.0; ref_ptr_value = k.1 }

pub returns-in-Some-search : goal.returns-in-Some-search
returns-in-Some-search c =
    let a = c.args in
    let k = in-response (num a.uuid) a.«data» a.response c.in-None.ensures _ c.in-Some-search.ensures in
    record { result_value = k.0; ref_ptr_value = k.1 }

pub returns-in-None-search : goal.returns-in-None-search
returns-in-None-search c =
    let a = c.args in
    let k = in-neither (num a.uuid) a.«data» a.response c.in-None.ensures c.in-None-search.ensures in
    record { result_value = k.0; ref_ptr_value = k.1 }

pub slice_bounds-result-end : goal.slice_bounds-result-end
slice_bounds-result-end c =
    let a = c.args in
    let f = found_at (num a.uuid) a.«data».now _ c.in-Some.ensures in
    omega (arith, f.inside)

pub slice_bounds-result-end-in-Some-search : goal.slice_bounds-result-end-in-Some-search
slice_bounds-result-end-in-Some-search c =
    let a = c.args in
    let f = found_at (num a.uuid) a.response.now _ c.in-Some-search.ensures in
    omega (arith, f.inside)
