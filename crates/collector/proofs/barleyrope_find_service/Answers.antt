use mathlib.Core.Path.{◌≡◌, refl}
use Prim.Native.Nat.{◌+◌, ◌*◌, ◌^◌}
use Rattle.std.specs.Prelude.{Some, None}
use Rattle.adv_data.specs.Ad.{listed_place, structures}
use Rattle.adv_data.proofs.Searches.{any_found}
use Rattle.collector.proofs.barleyrope_find_service.Goals as goal

pub returns-in-Some : goal.returns-in-Some
returns-in-Some c =
    let a = c.args in
    let u = a.low + 2 ^ 64 * a.high in
    let s = a.«data».now in
    let e : Some c.in-Some.body ≡ listed_place u s = c.in-Some.ensures in
    rw (any_found u (structures s), ← e) (record { value = refl; start_after = refl; count_after = refl })

pub returns-in-None : goal.returns-in-None
returns-in-None c =
    let a = c.args in
    let u = a.low + 2 ^ 64 * a.high in
    let s = a.«data».now in
    let e : None ≡ listed_place u s = c.in-None.ensures in
    rw (any_found u (structures s), ← e) (record { value = refl; start_after = refl; count_after = refl })
