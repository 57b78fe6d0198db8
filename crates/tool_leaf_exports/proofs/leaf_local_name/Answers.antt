use mathlib.Core.Path.{◌≡◌, refl}
use Rattle.std.specs.Prelude.{Some, None}
use Rattle.adv_name.specs.Name.{local_name}
use Rattle.tool_leaf_exports.proofs.leaf_local_name.Goals as goal

pub returns-in-Some : goal.returns-in-Some
returns-in-Some c =
    let e : Some c.in-Some.body ≡ local_name c.args.«data».now = c.in-Some.ensures in
    rw (← e) (record { value = refl; start_after = refl; count_after = refl })

pub returns-in-None : goal.returns-in-None
returns-in-None c =
    let e : None ≡ local_name c.args.«data».now = c.in-None.ensures in
    rw (← e) (record { value = refl; start_after = refl; count_after = refl })
