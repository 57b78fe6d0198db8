-- What each return asks, from what the callees ensure.
use Prim.Native.Nat.{ℕ, ◌≤◌, ◌<◌}
use mathlib.Core.Path.{◌≡◌, ◌∙◌}
use mathlib.Core.List.{[]}
use native.Mathlib.Omega.{arith}
use lib.ListN.{length}
use borrow.Author.Tests.{lt-ltb, le-ltb, eq-eqb, ne_eqb}
use Rattle.time.specs.declared.Micros.{Micros}
use Rattle.att_pdu.specs.Pdu.{read_by_type_req}
use Rattle.gatt_services.specs.declared.Service.{Service}
use Rattle.script_rules.specs.World.{World}
use Rattle.script_rules.specs.Send.{Room, request}
use Rattle.script_rules.specs.Ready.{Ready}
use Rattle.script_rules.proofs.ReadyLaws.{ready-room}
use Rattle.script_rules.specs.Discovery.{characteristic_type, asking, discover_descriptors, discover_characteristics}

pub room-seven : (w : World) → Ready 64 w → Room w.told.sent (length w.told.out) 7
room-seven w r = ready-room 64 7 w r (omega arith) (omega arith)

module _ (w : World) (at : Micros) (svc : Service) (from : ℕ) where
  pub past_end : svc.end < from → discover_descriptors w at svc svc.start ≡ discover_characteristics w at svc from
  unfolding discover_characteristics
  past_end h = rw (lt-ltb svc.end from h)

  pub at_zero : from ≤ svc.end → from ≡ 0 → discover_descriptors w at svc svc.start ≡ discover_characteristics w at svc from
  unfolding discover_characteristics
  at_zero h k = rw (le-ltb svc.end from h, eq-eqb from 0 k)

  pub within_end : from ≤ svc.end → (from ≡ 0 → ⊥) → request (asking w 1 from) at (read_by_type_req from svc.end characteristic_type) ≡ discover_characteristics w at svc from
  unfolding discover_characteristics
  within_end h k = rw (le-ltb svc.end from h, ne_eqb from 0 k)
