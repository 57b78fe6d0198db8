-- What each return of the steps that ask for a characteristic asks, from what their callees ensure.
use Rattle.std.specs.Prelude.{Option, Some, None}
use Prim.Native.Nat.{ℕ, ◌+◌, ◌%◌, ◌/◌, ◌≤◌, ◌<◌}
use mathlib.Core.Path.{◌≡◌, refl, sym, ap, ◌∙◌}
use mathlib.Core.Bool.{Bool}
use mathlib.Core.List.{List, [], ◌∷◌}
use Rattle.bytes_base.specs.Bytes.{le_bytes}
use Rattle.time.specs.declared.Micros.{Micros}
use Rattle.att_pdu.specs.Pdu.{write_req, read_req}
use Rattle.gatt_characteristics.specs.declared.Characteristic.{Characteristic}
use Rattle.state.specs.declared.StepStatus.TheVariants.{NotFound}
use Rattle.script_rules.specs.World.{World, on_held}
use Rattle.script_rules.specs.Send.{request}
use Rattle.script_rules.specs.Start.{ends, configuration, subscribe_at, subscribe, write, read}

module _ (w : World) (at : Micros) where
  pub read_none : on_held w (ends w.held at NotFound) ≡ read w at None
  unfolding read
  read_none = refl

  pub read_one : (x : Characteristic) (pdu : List ℕ) → pdu ≡ read_req x.value_handle → request w at pdu ≡ read w at (Some x)
  unfolding read
  read_one x pdu e = ap (request w at) e

  pub subscribe-none : (i : Bool) → on_held w (ends w.held at NotFound) ≡ subscribe w at i None
  unfolding subscribe
  subscribe-none i = refl

  pub subscribe-one : (i : Bool) (x : Characteristic) → subscribe_at w at i x.cccd ≡ subscribe w at i (Some x)
  unfolding subscribe
  subscribe-one i x = refl

  pub cccd-unknown : (i : Bool) (d : Option ℕ) → d ≡ None → on_held w (ends w.held at NotFound) ≡ subscribe_at w at i d
  unfolding subscribe_at
  cccd-unknown i d e = sym (ap (subscribe_at w at i) e)

  pub cccd-known : (i : Bool) (d : Option ℕ) (handle : ℕ) (pdu : List ℕ) → d ≡ Some handle → pdu ≡ write_req handle (configuration i) → request w at pdu ≡ subscribe_at w at i d
  unfolding subscribe_at
  cccd-known i d handle pdu e f = ap (request w at) f ∙ sym (ap (subscribe_at w at i) e)

  pub write-none : (r : Bool) → on_held w (ends w.held at NotFound) ≡ write w at r None
  unfolding write
  write-none r = refl

pub configure-law : (handle lo hi : ℕ) (i x : Bool) → lo ≡ handle % 256 → hi ≡ handle / 256 % 256 → i ≡ x
    → 0x12 ∷ lo ∷ hi ∷ configuration x ≡ write_req handle (configuration i)
unfolding le_bytes
configure-law handle lo hi i x e f g = rw (e, f, g)
