-- What each return of the steps that exchange an MTU or ask for a characteristic asks, from what their callees ensure.
use Rattle.std.specs.Prelude.{Some}
use Prim.Native.Nat.{ℕ, ◌+◌, ◌≤◌, ◌<◌, max}
use mathlib.Core.Path.{◌≡◌, ap, ap₂, ◌∙◌}
use mathlib.Core.Bool.{Bool, true, false}
use mathlib.Core.List.{List}
use borrow.Author.Tests.{lt-ltb, le-ltb}
use Rattle.state_places.specs.Sizes.{running_at}
use Rattle.time.specs.declared.Micros.{Micros}
use Rattle.l2cap.specs.Numbers.{cid_att}
use Rattle.l2cap.specs.Frame.{att_pdu}
use Rattle.att_pdu.specs.Numbers.{op_write_req, op_write_cmd}
use Rattle.att_pdu.specs.Pdu.{exchange_mtu_req}
use Rattle.gatt_characteristics.specs.declared.Characteristic.{Characteristic}
use Rattle.state.specs.declared.Sent.{Sent}
use Rattle.state.specs.declared.StepStatus.TheVariants.{Ok, TooLong}
use Rattle.state_rules.specs.Steps.{default_mtu}
use Rattle.script_rules.specs.World.{Held, Told, World, told, on_held}
use Rattle.script_rules.specs.Send.{send, asked, request}
use Rattle.script_rules.specs.Start.{ends, commanded, write}
use Rattle.state_core.specs.declared.Core.{Core}
use Rattle.state_core.specs.declared.Turn.{Turn}
use Rattle.state_core.specs.Reading.{central, held, world}
use Rattle.script_turns.proofs.TurnLaws.{request-law}

pub mtu-law : (t r : Turn) (out out' : List ℕ) (at : Micros) (mtu m : ℕ) (pdu : List ℕ) → m ≡ max mtu default_mtu → pdu ≡ exchange_mtu_req m
    → ((w s : List ℕ) → world r w s out' ≡ request (world t w s out) at pdu)
    → (w s : List ℕ) → world r w s out' ≡ request (world t w s out) at (exchange_mtu_req (max mtu default_mtu))
mtu-law t r out out' at mtu m pdu e f g w s = g w s ∙ ap (λ (p : List ℕ). request (world t w s out) at p) (f ∙ ap exchange_mtu_req e)

-- ---- a value is written

pub tells-law : (t : Turn) (c : Core) (n : Sent) (w w' st st' out out' : List ℕ) (at : Micros) (handle k : ℕ)
    → told n out' ≡ send (told t.sent out) cid_att (att_pdu op_write_cmd handle st running_at k) → held c w' st' ≡ ends (held t.core w st) at Ok
    → world (record { core = c; sent = n }) w' st' out' ≡ commanded (world t w st out) at handle k
tells-law t c n w w' st st' out out' at handle k e f = ap₂ (λ (h : Held) (x : Told). record { held = h; told = x }) f e

pub asks-law : (t : Turn) (c : Core) (n : Sent) (st out out' : List ℕ) (at : Micros) (handle k : ℕ)
    → told n out' ≡ send (told t.sent out) cid_att (att_pdu op_write_req handle st running_at k)
    → ((w : List ℕ) → central c w ≡ asked (central t.core w) at op_write_req)
    → (w : List ℕ) → world (record { core = c; sent = n }) w st out' ≡ request (world t w st out) at (att_pdu op_write_req handle st running_at k)
asks-law t c n st out out' at handle k e f w = request-law t c n at out out' (att_pdu op_write_req handle st running_at k) e f w st

module _ (w : World) (at : Micros) (resp : Bool) (x : Characteristic) where
  abbrev mtu : ℕ
  mtu = w.held.state.bearer.link.mtu

  abbrev len : ℕ
  len = w.held.state.running.len

  pub write-long : mtu < len + 3 → on_held w (ends w.held at TooLong) ≡ write w at resp (Some x)
  unfolding write
  write-long h = rw (lt-ltb mtu (len + 3) h)

  pub write-asks : len + 3 ≤ mtu → resp ≡ true → request w at (att_pdu op_write_req x.value_handle w.held.store running_at len) ≡ write w at resp (Some x)
  unfolding write
  write-asks h g = rw (le-ltb mtu (len + 3) h, g)

  pub write-tells : len + 3 ≤ mtu → resp ≡ false → commanded w at x.value_handle len ≡ write w at resp (Some x)
  unfolding write
  write-tells h g = rw (le-ltb mtu (len + 3) h, g)
