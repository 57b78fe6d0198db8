-- What a piece of work sends: nothing, or one frame, with an ATT payload within the MTU m that was in force before it.
use Prim.Native.Nat.{ℕ, ◌≤◌}
use mathlib.Core.Path.{◌≡◌, refl}
use mathlib.Core.Bool.{Bool, true, false}
use mathlib.Core.List.{List}
use native.Mathlib.Omega.{arith}
use lib.ListN.{length}
use Rattle.bytes_base.specs.Choice.{pick}
use Rattle.time.specs.declared.Micros.{Micros}
use Rattle.l2cap.specs.Numbers.{cid_att}
use Rattle.state_rules.specs.Steps.{default_mtu, most_mtu}
use Rattle.script_rules.specs.World.{Told, World}
use Rattle.script_rules.specs.Send.{send, request}

-- the frames and the bytes told, and the output, are as they were; a link request is no frame
pub record Quiet (t u : Told) : Type 0 where
  pub frames : u.sent.frames ≡ t.sent.frames
  pub bytes : u.sent.bytes ≡ t.sent.bytes
  pub out : u.out ≡ t.out

pub record One (m : ℕ) (t u : Told) : Type 0 where
  pub channel : ℕ
  pub payload : List ℕ
  pub known : channel ≤ 65535
  pub short : length payload ≤ most_mtu
  pub within : channel ≡ cid_att → length payload ≤ m
  pub sent : Quiet (send t channel payload) u

pub data Sends (m : ℕ) (t u : Told) : Type 0 where
  quiet : Quiet t u → Sends m t u
  one : One m t u → Sends m t u

pub same : (t : Told) → Quiet t t
same t = record { frames = refl; bytes = refl; out = refl }

pub nothing : (m : ℕ) (t : Told) → Sends m t t
nothing m t = quiet (same t)

-- one of two ways
pub either : {m : ℕ} {t : Told} (b : Bool) (x y : World) → Sends m t x.told → Sends m t y.told → Sends m t (pick b x y).told
either true x y p q = p
either false x y p q = q

-- an MTU that a link may have
pub record Mtu (m : ℕ) : Type 0 where
  pub low : default_mtu ≤ m
  pub high : m ≤ most_mtu

pub sends-att : (m : ℕ) (t : Told) (pdu : List ℕ) → Mtu m → length pdu ≤ m → Sends m t (send t cid_att pdu)
sends-att m t pdu k s =
    one (record { channel = cid_att; payload = pdu; known = omega arith; short = omega (arith, k.high); within = λ e. s; sent = same (send t cid_att pdu) })

pub sends-request : (m : ℕ) (w : World) (at : Micros) (pdu : List ℕ) → Mtu m → length pdu ≤ m → Sends m w.told (request w at pdu).told
unfolding request
sends-request m w at pdu k s = sends-att m w.told pdu k s
