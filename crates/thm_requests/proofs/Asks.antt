-- What a hop does to the request that is awaited: leaves it, ends the wait, or sends one.
use Prim.Native.Nat.{ℕ, ◌≤◌}
use mathlib.Core.Path.{◌≡◌, refl, ◌∙◌}
use mathlib.Core.Bool.{Bool, true, false, not, ◌&&◌}
use mathlib.Core.List.{List}
use lib.ListN.{length, get_or}
use lib.Dec.{eqb}
use Rattle.bytes_base.specs.Choice.{pick}
use Rattle.time.specs.declared.Micros.{Micros}
use Rattle.l2cap.specs.Numbers.{cid_att}
use Rattle.state.specs.declared.StepStatus.{StepStatus}
use Rattle.state_rules.specs.Fit.{awaits, is_request}
use Rattle.state_rules.specs.Steps.{most_mtu}
use Rattle.script_rules.specs.World.{Held, Told, World, on_held}
use Rattle.script_rules.specs.Finish.{ended, finish}
use Rattle.script_rules.specs.Send.{send, request}
use Rattle.script_rules.specs.Discovery.{asking}
use Rattle.thm_requests.specs.Events.{asks_for}
use Rattle.thm_requests.specs.Sorts.{initiates}

-- the same frames in the same bytes (the link request apart)
pub record As (x s : Told) : Type 0 where
  pub frames : s.sent.frames ≡ x.sent.frames
  pub bytes : s.sent.bytes ≡ x.sent.bytes
  pub out : s.out ≡ x.out

pub itself : (t : Told) → As t t
itself t = record { frames = refl; bytes = refl; out = refl }

-- nothing goes out, or something that is no request
pub data Voice (t s : Told) : Type 0 where
  hushed : As t s → Voice t s
  speaks : (channel : ℕ) (payload : List ℕ) → channel ≤ 65535 → length payload ≤ most_mtu → asks_for channel payload ≡ false → As (send t channel payload) s → Voice t s

-- nothing goes out, or something that is neither a request nor a command
pub data Reply (t s : Told) : Type 0 where
  mute : As t s → Reply t s
  replies : (channel : ℕ) (payload : List ℕ) → channel ≤ 65535 → length payload ≤ most_mtu → asks_for channel payload ≡ false → initiates channel payload ≡ false
      → As (send t channel payload) s → Reply t s

pub voiced : {t s : Told} → Reply t s → Voice t s
voiced (mute a) = hushed a
voiced (replies channel payload c m e f a) = speaks channel payload c m e a

pub record Calmly (w v : World) : Type 0 where
  pub pending : v.held.state.bearer.link.pending ≡ w.held.state.bearer.link.pending
  pub present : v.held.state.bearer.present ≡ w.held.state.bearer.present
  pub active : v.held.state.running.active ≡ w.held.state.running.active
  pub index : v.held.state.running.index ≡ w.held.state.running.index
  pub voice : Voice w.told v.told

pub record Asking (w v : World) : Type 0 where
  pub pdu : List ℕ
  pub short : length pdu ≤ most_mtu
  pub told : As (send w.told cid_att pdu) v.told
  pub opcode : v.held.state.bearer.link.pending ≡ get_or pdu 0 0
  pub request : is_request (get_or pdu 0 0) ≡ true
  pub active : v.held.state.running.active ≡ true
  pub index : v.held.state.running.index ≡ w.held.state.running.index

pub data Asks (w v : World) : Type 0 where
  calm : Calmly w v → Asks w v
  none : awaits v.held.state.bearer ≡ false → Voice w.told v.told → Asks w v
  asks : Asking w v → Asks w v

pub asks_none : (w : World) → Asks w w
asks_none w = calm (record { pending = refl; present = refl; active = refl; index = refl; voice = hushed (itself w.told) })

-- another part of the state
pub mild : {w : World} {g : Held} → g.state.bearer.link.pending ≡ w.held.state.bearer.link.pending → g.state.bearer.present ≡ w.held.state.bearer.present
    → g.state.running.active ≡ w.held.state.running.active → g.state.running.index ≡ w.held.state.running.index → Calmly w (on_held w g)
mild {w} a b c d = record { pending = a; present = b; active = c; index = d; voice = hushed (itself w.told) }

-- after a change of other parts
pub asks-then : {w : World} {g : Held} {v : World} → Calmly w (on_held w g) → Asks (on_held w g) v → Asks w v
asks-then a (calm b) = calm (record { pending = b.pending ∙ a.pending; present = b.present ∙ a.present; active = b.active ∙ a.active; index = b.index ∙ a.index; voice = b.voice })
asks-then a (none b v) = none b v
asks-then a (asks b) = asks (record { pdu = b.pdu; short = b.short; told = b.told; opcode = b.opcode; request = b.request; active = b.active; index = b.index ∙ a.index })

pub not-awaited : (b : Bool) → (b && false) ≡ false
not-awaited true = refl
not-awaited false = refl

pub same-wait : (p q : ℕ) (b d : Bool) → p ≡ q → b ≡ d → (b && not (eqb p 0)) ≡ (d && not (eqb q 0))
same-wait p q b d e f = rw (e, f)

-- after the wait has ended
pub asks-quit : {w : World} {g : Held} {v : World} → awaits g.state.bearer ≡ false → g.state.running.index ≡ w.held.state.running.index → Asks (on_held w g) v → Asks w v
asks-quit {w} {g} {v} e i (calm b) =
    none (same-wait v.held.state.bearer.link.pending g.state.bearer.link.pending v.held.state.bearer.present g.state.bearer.present b.pending b.present ∙ e) b.voice
asks-quit e i (none b v) = none b v
asks-quit e i (asks b) = asks (record { pdu = b.pdu; short = b.short; told = b.told; opcode = b.opcode; request = b.request; active = b.active; index = b.index ∙ i })

-- a step ends: nothing is awaited
pub asks-finish : (w : World) (at : Micros) (st : StepStatus) (from n heard : ℕ) → Asks w (on_held w (finish w.held at st from n heard))
unfolding finish ended
asks-finish w at st from n heard = go w.held.state.running.active
  where
    go : (b : Bool) → Asks w (on_held w (pick b (ended w.held at st from n heard) w.held))
    go true = none (not-awaited w.held.state.bearer.present) (hushed (itself w.told))
    go false = asks_none w

-- a request goes out
pub asks-request : (w : World) (at : Micros) (pdu : List ℕ) → w.held.state.running.active ≡ true → length pdu ≤ most_mtu → is_request (get_or pdu 0 0) ≡ true → Asks w (request w at pdu)
unfolding request
asks-request w at pdu a l r = asks (record { pdu = pdu; short = l; told = itself (send w.told cid_att pdu); opcode = refl; request = r; active = a; index = refl })

pub asks-asking : (w : World) (phase cursor : ℕ) (at : Micros) (pdu : List ℕ) → w.held.state.running.active ≡ true → length pdu ≤ most_mtu → is_request (get_or pdu 0 0) ≡ true
    → Asks w (request (asking w phase cursor) at pdu)
unfolding request
asks-asking w phase cursor at pdu a l r = asks (record { pdu = pdu; short = l; told = itself (send w.told cid_att pdu); opcode = refl; request = r; active = a; index = refl })
