-- What each return asks, from what the callees ensure.
use Rattle.std.specs.Prelude.{Option}
use Prim.Native.Nat.{ℕ, ◌+◌, ◌≤◌, zero, suc}
use mathlib.Core.Path.{◌≡◌, sym, ap, ◌∙◌}
use mathlib.Core.Bool.{Bool}
use mathlib.Core.List.{List}
use native.Mathlib.Omega.{arith}
use lib.ListN.{take, get_or}
use lib.Dec.{eqb}
use borrow.Author.Tests.{eq-eqb, ne_eqb}
use Rattle.bytes_base.specs.Bytes.{le_at}
use Rattle.bytes_base.specs.Choice.{pick}
use Rattle.lists.specs.Blocks.{bytes}
use Rattle.time.specs.declared.Micros.{Micros}
use Rattle.att_pdu.specs.Numbers.{op_read_rsp}
use Rattle.gatt_services.specs.declared.Service.{Service}
use Rattle.gatt_characteristics.specs.declared.Characteristics.{Characteristics}
use Rattle.gatt_descriptors.specs.Range.{descriptor_range}
use Rattle.state.specs.Central as state
use Rattle.state.specs.declared.Bearer.{Bearer}
use Rattle.state.specs.declared.StepStatus.TheVariants.{Ok}
use Rattle.script_rules.specs.World.{World, told}
use Rattle.link_rules.specs.Payload.{payload_at, with_mtu}
use Rattle.link_rules.specs.Answers.{smaller_mtu}
use Rattle.link_rules.proofs.AnswerLaws.{yes, no}
use Rattle.link_rules.specs.Moves.{become, over, range_end, unasked}
use Rattle.link_record.specs.Record.{agreed, answered, with_link}
use Rattle.state_core.specs.declared.Core.{Core}
use Rattle.state_core.specs.declared.Turn.{Turn}
use Rattle.state_core.specs.Reading.{central, held, world, with_bearer}

-- ---- the link record

pub unask-law : (t : Turn) (b : Bearer) → b ≡ with_link t.core.bearer (answered t.core.bearer.link)
    → (w s o : List ℕ) → world (record { core = with_bearer t.core b; sent = t.sent }) w s o ≡ become (world t w s o) (unasked (central t.core w))
unask-law t b e w s o =
    ap (λ (y : Bearer). record { held = record { state = state.with_bearer (central t.core w) y; store = s }; told = told t.sent o }) e

-- ---- the range that was asked for

module _ (c : Core) (x : Characteristics) (svc : Service) (g : Option (ℕ × ℕ)) (k : g ≡ descriptor_range x svc.start svc.end c.running.cursor) where
  pub after-law : (y : Option (ℕ × ℕ)) → g ≡ y
      → range_end svc.end y + 1 ≡ range_end svc.end (descriptor_range x svc.start svc.end c.running.cursor) + 1
  after-law y h = ap (λ (z : Option (ℕ × ℕ)). range_end svc.end z + 1) (sym h ∙ k)

-- ---- a step ends

pub mtu-law : (t r : Turn) (b : Bearer) (w w' st st' : List ℕ) (at : Micros) (n server m mtu : ℕ)
    → server ≡ le_at 2 (bytes st payload_at n) 1 → m ≡ smaller_mtu server mtu → b ≡ with_link t.core.bearer (agreed t.core.bearer.link m)
    → ((o : List ℕ) → world r w' st' o ≡ over (world (record { core = with_bearer t.core b; sent = t.sent }) w st o) at Ok)
    → (o : List ℕ) → world r w' st' o
    ≡ over (become (world t w st o) (with_mtu (central t.core w) (smaller_mtu (le_at 2 (bytes st payload_at n) 1) mtu))) at Ok
mtu-law t r b w w' st st' at n server m mtu e₁ e₂ e₃ e₄ o =
    e₄ o
    ∙ ap (λ (y : Bearer). over (become (world t w st o) (state.with_bearer (central t.core w) y)) at Ok)
    (e₃ ∙ ap (λ (v : ℕ). with_link t.core.bearer (agreed t.core.bearer.link v)) (e₂ ∙ ap (λ (v : ℕ). smaller_mtu v mtu) e₁))

-- a byte that isn't 0 is there
pub some_byte : (n op : ℕ) (s : List ℕ) → op ≡ get_or (take n s) 0 0 → op ≡ op_read_rsp → 1 ≤ n
some_byte zero op s e h = omega (arith, e, h)
some_byte (suc n) op s e h = omega arith

-- ---- an answer of one opcode

module _ (t : Turn) (w st : List ℕ) (n op code : ℕ) (e : op ≡ get_or (bytes st payload_at n) 0 0) where
  abbrev named : Bool
  named = eqb (get_or (bytes st payload_at n) 0 0) code

  pub told-law : (r : Turn) (w' st' : List ℕ) (f : World → World) → op ≡ code → ((o : List ℕ) → world r w' st' o ≡ f (world t w st o))
      → (o : List ℕ) → world r w' st' o ≡ pick named (f (world t w st o)) (world t w st o)
  told-law r w' st' f h k o = k o ∙ yes named (f (world t w st o)) (world t w st o) (eq-eqb (get_or (bytes st payload_at n) 0 0) code (sym e ∙ h))

  pub not-told : (f : World → World) → (op ≡ code → ⊥) → (o : List ℕ) → world t w st o ≡ pick named (f (world t w st o)) (world t w st o)
  not-told f h o = no named (f (world t w st o)) (world t w st o) (ne_eqb (get_or (bytes st payload_at n) 0 0) code (λ k. h (e ∙ k)))
