-- What each return asks, from what the callees ensure.
use Rattle.std.specs.Prelude.{Option, Some, None}
use Prim.Native.Nat.{ℕ, ◌≤◌}
use mathlib.Core.Path.{◌≡◌, sym, ap, subst, ◌∙◌}
use mathlib.Core.List.{List, []}
use native.Mathlib.Omega.{arith}
use Rattle.state_places.specs.Sizes.{held_at}
use Rattle.time.specs.declared.Micros.{Micros}
use Rattle.att_pdu.specs.Pdu.{read_by_group_type_req, find_information_req}
use Rattle.gatt_services.specs.declared.Service.{Service}
use Rattle.gatt_descriptors.specs.Range.{descriptor_range}
use Rattle.state.specs.declared.Sent.{Sent}
use Rattle.state.specs.declared.StepStatus.TheVariants.{Ok}
use Rattle.script_rules.specs.World.{World, on_held}
use Rattle.script_rules.specs.Finish.{finish}
use Rattle.script_rules.specs.Send.{Room, request}
use Rattle.script_rules.specs.Discovery.{last_handle, primary_service, asking, discover_services, ask_range, discover_descriptors}
use Rattle.words_characteristic.specs.Parts.{in_table}
use Rattle.state_core.specs.declared.Turn.{Turn}
use Rattle.state_core.specs.Reading.{held, world}

-- a request goes out once the place is noted
pub asked-thus : (t u r : Turn) (out out' : List ℕ) (at : Micros) (phase cursor : ℕ) (pdu is : List ℕ)
    → ((w s o : List ℕ) → world u w s o ≡ asking (world t w s o) phase cursor) → pdu ≡ is
    → ((w s : List ℕ) → world r w s out' ≡ request (world u w s out) at pdu)
    → (w s : List ℕ) → world r w s out' ≡ request (asking (world t w s out) phase cursor) at is
asked-thus t u r out out' at phase cursor pdu is e f g w s =
    g w s ∙ ap (λ (x : World). request x at pdu) (e w s out) ∙ ap (λ (p : List ℕ). request (asking (world t w s out) phase cursor) at p) f

pub may-ask : (t u : Turn) (o n : ℕ) (phase cursor : ℕ) → ((w s o : List ℕ) → world u w s o ≡ asking (world t w s o) phase cursor)
    → Room t.sent o 7 → n ≤ 7 → Room u.sent o n
may-ask t u o n phase cursor e r h =
    let q : u.sent ≡ t.sent = ap (λ (w : World). w.told.sent) (e [] [] []) in
    let p : Room t.sent o n = record { frames = r.frames; fits = omega (arith, r.fits); short = omega arith } in
    subst (λ (x : Sent). Room x o n) (sym q) p

pub services-asked : (t r : Turn) (out out' : List ℕ) (at : Micros) (from : ℕ)
    → ((w s : List ℕ) → world r w s out' ≡ request (asking (world t w s out) 0 from) at (read_by_group_type_req from last_handle primary_service))
    → (w s : List ℕ) → world r w s out' ≡ discover_services (world t w s out) at from
unfolding discover_services
services-asked t r out out' at from e w s = e w s

module _ (t : Turn) (w st out : List ℕ) (at : Micros) (svc : Service) (from : ℕ) (g : Option (ℕ × ℕ))
    (f : g ≡ descriptor_range (in_table w t.core.counts.characteristics) svc.start svc.end from) where
  by-range : (k : Option (ℕ × ℕ)) → g ≡ k → ask_range (world t w st out) at k ≡ discover_descriptors (world t w st out) at svc from
  unfolding discover_descriptors
  by-range k h = ap (ask_range (world t w st out) at) (sym h ∙ f)

  pub none_left : (r : Turn) (w' st' : List ℕ) → g ≡ None
      → ((o : List ℕ) → world r w' st' o ≡ on_held (world t w st o) (finish (held t.core w st) at Ok held_at 0 0))
      → world r w' st' out ≡ discover_descriptors (world t w st out) at svc from
  unfolding ask_range
  none_left r w' st' h p = p out ∙ by-range None h

  pub some_left : (r : Turn) (out' : List ℕ) (a b : ℕ) → g ≡ Some (a, b)
      → ((w s : List ℕ) → world r w s out' ≡ request (asking (world t w s out) 2 a) at (find_information_req a b))
      → world r w st out' ≡ discover_descriptors (world t w st out) at svc from
  unfolding ask_range
  some_left r out' a b h p = p w st ∙ by-range (Some (a, b)) h
