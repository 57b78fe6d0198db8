-- What each return of the walk through services asks, from what its callees ensure.
use Rattle.std.specs.Prelude.{Option, Some, None}
use Prim.Native.Nat.{ℕ, ◌+◌, ◌-◌, ◌≤◌, ◌<◌, ◌^◌}
use mathlib.Core.Path.{◌≡◌, sym, ap, subst, ◌∙◌}
use mathlib.Core.List.{List}
use lib.Dec.{ltb}
use borrow.Author.Tests.{lt-ltb, le-ltb}
use Rattle.lists.specs.Blocks.{bytes}
use Rattle.lists.specs.Cut.{entries, part}
use Rattle.lists.proofs.TakenLaws.{taken-most}
use Rattle.gatt_services.specs.declared.Services.{Services}
use Rattle.gatt_characteristics.specs.declared.Characteristics.{Characteristics}
use Rattle.script_rules.specs.World.{World}
use Rattle.script_rules.specs.Nearly.{Peer}
use Rattle.link_rules.specs.Payload.{payload_at}
use Rattle.link_rules.specs.Moves.{become, over, service_of}
use Rattle.time.specs.declared.Micros.{Micros}
use Rattle.uuid_value.specs.declared.Uuid.{Uuid}
use Rattle.gatt_services.specs.declared.Service.{Service}
use Rattle.state.specs.Central.{with_services}
use Rattle.state.specs.declared.StepStatus.TheVariants.{Ok, NotFound}
use Rattle.script_rules.specs.Discovery.{discover_characteristics}
use Rattle.link_questions.specs.declared.Goal.{Goal}
use Rattle.link_rules.specs.Services.{walk_into, services_done, services_found, services_heard}
use Rattle.link_rules.proofs.AnswerLaws.{entries-are, yes, no}
use Rattle.link_rules.proofs.AbleLaws.{few}
use Rattle.gatt_services.specs.Service as service
use Rattle.att_pdu.specs.declared.Found.{Found}
use Rattle.link_questions.specs.declared.Goal.TheVariants as goal

pub services-kept : (x y : Services) (z : Characteristics) (es : List (List ℕ)) (f : Found Services)
    → x ≡ y → f ≡ service.services_taken x es → Peer y z → Peer f.table z
services-kept x y z es f e g p =
    let h : x.count ≤ 32 = subst (λ (k : Services). k.count ≤ 32) (sym e) p.services in
    let k : (service.services_taken x es).table.count ≤ 32 =
    taken-most service.more service.end_of 32 (service.known x) 65535 es (few x.count 32 x.kept h) in
    record {
      services = subst (λ (q : Found Services). q.table.count ≤ 32) (sym g) k;
      characteristics = p.characteristics;
      rising = p.rising;
    }

module _ (w : World) (at : Micros) where
  pub into-none : (x : Option Service) → x ≡ None → over w at NotFound ≡ walk_into w at x
  unfolding walk_into
  into-none x e = sym (ap (walk_into w at) e)

  pub into_one : (x : Option Service) (svc : Service) → x ≡ Some svc
      → discover_characteristics w at svc svc.start ≡ walk_into w at x
  unfolding walk_into
  into_one x svc e = sym (ap (walk_into w at) e)

  pub done_all : (g : Goal) → g ≡ goal.All → over w at Ok ≡ services_done w at g
  unfolding services_done
  done_all g e = sym (ap (services_done w at) e)

  pub done-of : (g : Goal) (u : Uuid) (x : Option Service) → g ≡ goal.Of u → x ≡ service_of w u → walk_into w at x ≡ services_done w at g
  unfolding services_done
  done-of g u x e f = ap (walk_into w at) f ∙ sym (ap (services_done w at) e)

module _ (w v : World) (at : Micros) (g : Goal) (f : Found Services)
    (e : v ≡ become w (with_services w.held.state f.table)) where
  abbrev kept : World
  kept = become w (with_services w.held.state f.table)

module _ (w : World) (at : Micros) (g : Goal) (n size : ℕ) where
  abbrev services-all : Found Services
  services-all = service.services_taken w.held.state.services (entries size (bytes w.held.store (payload_at + 2) (n - 2)))

  pub services-none : size < 6 → services_done w at g ≡ services_heard w at g n size
  unfolding services_heard
  services-none h = yes (ltb size 6) (services_done w at g) (services_found w at g services-all) (lt-ltb size 6 h)

  pub services-some : 6 ≤ size → (x : Services) (end : ℕ) (f : Found Services) → x ≡ w.held.state.services → end ≡ payload_at + 2 + (n - 2)
      → f ≡ service.services_taken x (entries size (part (payload_at + 2) end w.held.store)) → services_found w at g f ≡ services_heard w at g n size
  unfolding services_heard
  services-some h x end f e₁ e₂ e₃ =
      let q : f ≡ services-all =
      e₃
      ∙ ap (λ (y : Services). service.services_taken y (entries size (part (payload_at + 2) end w.held.store))) e₁
      ∙ ap (service.services_taken w.held.state.services) (entries-are w.held.store n size end e₂) in
      ap (services_found w at g) q ∙ no (ltb size 6) (services_done w at g) (services_found w at g services-all) (le-ltb size 6 h)
