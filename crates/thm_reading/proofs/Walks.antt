-- The walks of discovery are blind to dead places.
use Rattle.std.specs.Prelude.{Option, Some, None}
use Prim.Native.Nat.{ℕ, ◌+◌}
use mathlib.Core.Path.{◌≡◌, sym, ap, ◌∙◌}
use mathlib.Core.Bool.{Bool}
use mathlib.Core.List.{List}
use lib.Dec.{eqb, leb, ltb}
use Rattle.bytes_base.specs.Choice.{pick}
use Rattle.state_places.specs.Sizes.{held_at, most_services, most_characteristics}
use Rattle.time.specs.declared.Micros.{Micros}
use Rattle.lists.specs.Taken.{taken}
use Rattle.gatt_services.specs.Service as service
use Rattle.gatt_services.specs.declared.Service.{Service}
use Rattle.gatt_characteristics.specs.Characteristic as characteristic
use Rattle.gatt_characteristics.specs.declared.Characteristic.{Characteristic}
use Rattle.gatt_descriptors.specs.Named.{given_all, after, descriptors_named}
use Rattle.state.specs.Central.{with_services, with_characteristics}
use Rattle.state.specs.declared.StepStatus.{StepStatus}
use Rattle.state.specs.declared.StepStatus.TheVariants.{Ok, NotFound, TableFull}
use Rattle.script_rules.specs.World.{World}
use Rattle.script_rules.specs.Discovery.{last_handle, discover_services, discover_descriptors, discover_characteristics}
use Rattle.link_rules.specs.Answers.{width_of}
use Rattle.link_questions.specs.declared.Goal.{Goal}
use Rattle.link_questions.specs.declared.Goal.TheVariants as goal
use Rattle.link_rules.specs.Moves.{over, become, service_of, entries_of, range_end, after_range}
use Rattle.link_rules.specs.Services.{walk_into, services_done, services_found, services_heard}
use Rattle.link_rules.specs.Characteristics.{characteristics_found, characteristics_heard, characteristics_done, go_on, descriptors_found, descriptors_heard, range_done}
use Rattle.thm_reading.specs.Live.{live, live_services, live_characteristics}
use Rattle.thm_reading.proofs.Tables.{cut_twice, live-twice, services-hold, characteristics-hold}
use Rattle.thm_reading.proofs.Blind.{cut_world, pick-both, via}
use Rattle.thm_reading.proofs.Turns.{finish-world}
use Rattle.thm_reading.proofs.Starts.{by-service, by-range, discover-services-blind, discover-descriptors-blind, discover-characteristics-blind}

-- ---- another list in a table of the peer

services-become : (w : World) (l : List Service)
    → cut_world (become w (with_services w.held.state (service.holding w.held.state.services l)))
    ≡ cut_world (become (cut_world w) (with_services (live w.held.state) (service.holding (live_services w.held.state.services) l)))
services-become w l = λ i.
    record {
      held = record { state = with_services (sym (live-twice w.held.state) i) (same i); store = w.held.store };
      told = w.told;
    }
  where
    same : live_services (service.holding w.held.state.services l) ≡ live_services (service.holding (live_services w.held.state.services) l)
    same = services-hold w.held.state.services l ∙ sym (services-hold (live_services w.held.state.services) l)

characteristics-become : (w : World) (l : List Characteristic)
    → cut_world (become w (with_characteristics w.held.state (characteristic.holding w.held.state.characteristics l)))
    ≡ cut_world (become (cut_world w) (with_characteristics (live w.held.state) (characteristic.holding (live_characteristics w.held.state.characteristics) l)))
characteristics-become w l = λ i.
    record {
      held = record { state = with_characteristics (sym (live-twice w.held.state) i) (same i); store = w.held.store };
      told = w.told;
    }
  where
    same : live_characteristics (characteristic.holding w.held.state.characteristics l)
        ≡ live_characteristics (characteristic.holding (live_characteristics w.held.state.characteristics) l)
    same = characteristics-hold w.held.state.characteristics l ∙ sym (characteristics-hold (live_characteristics w.held.state.characteristics) l)

module _ (at : Micros) where
  pub over-blind : (w : World) (status : StepStatus) → cut_world (over w at status) ≡ cut_world (over (cut_world w) at status)
  over-blind w status = finish-world w at status held_at 0 0

  -- ---- services

  walk-into-blind : (w : World) (x : Option Service) → cut_world (walk_into w at x) ≡ cut_world (walk_into (cut_world w) at x)
  unfolding walk_into
  walk-into-blind w None = over-blind w NotFound
  walk-into-blind w (Some svc) = discover-characteristics-blind at w svc svc.start

  pub services-done-blind : (w : World) (g : Goal) → cut_world (services_done w at g) ≡ cut_world (services_done (cut_world w) at g)
  unfolding services_done
  services-done-blind w goal.All = over-blind w Ok
  services-done-blind w (goal.Of u) = walk-into-blind w (service_of w u) ∙ by-service (λ x. cut_world (walk_into (cut_world w) at x)) w.held.state u

  services-found-blind : (w : World) (g : Goal) (l : List Service) (last : ℕ) (full : Bool)
      → cut_world (services_found w at g (record { table = service.holding w.held.state.services l; last = last; full = full }))
      ≡ cut_world (services_found (cut_world w) at g (record { table = service.holding (live_services w.held.state.services) l; last = last; full = full }))
  unfolding services_found
  services-found-blind w g l last full =
      let v : World = become w (with_services w.held.state (service.holding w.held.state.services l)) in
      let u : World = become (cut_world w) (with_services (live w.held.state) (service.holding (live_services w.held.state.services) l)) in
      let e : cut_world v ≡ cut_world u = services-become w l in
      pick-both cut_world full
      (over v at TableFull) (pick (eqb last last_handle) (services_done v at g) (discover_services v at (last + 1)))
      (over u at TableFull) (pick (eqb last last_handle) (services_done u at g) (discover_services u at (last + 1)))
      (via cut_world cut_world (λ x. over x at TableFull) (λ x. over-blind x TableFull) v u e)
      (pick-both cut_world (eqb last last_handle)
      (services_done v at g) (discover_services v at (last + 1))
      (services_done u at g) (discover_services u at (last + 1))
      (via cut_world cut_world (λ x. services_done x at g) (λ x. services-done-blind x g) v u e)
      (via cut_world cut_world (λ x. discover_services x at (last + 1)) (λ x. discover-services-blind at x (last + 1)) v u e))

  pub services-heard-blind : (w : World) (g : Goal) (n size : ℕ) → cut_world (services_heard w at g n size) ≡ cut_world (services_heard (cut_world w) at g n size)
  unfolding services_heard
  services-heard-blind w g n size =
      let t = w.held.state.services in
      let es : List (List ℕ) = entries_of w n size in
      let have = taken service.more service.end_of most_services (service.known t) last_handle es in
      pick-both cut_world (ltb size 6)
      (services_done w at g) (services_found w at g (service.services_taken t es))
      (services_done (cut_world w) at g) (services_found (cut_world w) at g (service.services_taken (live_services t) es))
      (services-done-blind w g)
      (services-found-blind w g have.list have.last have.full
      ∙ ap
      (λ (l : List Service). cut_world (services_found (cut_world w) at g (service.found_by (live_services t) (taken service.more service.end_of most_services l last_handle es))))
      (sym (cut_twice t.count t.kept)))

  -- ---- characteristics

  characteristics-found-blind : (w : World) (svc : Service) (l : List Characteristic) (last : ℕ) (full : Bool)
      → cut_world (characteristics_found w at svc (record { table = characteristic.holding w.held.state.characteristics l; last = last; full = full }))
      ≡ cut_world (characteristics_found (cut_world w) at svc
      (record { table = characteristic.holding (live_characteristics w.held.state.characteristics) l; last = last; full = full }))
  unfolding characteristics_found
  characteristics-found-blind w svc l last full =
      let t = w.held.state.characteristics in
      let v : World = become w (with_characteristics w.held.state (characteristic.holding t l)) in
      let u : World = become (cut_world w) (with_characteristics (live w.held.state) (characteristic.holding (live_characteristics t) l)) in
      let e : cut_world v ≡ cut_world u = characteristics-become w l in
      let descriptors : World → World = λ x. discover_descriptors x at svc svc.start in
      let more : World → World = λ x. discover_characteristics x at svc (last + 1) in
      pick-both cut_world full
      (over v at TableFull) (pick (leb svc.end last) (descriptors v) (more v))
      (over u at TableFull) (pick (leb svc.end last) (descriptors u) (more u))
      (via cut_world cut_world (λ x. over x at TableFull) (λ x. over-blind x TableFull) v u e)
      (pick-both cut_world (leb svc.end last) (descriptors v) (more v) (descriptors u) (more u)
      (via cut_world cut_world descriptors (λ x. discover-descriptors-blind at x svc svc.start) v u e)
      (via cut_world cut_world more (λ x. discover-characteristics-blind at x svc (last + 1)) v u e))

  pub characteristics-heard-blind : (w : World) (n size : ℕ) (x : Option Service)
      → cut_world (characteristics_heard w at n size x) ≡ cut_world (characteristics_heard (cut_world w) at n size x)
  unfolding characteristics_heard
  characteristics-heard-blind w n size None = over-blind w NotFound
  characteristics-heard-blind w n size (Some svc) =
      let t = w.held.state.characteristics in
      let es : List (List ℕ) = entries_of w n size in
      let have = taken characteristic.more characteristic.declaration_of most_characteristics (characteristic.known t) svc.end es in
      pick-both cut_world (ltb size 7)
      (discover_descriptors w at svc svc.start) (characteristics_found w at svc (characteristic.characteristics_taken t svc.end es))
      (discover_descriptors (cut_world w) at svc svc.start)
      (characteristics_found (cut_world w) at svc (characteristic.characteristics_taken (live_characteristics t) svc.end es))
      (discover-descriptors-blind at w svc svc.start)
      (characteristics-found-blind w svc have.list have.last have.full
      ∙ ap
      (λ (l : List Characteristic). cut_world (characteristics_found (cut_world w) at svc
      (characteristic.found_by (live_characteristics t) (taken characteristic.more characteristic.declaration_of most_characteristics l svc.end es))))
      (sym (cut_twice t.count t.kept)))

  pub characteristics-done-blind : (w : World) (x : Option Service) → cut_world (characteristics_done w at x) ≡ cut_world (characteristics_done (cut_world w) at x)
  unfolding characteristics_done
  characteristics-done-blind w None = over-blind w NotFound
  characteristics-done-blind w (Some svc) = discover-descriptors-blind at w svc svc.start

  -- ---- descriptors

  go-on-blind : (w : World) (svc : Service) (from : ℕ) → cut_world (go_on w at svc from) ≡ cut_world (go_on (cut_world w) at svc from)
  unfolding go_on
  go-on-blind w svc from =
      pick-both cut_world (leb from svc.end)
      (discover_descriptors w at svc from) (over w at Ok)
      (discover_descriptors (cut_world w) at svc from) (over (cut_world w) at Ok)
      (discover-descriptors-blind at w svc from) (over-blind w Ok)

  -- past the range that was asked for
  by_after : {X : Type 0} (f : ℕ → X) (w : World) (svc : Service) → f (after_range w svc) ≡ f (after_range (cut_world w) svc)
  by_after f w svc = by-range (λ r. f (range_end svc.end r + 1)) w.held.state svc.start svc.end w.held.state.running.cursor

  past-blind : (w : World) (svc : Service) → cut_world (go_on w at svc (after_range w svc)) ≡ cut_world (go_on (cut_world w) at svc (after_range (cut_world w) svc))
  past-blind w svc = go-on-blind w svc (after_range w svc) ∙ by_after (λ m. cut_world (go_on (cut_world w) at svc m)) w svc

  named-blind : (w : World) (svc : Service) (es : List (List ℕ))
      → cut_world (descriptors_found w at svc (descriptors_named w.held.state.characteristics (after_range w svc) es))
      ≡ cut_world (descriptors_found (cut_world w) at svc (descriptors_named (live_characteristics w.held.state.characteristics) (after_range (cut_world w) svc) es))
  named-blind w svc es =
      let t = w.held.state.characteristics in
      let l : List Characteristic = given_all (characteristic.known t) es in
      let v : World = become w (with_characteristics w.held.state (characteristic.holding t l)) in
      let u : World = become (cut_world w) (with_characteristics (live w.held.state) (characteristic.holding (live_characteristics t) l)) in
      let from : ℕ = after (after_range w svc) es in
      via cut_world cut_world (λ x. go_on x at svc from) (λ x. go-on-blind x svc from) v u (characteristics-become w l)
      ∙ by_after (λ m. cut_world (go_on u at svc (after m es))) w svc
      ∙ ap
      (λ (k : List Characteristic). cut_world (descriptors_found (cut_world w) at svc
      (record { table = characteristic.holding (live_characteristics t) (given_all k es); «next» = after (after_range (cut_world w) svc) es })))
      (sym (cut_twice t.count t.kept))

  pub descriptors-heard-blind : (w : World) (n format : ℕ) (x : Option Service)
      → cut_world (descriptors_heard w at n format x) ≡ cut_world (descriptors_heard (cut_world w) at n format x)
  unfolding descriptors_heard
  descriptors-heard-blind w n format None = over-blind w NotFound
  descriptors-heard-blind w n format (Some svc) =
      let t = w.held.state.characteristics in
      let es : List (List ℕ) = entries_of w n (width_of format) in
      pick-both cut_world (eqb (width_of format) 0)
      (go_on w at svc (after_range w svc)) (descriptors_found w at svc (descriptors_named t (after_range w svc) es))
      (go_on (cut_world w) at svc (after_range (cut_world w) svc))
      (descriptors_found (cut_world w) at svc (descriptors_named (live_characteristics t) (after_range (cut_world w) svc) es))
      (past-blind w svc) (named-blind w svc es)

  pub range-done-blind : (w : World) (x : Option Service) → cut_world (range_done w at x) ≡ cut_world (range_done (cut_world w) at x)
  unfolding range_done
  range-done-blind w None = over-blind w NotFound
  range-done-blind w (Some svc) = past-blind w svc
