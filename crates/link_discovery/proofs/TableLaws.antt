-- A table written where it stands and a count are the state with that table; from there a walk is what it was over tables by value.
use Rattle.std.specs.Prelude.{Some}
use Prim.Native.Nat.{ℕ, ◌+◌, ◌-◌, ◌≤◌}
use mathlib.Core.Path.{◌≡◌, refl, sym, ap, subst, ◌∙◌}
use mathlib.Core.Bool.{Bool}
use mathlib.Core.List.{List}
use Rattle.time.specs.declared.Micros.{Micros}
use Rattle.gatt_services.specs.declared.Service.{Service}
use Rattle.att_pdu.specs.declared.Found.{Found}
use Rattle.gatt_characteristics.specs.declared.Characteristics.{Characteristics}
use Rattle.lists.specs.Cut.{entries, part}
use Rattle.gatt_descriptors.specs.declared.Named.{Named}
use Rattle.gatt_descriptors.proofs.Keeps.{named_count}
use Rattle.state.specs.Central as state
use Rattle.state.specs.declared.Counts.{Counts}
use Rattle.script_rules.specs.World.{World, told}
use Rattle.script_rules.proofs.ReadyLaws.{ready-state}
use Rattle.link_rules.specs.Payload.{payload_at}
use Rattle.link_questions.specs.declared.Goal.{Goal}
use Rattle.link_rules.specs.Answers.{width_of}
use Rattle.link_rules.specs.Able.{Able}
use Rattle.link_rules.specs.Moves.{become, after_range}
use Rattle.link_rules.specs.Services.{services_found, services_heard}
use Rattle.link_rules.proofs.ServiceLaws.{services-kept, services-some}
use Rattle.link_rules.specs.Characteristics.{characteristics_found, characteristics_heard, go_on, descriptors_heard}
use Rattle.link_rules.proofs.CharacteristicLaws.{characteristics-kept, characteristics-some, descriptors-kept, descriptors-some}
use Rattle.words.specs.Tables.{Tables, tables, with_services, with_characteristics}
use Rattle.words.proofs.RowLaws.{length-characteristics}
use Rattle.words_service.specs.Taken as service-words
use Rattle.words_characteristic.specs.Parts.{in_table, taken_in, named_in}
use Rattle.state_core.specs.declared.Turn.{Turn}
use Rattle.state_core.specs.Reading as core
use Rattle.state_core.specs.Reading.{central_of, central, world}
use Rattle.link_discovery.specs.Entered.{services_entered, characteristics_entered}
use Rattle.gatt_services.specs.declared.Services.{Services}

-- where the entries of an answer begin
abbrev entries_at : ℕ
entries_at = payload_at + 2

-- ---- services

abbrev with-services : Turn → ℕ → Turn
with-services t k =
    let n = t.core.counts in
    let m : Counts = record { waiting = n.waiting; results = n.results; services = k; characteristics = n.characteristics; notifications = n.notifications } in
    record { core = core.with_counts t.core m; sent = t.sent }

module _ (t : Turn) (w w' s o : List ℕ) (end size k last : ℕ) (full : Bool) where
  abbrev services-read : Found Services
  services-read = service-words.taken_in w t.core.counts.services s entries_at end size

  module _ (e : (tables w' ≡ with_services (tables w) services-read.table.kept) × (k ≡ services-read.table.count)
      × (last ≡ services-read.last) × (full ≡ services-read.full)) where
    pub services-in : world (with-services t k) w' s o ≡ become (world t w s o) (state.with_services (central t.core w) services-read.table)
    services-in =
        ap (λ (x : Tables). record { held = record { state = central_of (with-services t k).core x; store = s }; told = told t.sent o }) e.0
        ∙ ap (λ (n : ℕ). become (world t w s o) (state.with_services (central t.core w) (record { kept = services-read.table.kept; count = n }))) e.1

    pub services-able : Able (world t w s o) → Able (world (with-services t k) w' s o)
    services-able a =
        subst (λ (x : World). Able x) (sym services-in)
        (record {
          ready = ready-state 64 (world t w s o) (state.with_services (central t.core w) services-read.table) a.ready a.ready.results;
          peer = services-kept (central t.core w).services (central t.core w).services (central t.core w).characteristics
              (entries size (part entries_at end s)) services-read refl refl a.peer;
        })

    abbrev services-kept-in : World
    services-kept-in = become (world t w s o) (state.with_services (central t.core w) services-read.table)

    services-found-so : (at : Micros) (g : Goal)
        → services_entered services-kept-in at g services-read.last services-read.full ≡ services_found (world t w s o) at g services-read
    unfolding services_found
    services-found-so at g = refl

    pub services-go : (at : Micros) (g : Goal) (n : ℕ) → 6 ≤ size → end ≡ payload_at + 2 + (n - 2)
        → services_entered (world (with-services t k) w' s o) at g last full ≡ services_heard (world t w s o) at g n size
    services-go at g n h f =
        ap (λ (x : World). services_entered x at g last full) services-in
        ∙ ap (λ (x : ℕ). services_entered services-kept-in at g x full) e.2
        ∙ ap (λ (x : Bool). services_entered services-kept-in at g services-read.last x) e.3
        ∙ services-found-so at g
        ∙ services-some (world t w s o) at g n size h (central t.core w).services end services-read refl f refl

-- ---- characteristics

abbrev with-characteristics : Turn → ℕ → Turn
with-characteristics t k =
    let n = t.core.counts in
    let m : Counts = record { waiting = n.waiting; results = n.results; services = n.services; characteristics = k; notifications = n.notifications } in
    record { core = core.with_counts t.core m; sent = t.sent }

abbrev holds : Turn → List ℕ → List ℕ → List ℕ → Characteristics → World
holds t w s o x = become (world t w s o) (state.with_characteristics (central t.core w) x)

characteristics-are : (t : Turn) (w w' s o : List ℕ) (k : ℕ) (x : Characteristics) → tables w' ≡ with_characteristics (tables w) x.kept
    → k ≡ x.count → world (with-characteristics t k) w' s o ≡ holds t w s o x
characteristics-are t w w' s o k x e f =
    ap (λ (y : Tables). record { held = record { state = central_of (with-characteristics t k).core y; store = s }; told = told t.sent o }) e
    ∙ ap (λ (n : ℕ). holds t w s o (record { kept = x.kept; count = n })) f

module _ (t : Turn) (w w' s o : List ℕ) (end size k last : ℕ) (full : Bool) (svc : Service) where
  abbrev characteristics-read : Found Characteristics
  characteristics-read = taken_in w t.core.counts.characteristics s entries_at end size svc.end

  module _ (e : (tables w' ≡ with_characteristics (tables w) characteristics-read.table.kept) × (k ≡ characteristics-read.table.count)
      × (last ≡ characteristics-read.last) × (full ≡ characteristics-read.full)) where
    pub characteristics-in : world (with-characteristics t k) w' s o ≡ holds t w s o characteristics-read.table
    characteristics-in = characteristics-are t w w' s o k characteristics-read.table e.0 e.1

    pub characteristics-able : Able (world t w s o) → Able (world (with-characteristics t k) w' s o)
    characteristics-able a =
        subst (λ (x : World). Able x) (sym characteristics-in)
        (record {
          ready = ready-state 64 (world t w s o) (state.with_characteristics (central t.core w) characteristics-read.table) a.ready a.ready.results;
          peer = characteristics-kept (central t.core w).characteristics (central t.core w).characteristics (central t.core w).services
              svc.end (entries size (part entries_at end s)) characteristics-read refl refl a.peer;
        })

    characteristics-found-so : (at : Micros)
        → characteristics_entered (holds t w s o characteristics-read.table) at svc characteristics-read.last characteristics-read.full
        ≡ characteristics_found (world t w s o) at svc characteristics-read
    unfolding characteristics_found
    characteristics-found-so at = refl

    pub characteristics-go : (at : Micros) (n : ℕ) → 7 ≤ size → end ≡ payload_at + 2 + (n - 2)
        → characteristics_entered (world (with-characteristics t k) w' s o) at svc last full
        ≡ characteristics_heard (world t w s o) at n size (Some svc)
    characteristics-go at n h f =
        ap (λ (x : World). characteristics_entered x at svc last full) characteristics-in
        ∙ ap (λ (x : ℕ). characteristics_entered (holds t w s o characteristics-read.table) at svc x full) e.2
        ∙ ap (λ (x : Bool). characteristics_entered (holds t w s o characteristics-read.table) at svc characteristics-read.last x) e.3
        ∙ characteristics-found-so at
        ∙ characteristics-some (world t w s o) at n size svc h (central t.core w).characteristics end characteristics-read refl f refl

-- ---- descriptors

module _ (t : Turn) (w w' s o : List ℕ) (end size first goes : ℕ) (h : t.core.counts.characteristics ≤ 64) where
  abbrev descriptors-read : Named
  descriptors-read = named_in w t.core.counts.characteristics s entries_at end size first

  module _ (e : (tables w' ≡ with_characteristics (tables w) descriptors-read.table.kept) × (goes ≡ descriptors-read.«next»)) where
    -- as many as before
    pub descriptors-put : world t w' s o ≡ holds t w s o descriptors-read.table
    descriptors-put =
        let n = t.core.counts.characteristics in
        characteristics-are t w w' s o n descriptors-read.table e.0
        (sym (named_count (in_table w n) first (entries size (part entries_at end s)) h (length-characteristics w)))

    pub descriptors-able : Able (world t w s o) → Able (world t w' s o)
    descriptors-able a =
        subst (λ (x : World). Able x) (sym descriptors-put)
        (record {
          ready = ready-state 64 (world t w s o) (state.with_characteristics (central t.core w) descriptors-read.table) a.ready a.ready.results;
          peer = descriptors-kept (central t.core w).characteristics (central t.core w).characteristics (central t.core w).services
              first (entries size (part entries_at end s)) descriptors-read refl refl a.peer;
        })

    pub descriptors-go : (at : Micros) (svc : Service) (n format : ℕ) → size ≡ width_of format → first ≡ after_range (world t w s o) svc
        → (size ≡ 0 → ⊥) → end ≡ payload_at + 2 + (n - 2)
        → go_on (world t w' s o) at svc goes ≡ descriptors_heard (world t w s o) at n format (Some svc)
    descriptors-go at svc n format f g k m =
        ap (λ (x : World). go_on x at svc goes) descriptors-put
        ∙ ap (go_on (holds t w s o descriptors-read.table) at svc) e.1
        ∙ descriptors-some (world t w s o) at n format svc size first f g k (central t.core w).characteristics end descriptors-read refl m refl
