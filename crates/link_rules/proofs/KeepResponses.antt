-- What the running step does with a response keeps what holds through a call: it asks again, or it ends, or it goes on.
use Rattle.std.specs.Prelude.{Option, Some, None}
use Prim.Native.Nat.{ℕ, ◌+◌, ◌-◌, ◌≤◌}
use mathlib.Core.Path.{◌≡◌, refl, sym, ap, ◌∙◌}
use mathlib.Core.Bool.{Bool, true, false, ◌&&◌}
use native.Mathlib.Omega.{arith}
use lib.ListN.{get_or}
use lib.Dec.{eqb, leb, ltb}
use borrow.Author.Tests.{leb-true}
use Rattle.bytes_base.specs.Choice.{pick}
use Rattle.bytes_base.specs.Bytes.{le_at}
use Rattle.state_places.specs.Sizes.{value_size, most_services, most_characteristics}
use Rattle.time.specs.declared.Micros.{Micros}
use Rattle.time.specs.Clock.{latest}
use Rattle.att_pdu.specs.Numbers.{op_error_rsp, op_read_rsp, op_write_rsp, err_attribute_not_found}
use Rattle.gatt_services.specs.Service as service
use Rattle.gatt_services.specs.declared.Service.{Service}
use Rattle.att_pdu.specs.declared.Found.{Found}
use Rattle.gatt_characteristics.specs.Characteristic.{known, rises, characteristics_taken}
use Rattle.gatt_descriptors.specs.declared.Named.{Named}
use Rattle.gatt_descriptors.specs.Named.{descriptors_named}
use Rattle.state.specs.Central.{Central, with_services, with_characteristics}
use Rattle.state.specs.declared.Bearer.{Bearer}
use Rattle.state.specs.declared.Running.{Running}
use Rattle.state.specs.declared.Step.{Step}
use Rattle.state.specs.declared.Step.TheVariants.{Scan, Connect, ExchangeMtu, DiscoverServices, DiscoverCharacteristics, Subscribe, Write, Read, WaitNotification, Wait, Disconnect, Capture, CaptureSecrets}
use Rattle.state.specs.declared.StepStatus.TheVariants.{Ok, NotFound, AttError, TableFull}
use Rattle.state_rules.specs.Steps.{implies, default_mtu, most_mtu, carries, mtu_named, step_fits, att_step}
use Rattle.state_rules.proofs.FitLaws.{both}
use Rattle.script_rules.specs.World.{Held, World, on_held, on_state}
use Rattle.script_rules.specs.Finish.{answered, with_link, finish}
use Rattle.script_rules.specs.Ready.{Ready}
use Rattle.script_rules.specs.Discovery.{last_handle, discover_services, discover_characteristics, discover_descriptors}
use Rattle.script_rules.specs.Nearly.{Nearly}
use Rattle.script_rules.proofs.KeepTurns.{Stays, Goes, quietly, stays-finish, stays-bearer}
use Rattle.script_rules.proofs.KeepStarts.{goes-services, goes-descriptors, goes-characteristics}
use Rattle.link_rules.specs.Payload.{payload_at, payload_size, payload, with_mtu}
use Rattle.link_questions.specs.declared.Goal.{Goal}
use Rattle.link_questions.specs.declared.Goal.TheVariants as goal
use Rattle.link_questions.specs.declared.Asked.{Asked}
use Rattle.link_questions.specs.declared.Asked.TheVariants as asked
use Rattle.link_rules.specs.Responses.{asked_by, over, become, service_of, entries_of, walk_into, services_done, services_found, services_heard, characteristics_found, characteristics_heard, after_range, go_on, width_of, descriptors_found, descriptors_heard, range_done, characteristics_done, absent, smaller_mtu, value_read, present, failed, counts, unasked, taken, on_response}
use Rattle.link_rules.proofs.KeepWork.{ready-stays, after, goes-pick, goes-not, goes_over}
use Rattle.link_rules.proofs.KeepReplies.{stays-mtu}
use Rattle.link_rules.proofs.KeepTables.{services-few, taken-few, taken-rises, named-few, named-rises, stays-services, stays-characteristics}
use Rattle.gatt_services.specs.declared.Services.{Services}
use Rattle.gatt_characteristics.specs.declared.Characteristics.{Characteristics}

-- ---- a walk of discovery

-- a step that sends ATT requests runs, and k frames at most went out: it may ask again
pub record Walking (k : ℕ) (w : World) : Type 0 where
  pub few : k ≤ 64
  pub ready : Ready k w
  pub nearly : Nearly w.held.state
  pub active : w.held.state.running.active ≡ true
  pub att : att_step w.held.state.running.step ≡ true

-- and still may with another table
walking_on : (k : ℕ) (w : World) (c : Central) → Walking k w → Stays w.held (on_state w.held c) → c.running ≡ w.held.state.running → Walking k (become w c)
walking_on k w c x s e =
    record {
      few = x.few;
      ready = ready-stays k w (on_state w.held c) x.ready s;
      nearly = s.nearly;
      active = ap (λ (r : Running). r.active) e ∙ x.active;
      att = ap (λ (r : Running). att_step r.step) e ∙ x.att;
    }

module _ (at : Micros) (l : at.0 ≤ latest) where
  module _ (k : ℕ) (w : World) (x : Walking k w) where
    asks-services : (from : ℕ) → Goes (k + 1) w (discover_services w at from)
    asks-services from = goes-services k w at x.few l x.ready x.nearly x.active x.att from

    asks-characteristics : (svc : Service) (from : ℕ) → Goes (k + 1) w (discover_characteristics w at svc from)
    asks-characteristics svc from = goes-characteristics k w at x.few l x.ready x.nearly x.active x.att svc from

    asks-descriptors : (svc : Service) (from : ℕ) → Goes (k + 1) w (discover_descriptors w at svc from)
    asks-descriptors svc from = goes-descriptors k w at x.few l x.ready x.nearly x.active x.att svc from

    -- where one part of the walk is at its end

    goes-into : (s : Option Service) → Goes (k + 1) w (walk_into w at s)
    unfolding walk_into
    goes-into None = goes_over k w x.ready x.nearly at NotFound
    goes-into (Some svc) = asks-characteristics svc svc.start

    goes-services-done : (g : Goal) → Goes (k + 1) w (services_done w at g)
    unfolding services_done
    goes-services-done goal.All = goes_over k w x.ready x.nearly at Ok
    goes-services-done (goal.Of u) = goes-into (service_of w u)

    goes-characteristics-done : (s : Option Service) → Goes (k + 1) w (characteristics_done w at s)
    unfolding characteristics_done
    goes-characteristics-done None = goes_over k w x.ready x.nearly at NotFound
    goes-characteristics-done (Some svc) = asks-descriptors svc svc.start

    goes_on_lem : (svc : Service) (from : ℕ) → Goes (k + 1) w (go_on w at svc from)
    unfolding go_on
    goes_on_lem svc from = goes-pick (k + 1) w (leb from svc.end) _ _ (asks-descriptors svc from) (goes_over k w x.ready x.nearly at Ok)

    goes-range-done : (s : Option Service) → Goes (k + 1) w (range_done w at s)
    unfolding range_done
    goes-range-done None = goes_over k w x.ready x.nearly at NotFound
    goes-range-done (Some svc) = goes_on_lem svc (after_range w svc)

  -- entries were heard

  module _ (k : ℕ) (w : World) (x : Walking k w) where
    goes-services-found : (g : Goal) (found : Found Services) → found.table.count ≤ most_services → Goes (k + 1) w (services_found w at g found)
    unfolding services_found
    goes-services-found g found few =
        let c : Central = with_services w.held.state found.table in
        let v : World = become w c in
        let s = stays-services w.held found.table few x.nearly in
        let y = walking_on k w c x s refl in
        after (k + 1) w v.held (services_found w at g found) s
        (goes-pick (k + 1) v found.full _ _
        (goes_over k v y.ready y.nearly at TableFull)
        (goes-pick (k + 1) v (eqb found.last last_handle) _ _ (goes-services-done k v y g) (asks-services k v y (found.last + 1))))

    goes-services-heard : (g : Goal) (n size : ℕ) → Goes (k + 1) w (services_heard w at g n size)
    unfolding services_heard
    goes-services-heard g n size =
        let t = w.held.state.services in
        let es = entries_of w n size in
        goes-pick (k + 1) w (ltb size 6) _ _
        (goes-services-done k w x g)
        (goes-services-found g (service.services_taken t es) (services-few t es x.nearly.peer.services))

    goes-characteristics-found : (svc : Service) (found : Found Characteristics) → found.table.count ≤ most_characteristics → rises (known found.table) ≡ true
        → Goes (k + 1) w (characteristics_found w at svc found)
    unfolding characteristics_found
    goes-characteristics-found svc found few up =
        let c : Central = with_characteristics w.held.state found.table in
        let v : World = become w c in
        let s = stays-characteristics w.held found.table few up x.nearly in
        let y = walking_on k w c x s refl in
        after (k + 1) w v.held (characteristics_found w at svc found) s
        (goes-pick (k + 1) v found.full _ _
        (goes_over k v y.ready y.nearly at TableFull)
        (goes-pick (k + 1) v (leb svc.end found.last) _ _ (asks-descriptors k v y svc svc.start) (asks-characteristics k v y svc (found.last + 1))))

    goes-characteristics-heard : (n size : ℕ) (s : Option Service) → Goes (k + 1) w (characteristics_heard w at n size s)
    unfolding characteristics_heard
    goes-characteristics-heard n size None = goes_over k w x.ready x.nearly at NotFound
    goes-characteristics-heard n size (Some svc) =
        let t = w.held.state.characteristics in
        let es = entries_of w n size in
        goes-pick (k + 1) w (ltb size 7) _ _
        (asks-descriptors k w x svc svc.start)
        (goes-characteristics-found svc (characteristics_taken t svc.end es)
        (taken-few t svc.end es x.nearly.peer.characteristics) (taken-rises t svc.end es x.nearly.peer.rising))

    goes-descriptors-found : (svc : Service) (named : Named) → named.table.count ≤ most_characteristics → rises (known named.table) ≡ true
        → Goes (k + 1) w (descriptors_found w at svc named)
    goes-descriptors-found svc named few up =
        let c : Central = with_characteristics w.held.state named.table in
        let s = stays-characteristics w.held named.table few up x.nearly in
        after (k + 1) w (on_state w.held c) (descriptors_found w at svc named) s (goes_on_lem k (become w c) (walking_on k w c x s refl) svc named.«next»)

    goes-descriptors-heard : (n format : ℕ) (s : Option Service) → Goes (k + 1) w (descriptors_heard w at n format s)
    unfolding descriptors_heard
    goes-descriptors-heard n format None = goes_over k w x.ready x.nearly at NotFound
    goes-descriptors-heard n format (Some svc) =
        let t = w.held.state.characteristics in
        let es = entries_of w n (width_of format) in
        let first = after_range w svc in
        goes-pick (k + 1) w (eqb (width_of format) 0) _ _
        (goes_on_lem k w x svc first)
        (goes-descriptors-found svc (descriptors_named t first es) (named-few t first es x.nearly.peer.characteristics) (named-rises t first es x.nearly.peer.rising))

-- ---- what was asked

-- an MTU that a batch accepts; a walk only of a step that sends requests
abbrev Allowed : Central → Asked → Type 0
Allowed c (asked.Mtu mtu) = mtu ≤ most_mtu
Allowed c (asked.Services g) = att_step c.running.step ≡ true
Allowed c (asked.Characteristics u) = att_step c.running.step ≡ true
Allowed c (asked.Descriptors u) = att_step c.running.step ≡ true
Allowed c asked.Written = Unit
Allowed c asked.Value = Unit
Allowed c asked.Nothing = Unit

-- the MTU of a step that a batch accepts
named-mtu : (step : Step) (mtu n : ℕ) → step ≡ ExchangeMtu mtu → step_fits step n ≡ true → mtu ≤ most_mtu
unfolding step_fits
named-mtu step mtu n e h =
    leb-true mtu most_mtu (both true (leb mtu most_mtu) (ap (λ (s : Step). implies (carries s) (leb n value_size) && leb (mtu_named s) most_mtu) (sym e) ∙ h)).1

module _ (c : Central) (fits : step_fits c.running.step c.running.len ≡ true) where
  allowed : (s : Step) (phase : ℕ) → c.running.step ≡ s → Allowed c (asked_by s phase)
  allowed (Scan ms) phase e = tt
  allowed (Connect target interval latency timeout ms) phase e = tt
  allowed (ExchangeMtu mtu) phase e = named-mtu c.running.step mtu c.running.len e fits
  allowed DiscoverServices phase e = go (eqb phase 0)
    where
      go : (b : Bool) → Allowed c (pick b (asked.Services goal.All) asked.Nothing)
      go true = ap att_step e
      go false = tt
  allowed (DiscoverCharacteristics u) phase e = go (eqb phase 0) (eqb phase 1)
    where
      go : (a b : Bool) → Allowed c (pick a (asked.Services (goal.Of u)) (pick b (asked.Characteristics u) (asked.Descriptors u)))
      go true b = ap att_step e
      go false true = ap att_step e
      go false false = ap att_step e
  allowed (Subscribe characteristic indicate) phase e = tt
  allowed (Write characteristic response) phase e = tt
  allowed (Read characteristic) phase e = tt
  allowed (WaitNotification characteristic ms age) phase e = tt
  allowed (Wait ms) phase e = tt
  allowed Disconnect phase e = tt
  allowed (Capture enabled) phase e = tt
  allowed (CaptureSecrets secrets) phase e = tt

-- ---- what comes back

module _ (k : ℕ) (w : World) (at : Micros) (n : ℕ) (few : k ≤ 64) (l : at.0 ≤ latest) (ready : Ready k w) (f : Nearly w.held.state) (short : n ≤ payload_size) where
  module _ (a : w.held.state.running.active ≡ true) where
    walks : att_step w.held.state.running.step ≡ true → Walking k w
    walks att = record { few = few; ready = ready; nearly = f; active = a; att = att }

    goes-absent : (q : Asked) → Allowed w.held.state q → Goes (k + 1) w (absent w at q)
    unfolding absent
    goes-absent (asked.Mtu mtu) p = goes_over k w ready f at (AttError err_attribute_not_found)
    goes-absent (asked.Services g) p = goes-services-done at l k w (walks p) g
    goes-absent (asked.Characteristics u) p = goes-characteristics-done at l k w (walks p) (service_of w u)
    goes-absent (asked.Descriptors u) p = goes-range-done at l k w (walks p) (service_of w u)
    goes-absent asked.Written p = goes_over k w ready f at (AttError err_attribute_not_found)
    goes-absent asked.Value p = goes_over k w ready f at (AttError err_attribute_not_found)
    goes-absent asked.Nothing p = goes_over k w ready f at (AttError err_attribute_not_found)

    goes-failed : (code : ℕ) (q : Asked) → Allowed w.held.state q → Goes (k + 1) w (failed w at code q)
    unfolding failed
    goes-failed code q p = goes-pick (k + 1) w (eqb code err_attribute_not_found) _ _ (goes-absent q p) (goes_over k w ready f at (AttError code))

    goes-agreed : (mtu : ℕ) → default_mtu ≤ mtu → mtu ≤ most_mtu → Goes (k + 1) w (over (become w (with_mtu w.held.state mtu)) at Ok)
    goes-agreed mtu low high =
        let g : Held = on_state w.held (with_mtu w.held.state mtu) in
        let s = stays-mtu w.held mtu low high f in
        after (k + 1) w g (over (on_held w g) at Ok) s (goes_over k (on_held w g) (ready-stays k w g ready s) s.nearly at Ok)

    goes-value : Goes (k + 1) w (value_read w at n)
    goes-value = quietly k w (finish w.held at Ok (payload_at + 1) (n - 1) 0) ready (stays-finish w.held at Ok (payload_at + 1) (n - 1) 0 (omega arith) f)

    goes-present : (q : Asked) → Allowed w.held.state q → Goes (k + 1) w (present w at n q)
    unfolding present
    goes-present (asked.Mtu mtu) p = goes-agreed (smaller_mtu (le_at 2 (payload w.held n) 1) mtu) (omega arith) (omega arith)
    goes-present (asked.Services g) p = goes-services-heard at l k w (walks p) g n (get_or (payload w.held n) 1 0)
    goes-present (asked.Characteristics u) p = goes-characteristics-heard at l k w (walks p) n (get_or (payload w.held n) 1 0) (service_of w u)
    goes-present (asked.Descriptors u) p = goes-descriptors-heard at l k w (walks p) n (get_or (payload w.held n) 1 0) (service_of w u)
    goes-present asked.Written p = goes-pick (k + 1) w (eqb (get_or (payload w.held n) 0 0) op_write_rsp) _ _ (goes_over k w ready f at Ok) (goes-not k w ready f)
    goes-present asked.Value p = goes-pick (k + 1) w (eqb (get_or (payload w.held n) 0 0) op_read_rsp) _ _ goes-value (goes-not k w ready f)
    goes-present asked.Nothing p = goes-not k w ready f

  pub goes-taken : Goes (k + 1) w (taken w at n)
  unfolding taken
  goes-taken = go r.active refl (eqb (get_or (payload w.held n) 0 0) op_error_rsp)
    where
      r : Running
      r = w.held.state.running

      q : Asked
      q = asked_by r.step r.phase

      go : (b : Bool) → r.active ≡ b → (c : Bool)
          → Goes (k + 1) w (pick b (pick c (failed w at (get_or (payload w.held n) 4 0) q) (present w at n q)) w)
      go true e true = goes-failed e (get_or (payload w.held n) 4 0) q (allowed w.held.state (f.runs.step e) r.step r.phase refl)
      go true e false = goes-present e q (allowed w.held.state (f.runs.step e) r.step r.phase refl)
      go false e c = goes-not k w ready f

-- ---- whether it counts

none-awaited : (b : Bool) → (b && false) ≡ false
none-awaited true = refl
none-awaited false = refl

pub stays-unasked : (h : Held) → Nearly h.state → Stays h (on_state h (unasked h.state))
stays-unasked h f =
    let b : Bearer = with_link h.state.bearer (answered h.state.bearer.link) in
    stays-bearer h b f (record { held = f.linked.held; mtu_low = f.linked.mtu_low; mtu_high = f.linked.mtu_high }) (none-awaited h.state.bearer.present)

pub goes-response : (k : ℕ) (w : World) (at : Micros) (n : ℕ) → k ≤ 64 → at.0 ≤ latest → Ready k w → Nearly w.held.state → n ≤ payload_size
    → Goes (k + 1) w (on_response w at n)
unfolding on_response
goes-response k w at n few l ready f short =
    let g : Held = on_state w.held (unasked w.held.state) in
    let s = stays-unasked w.held f in
    goes-pick (k + 1) w (counts w.held.state.bearer.link.pending (payload w.held n)) _ _
    (after (k + 1) w g (taken (on_held w g) at n) s (goes-taken k (on_held w g) at n few l (ready-stays k w g ready s) s.nearly short))
    (goes-not k w ready f)
