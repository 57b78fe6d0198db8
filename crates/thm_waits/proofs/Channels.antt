-- What a frame that is read leads to: a notification is kept first.
use Rattle.std.specs.Prelude.{Option, Some, None}
use Prim.Native.Nat.{ℕ, ◌+◌, ◌-◌, ◌≤◌}
use mathlib.Core.Path.{◌≡◌, refl, sym, ap, ◌∙◌, subst}
use mathlib.Core.Bool.{Bool, true, false, ◌&&◌}
use mathlib.Core.List.{List, [], ◌∷◌}
use native.Mathlib.Omega.{arith}
use lib.ListN.{get_or}
use lib.Dec.{eqb, ltb, leb}
use borrow.Author.Tests.{eqb-true}
use Rattle.bytes_base.specs.Choice.{pick, among}
use Rattle.bytes_base.specs.Bytes.{le_at}
use Rattle.time.specs.declared.Micros.{Micros}
use Rattle.time.specs.declared.Millis.{Millis}
use Rattle.uuid_value.specs.declared.Uuid.{Uuid}
use Rattle.l2cap.specs.Numbers.{cid_att, cid_signaling, cid_smp}
use Rattle.att_pdu.specs.Numbers.{op_error_rsp, op_exchange_mtu_req, op_handle_value_ntf, op_handle_value_ind, op_read_rsp, op_write_rsp, err_invalid_handle, err_request_not_supported, err_attribute_not_found}
use Rattle.gatt_services.specs.Service as service
use Rattle.gatt_services.specs.declared.Service.{Service}
use Rattle.att_pdu.specs.declared.Found.{Found}
use Rattle.gatt_characteristics.specs.Characteristic as characteristic
use Rattle.gatt_descriptors.specs.declared.Named.{Named}
use Rattle.gatt_descriptors.specs.Named.{descriptors_named}
use Rattle.notifications.specs.declared.Age.{Age}
use Rattle.state.specs.Central.{Central, with_services, with_characteristics}
use Rattle.state.specs.declared.Step.{Step}
use Rattle.state.specs.declared.Step.TheVariants.{WaitNotification}
use Rattle.state.specs.declared.StepStatus.{StepStatus}
use Rattle.state.specs.declared.StepStatus.TheVariants.{Ok, NotFound, AttError, TableFull}
use Rattle.script_rules.specs.World.{Held, World, on_told, on_state}
use Rattle.script_rules.specs.Wait.{check_wait}
use Rattle.script_rules.specs.Discovery.{last_handle, discover_services, discover_characteristics, discover_descriptors}
use Rattle.link_rules.specs.Payload.{payload_at, payload_size, payload, with_mtu}
use Rattle.link_rules.specs.Replies.{on_signaling, on_smp, refuse, exchange, keep_one, notice}
use Rattle.link_questions.specs.declared.Goal.{Goal}
use Rattle.link_questions.specs.declared.Goal.TheVariants as goal
use Rattle.link_questions.specs.declared.Asked.{Asked}
use Rattle.link_questions.specs.declared.Asked.TheVariants as asked-variants
use Rattle.link_rules.specs.Responses.{asked_by, over, become, service_of, entries_of, walk_into, services_done, services_found, services_heard, characteristics_found, characteristics_heard, after_range, go_on, width_of, descriptors_found, descriptors_heard, range_done, characteristics_done, absent, smaller_mtu, value_read, present, failed, counts, unasked, taken, on_response}
use Rattle.link_rules.specs.Att.{searches, accesses, silent, other_request, by_opcode, on_att}
use Rattle.link_rules.specs.Channel.{on_channel}
use Rattle.thm_waits.specs.Waits.{is_wait_notification}
use Rattle.thm_waits.proofs.Leads.{Other, other, Plain, Leads, stays, leads-none, leads-then, leads-finish, leads-ends, leads-badly}
use Rattle.thm_waits.proofs.Starts.{leads-services, leads-descriptors, leads-characteristics, leads-check, Kind, plain, waits, kind, unchecked}
use Rattle.gatt_services.specs.declared.Services.{Services}
use Rattle.gatt_characteristics.specs.declared.Characteristics.{Characteristics}

-- ---- responses

module _ (w : World) (at : Micros) (k : Plain w.held) where
  leads-over : (st : StepStatus) → Leads at w.held (over w at st).held
  leads-over st = leads-ends w.held at st k

  leads-into : (x : Option Service) → Leads at w.held (walk_into w at x).held
  unfolding walk_into
  leads-into None = leads-over NotFound
  leads-into (Some svc) = leads-characteristics w at svc svc.start k

  leads-services-done : (g : Goal) → Leads at w.held (services_done w at g).held
  unfolding services_done
  leads-services-done goal.All = leads-over Ok
  leads-services-done (goal.Of u) = leads-into (service_of w u)

  leads-go-on : (svc : Service) (from : ℕ) → Leads at w.held (go_on w at svc from).held
  unfolding go_on
  leads-go-on svc from = go (leb from svc.end)
    where
      go : (b : Bool) → Leads at w.held (pick b (discover_descriptors w at svc from) (over w at Ok)).held
      go true = leads-descriptors w at svc from k
      go false = leads-over Ok

  leads-range-done : (x : Option Service) → Leads at w.held (range_done w at x).held
  unfolding range_done
  leads-range-done None = leads-over NotFound
  leads-range-done (Some svc) = leads-go-on svc (after_range w svc)

  leads-characteristics-done : (x : Option Service) → Leads at w.held (characteristics_done w at x).held
  unfolding characteristics_done
  leads-characteristics-done None = leads-over NotFound
  leads-characteristics-done (Some svc) = leads-descriptors w at svc svc.start k

  leads-absent : (a : Asked) → Leads at w.held (absent w at a).held
  unfolding absent
  leads-absent (asked-variants.Mtu mtu) = leads-over (AttError err_attribute_not_found)
  leads-absent (asked-variants.Services g) = leads-services-done g
  leads-absent (asked-variants.Characteristics u) = leads-characteristics-done (service_of w u)
  leads-absent (asked-variants.Descriptors u) = leads-range-done (service_of w u)
  leads-absent asked-variants.Written = leads-over (AttError err_attribute_not_found)
  leads-absent asked-variants.Value = leads-over (AttError err_attribute_not_found)
  leads-absent asked-variants.Nothing = leads-over (AttError err_attribute_not_found)

  leads-failed : (code : ℕ) (a : Asked) → Leads at w.held (failed w at code a).held
  unfolding failed
  leads-failed code a = go (eqb code err_attribute_not_found)
    where
      go : (b : Bool) → Leads at w.held (pick b (absent w at a) (over w at (AttError code))).held
      go true = leads-absent a
      go false = leads-over (AttError code)

-- another part of the state first
after : {at : Micros} (w : World) (c : Central) (v : World) → Other w.held (on_state w.held c) → Leads at (become w c).held v.held → Leads at w.held v.held
after w c v o f = leads-then o f

leads-services-found : (w : World) (at : Micros) (g : Goal) (f : Found Services) → Plain w.held → Leads at w.held (services_found w at g f).held
unfolding services_found
leads-services-found w at g f k =
    after w (with_services w.held.state f.table) (services_found w at g f) (other refl refl refl refl refl refl refl refl refl) (go k f.full (eqb f.last last_handle))
  where
    v : World
    v = become w (with_services w.held.state f.table)

    go : Plain v.held → (a b : Bool) → Leads at v.held (pick a (over v at TableFull) (pick b (services_done v at g) (discover_services v at (f.last + 1)))).held
    go q true b = leads-over v at q TableFull
    go q false true = leads-services-done v at q g
    go q false false = leads-services v at (f.last + 1) q

leads-services-heard : (w : World) (at : Micros) (g : Goal) (n size : ℕ) → Plain w.held → Leads at w.held (services_heard w at g n size).held
unfolding services_heard
leads-services-heard w at g n size k = go (ltb size 6)
  where
    go : (b : Bool) → Leads at w.held (pick b (services_done w at g) (services_found w at g (service.services_taken w.held.state.services (entries_of w n size)))).held
    go true = leads-services-done w at k g
    go false = leads-services-found w at g _ k

leads-characteristics-found : (w : World) (at : Micros) (svc : Service) (f : Found Characteristics) → Plain w.held → Leads at w.held (characteristics_found w at svc f).held
unfolding characteristics_found
leads-characteristics-found w at svc f k =
    after w (with_characteristics w.held.state f.table) (characteristics_found w at svc f) (other refl refl refl refl refl refl refl refl refl) (go k f.full (leb svc.end f.last))
  where
    v : World
    v = become w (with_characteristics w.held.state f.table)

    go : Plain v.held → (a b : Bool)
        → Leads at v.held (pick a (over v at TableFull) (pick b (discover_descriptors v at svc svc.start) (discover_characteristics v at svc (f.last + 1)))).held
    go q true b = leads-over v at q TableFull
    go q false true = leads-descriptors v at svc svc.start q
    go q false false = leads-characteristics v at svc (f.last + 1) q

leads-characteristics-heard : (w : World) (at : Micros) (n size : ℕ) (x : Option Service) → Plain w.held → Leads at w.held (characteristics_heard w at n size x).held
unfolding characteristics_heard
leads-characteristics-heard w at n size None k = leads-over w at k NotFound
leads-characteristics-heard w at n size (Some svc) k = go (ltb size 7)
  where
    go : (b : Bool)
        → Leads at w.held
        (pick b (discover_descriptors w at svc svc.start)
        (characteristics_found w at svc (characteristic.characteristics_taken w.held.state.characteristics svc.end (entries_of w n size)))).held
    go true = leads-descriptors w at svc svc.start k
    go false = leads-characteristics-found w at svc _ k

leads-descriptors-found : (w : World) (at : Micros) (svc : Service) (x : Named) → Plain w.held → Leads at w.held (descriptors_found w at svc x).held
leads-descriptors-found w at svc x k =
    after w (with_characteristics w.held.state x.table) (descriptors_found w at svc x) (other refl refl refl refl refl refl refl refl refl)
    (leads-go-on (become w (with_characteristics w.held.state x.table)) at k svc x.«next»)

leads-descriptors-heard : (w : World) (at : Micros) (n format : ℕ) (x : Option Service) → Plain w.held → Leads at w.held (descriptors_heard w at n format x).held
unfolding descriptors_heard
leads-descriptors-heard w at n format None k = leads-over w at k NotFound
leads-descriptors-heard w at n format (Some svc) k = go (eqb (width_of format) 0)
  where
    go : (b : Bool)
        → Leads at w.held
        (pick b (go_on w at svc (after_range w svc)) (descriptors_found w at svc (descriptors_named w.held.state.characteristics (after_range w svc) (entries_of w n (width_of format))))).held
    go true = leads-go-on w at k svc (after_range w svc)
    go false = leads-descriptors-found w at svc _ k

-- a read's value fits its block
leads-value : (w : World) (at : Micros) (n : ℕ) → n ≤ payload_size → Plain w.held → Leads at w.held (value_read w at n).held
leads-value w at n s k = leads-finish w.held at Ok (payload_at + 1) (n - 1) (omega (arith, s)) (omega (arith, s)) k

leads-present : (w : World) (at : Micros) (n : ℕ) (a : Asked) → n ≤ payload_size → Plain w.held → Leads at w.held (present w at n a).held
unfolding present
leads-present w at n (asked-variants.Mtu mtu) s k =
    let c = with_mtu w.held.state (smaller_mtu (le_at 2 (payload w.held n) 1) mtu) in
    after w c (over (become w c) at Ok) (other refl refl refl refl refl refl refl refl refl) (leads-over (become w c) at k Ok)
leads-present w at n (asked-variants.Services g) s k = leads-services-heard w at g n _ k
leads-present w at n (asked-variants.Characteristics u) s k = leads-characteristics-heard w at n _ _ k
leads-present w at n (asked-variants.Descriptors u) s k = leads-descriptors-heard w at n _ _ k
leads-present w at n asked-variants.Written s k = go (eqb (get_or (payload w.held n) 0 0) op_write_rsp)
  where
    go : (b : Bool) → Leads at w.held (pick b (over w at Ok) w).held
    go true = leads-over w at k Ok
    go false = leads-none w.held
leads-present w at n asked-variants.Value s k = go (eqb (get_or (payload w.held n) 0 0) op_read_rsp)
  where
    go : (b : Bool) → Leads at w.held (pick b (value_read w at n) w).held
    go true = leads-value w at n s k
    go false = leads-none w.held
leads-present w at n asked-variants.Nothing s k = leads-none w.held

leads-taken : (w : World) (at : Micros) (n : ℕ) → n ≤ payload_size → Plain w.held → Leads at w.held (taken w at n).held
unfolding taken
leads-taken w at n s k = go w.held.state.running.active (eqb (get_or (payload w.held n) 0 0) op_error_rsp)
  where
    a : Asked
    a = asked_by w.held.state.running.step w.held.state.running.phase

    go : (x y : Bool) → Leads at w.held (pick x (pick y (failed w at (get_or (payload w.held n) 4 0) a) (present w at n a)) w).held
    go true true = leads-failed w at k _ a
    go true false = leads-present w at n a s k
    go false y = leads-none w.held

leads-response : (w : World) (at : Micros) (n : ℕ) → n ≤ payload_size → Plain w.held → Leads at w.held (on_response w at n).held
unfolding on_response
leads-response w at n s k = go (counts w.held.state.bearer.link.pending (payload w.held n))
  where
    c : Central
    c = unasked w.held.state

    go : (b : Bool) → Leads at w.held (pick b (taken (become w c) at n) w).held
    go true = after w c (taken (become w c) at n) (other refl refl refl refl refl refl refl refl refl) (leads-taken (become w c) at n s k)
    go false = leads-none w.held

-- ---- while a WaitNotification runs nothing is asked: an error that counts ends it badly

module _ (w : World) (at : Micros) (n : ℕ) (c : Uuid) (ms : Millis) (age : Age) (e : w.held.state.running.step ≡ WaitNotification c ms age) where
  abbrev v : World
  v = become w (unasked w.held.state)

  abbrev p : List ℕ
  p = payload w.held n

  erred : (code : ℕ) → Leads at v.held (failed v at code asked-variants.Nothing).held
  unfolding failed absent
  erred code = go (eqb code err_attribute_not_found)
    where
      go : (b : Bool) → Leads at v.held (pick b (over v at (AttError err_attribute_not_found)) (over v at (AttError code))).held
      go true = leads-badly v.held at (AttError err_attribute_not_found) (λ f. let z : ◌≡◌ {A = ℕ} 0 1 = cc in omega arith)
      go false = leads-badly v.held at (AttError code) (λ f. let z : ◌≡◌ {A = ℕ} 0 1 = cc in omega arith)

  taken-so : Leads at v.held (taken v at n).held
  unfolding taken present
  taken-so =
      subst (λ (x : Asked). Leads at v.held (pick w.held.state.running.active (pick (eqb (get_or p 0 0) op_error_rsp) (failed v at (get_or p 4 0) x) (present v at n x)) v).held)
      (sym (ap (λ (s : Step). asked_by s w.held.state.running.phase) e))
      (go w.held.state.running.active (eqb (get_or p 0 0) op_error_rsp))
    where
      go : (x y : Bool) → Leads at v.held (pick x (pick y (failed v at (get_or p 4 0) asked-variants.Nothing) v) v).held
      go true true = erred (get_or p 4 0)
      go true false = leads-none v.held
      go false y = leads-none v.held

  responded : Leads at w.held (on_response w at n).held
  unfolding on_response
  responded = go (counts w.held.state.bearer.link.pending p)
    where
      go : (b : Bool) → Leads at w.held (pick b (taken v at n) w).held
      go true = leads-then {g = v.held} (other refl refl refl refl refl refl refl refl refl) taken-so
      go false = leads-none w.held

leads_any : (w : World) (at : Micros) (n : ℕ) → n ≤ payload_size → Leads at w.held (on_response w at n).held
leads_any w at n s = go (kind w.held.state.running.step)
  where
    go : Kind w.held.state.running.step → Leads at w.held (on_response w at n).held
    go (plain k) = leads-response w at n s k
    go (waits c ms age e) = responded w at n c ms age e

-- ---- a notification: it is kept, and the running wait looks at it

same_step : (h : Held) (at : Micros) (handle n : ℕ) (indication : Bool) → (keep_one h at handle n indication).state.running.step ≡ h.state.running.step
unfolding keep_one
same_step h at handle n indication = refl

leads-notice : (w : World) (at : Micros) (n : ℕ) (indication : Bool) → Leads at (keep_one w.held at (le_at 2 (payload w.held n) 1) (n - 3) indication) (notice w at n indication).held
unfolding notice
leads-notice w at n indication = go (kind w.held.state.running.step)
  where
    g : Held
    g = keep_one w.held at (le_at 2 (payload w.held n) 1) (n - 3) indication

    same : g.state.running.step ≡ w.held.state.running.step
    same = same_step w.held at (le_at 2 (payload w.held n) 1) (n - 3) indication

    go : Kind w.held.state.running.step → Leads at g (check_wait g at)
    go (plain k) = subst (Leads at g) (sym (unchecked g at (subst (λ (s : Step). is_wait_notification s ≡ false) (sym same) k))) (leads-none g)
    go (waits c ms age e) = leads-check g at c ms age (same ∙ e)

-- ---- the attribute channel, and all channels

-- what is kept first: where x says so, a notification of n bytes
abbrev pub kept_first : Held → Micros → ℕ → Bool → Held
kept_first h at n x = pick x (keep_one h at (le_at 2 (payload h n) 1) (n - 3) (eqb (get_or (payload h n) 0 0) op_handle_value_ind)) h

-- whether a payload of n bytes is one
abbrev pub tells : List ℕ → ℕ → Bool
tells p n = among (get_or p 0 0) (op_handle_value_ntf ∷ op_handle_value_ind ∷ []) && leb 3 n

leads-opcode : (w : World) (at : Micros) (n : ℕ) → n ≤ payload_size → let p = payload w.held n in
    Leads at (kept_first w.held at n (tells p n)) (by_opcode w at n (get_or p 0 0) (le_at 2 p 1)).held
unfolding by_opcode exchange
leads-opcode w at n s = go (tells p n) (eqb op op_exchange_mtu_req) (among op searches) (among op accesses) (among op silent) (other_request op)
  where
    p : List ℕ
    p = payload w.held n

    op : ℕ
    op = get_or p 0 0

    handle : ℕ
    handle = le_at 2 p 1

    go : (a b c d e f : Bool)
        → Leads at (kept_first w.held at n a)
        (pick a (notice w at n (eqb op op_handle_value_ind))
        (pick b (exchange w handle)
        (pick c (on_told w (refuse w.told op handle err_attribute_not_found))
        (pick d (on_told w (refuse w.told op handle err_invalid_handle))
        (pick e w
        (pick f (on_told w (refuse w.told op 0 err_request_not_supported)) (on_response w at n))))))).held
    go true b c d e f = leads-notice w at n (eqb op op_handle_value_ind)
    go false true c d e f = stays (other refl refl refl refl refl refl refl refl refl)
    go false false true d e f = leads-none w.held
    go false false false true e f = leads-none w.held
    go false false false false true f = leads-none w.held
    go false false false false false true = leads-none w.held
    go false false false false false false = leads_any w at n s

leads-att : (w : World) (at : Micros) (n : ℕ) → n ≤ payload_size → Leads at (kept_first w.held at n (tells (payload w.held n) n)) (on_att w at n).held
unfolding on_att
leads-att w at n s = go (eqb n 0) refl
  where
    p : List ℕ
    p = payload w.held n

    a : Bool
    a = among (get_or p 0 0) (op_handle_value_ntf ∷ op_handle_value_ind ∷ [])

    none : (x : Bool) → Leads at (kept_first w.held at n (x && false)) w.held
    none true = leads-none w.held
    none false = leads-none w.held

    go : (b : Bool) → eqb n 0 ≡ b → Leads at (kept_first w.held at n (a && leb 3 n)) (pick b w (by_opcode w at n (get_or p 0 0) (le_at 2 p 1))).held
    go true e = subst (λ (x : Bool). Leads at (kept_first w.held at n (a && x)) w.held) (sym (ap (leb 3) (eqb-true n 0 e))) (none a)
    go false e = leads-opcode w at n s

-- by the channel
abbrev pub tells_on : ℕ → List ℕ → ℕ → Bool
tells_on channel p n = pick (eqb channel cid_att) (tells p n) false

pub leads-channel : (w : World) (at : Micros) (channel n : ℕ) → n ≤ payload_size
    → Leads at (kept_first w.held at n (tells_on channel (payload w.held n) n)) (on_channel w at channel n).held
unfolding on_channel
leads-channel w at channel n s = go (eqb channel cid_att) (eqb channel cid_signaling) (eqb channel cid_smp)
  where
    go : (x y z : Bool)
        → Leads at (kept_first w.held at n (pick x (tells (payload w.held n) n) false))
        (pick x (on_att w at n) (pick y (on_told w (on_signaling w.told (payload w.held n))) (pick z (on_told w (on_smp w.told (payload w.held n))) w))).held
    go true y z = leads-att w at n s
    go false true z = leads-none w.held
    go false false true = leads-none w.held
    go false false false = leads-none w.held
