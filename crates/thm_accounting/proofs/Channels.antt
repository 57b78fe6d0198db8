-- What a frame that is read gives: nothing, or the running step's result.
use Rattle.std.specs.Prelude.{Option, Some, None}
use Prim.Native.Nat.{ℕ, ◌+◌, ◌-◌, ◌≤◌}
use mathlib.Core.Path.{◌≡◌, refl}
use mathlib.Core.Bool.{Bool, true, false, ◌&&◌}
use mathlib.Core.List.{List, [], ◌∷◌}
use native.Mathlib.Omega.{arith}
use lib.ListN.{get_or}
use lib.Dec.{eqb, ltb, leb}
use Rattle.bytes_base.specs.Choice.{pick, among}
use Rattle.bytes_base.specs.Bytes.{le_at}
use Rattle.state_places.specs.Sizes.{result_at}
use Rattle.lists.proofs.BlockLaws.{length-stored, stored-below}
use Rattle.time.specs.declared.Micros.{Micros}
use Rattle.l2cap.specs.Numbers.{cid_att, cid_signaling, cid_smp}
use Rattle.att_pdu.specs.Numbers.{op_error_rsp, op_exchange_mtu_req, op_handle_value_ntf, op_handle_value_ind, op_read_rsp, op_write_rsp, err_invalid_handle, err_request_not_supported, err_attribute_not_found}
use Rattle.gatt_services.specs.Service as service
use Rattle.gatt_services.specs.declared.Service.{Service}
use Rattle.att_pdu.specs.declared.Found.{Found}
use Rattle.gatt_characteristics.specs.Characteristic as characteristic
use Rattle.gatt_descriptors.specs.declared.Named.{Named}
use Rattle.gatt_descriptors.specs.Named.{descriptors_named}
use Rattle.notifications.specs.Kept.{part}
use Rattle.state.specs.Central.{Central, with_services, with_characteristics}
use Rattle.state.specs.declared.StepStatus.{StepStatus}
use Rattle.state.specs.declared.StepStatus.TheVariants.{Ok, NotFound, AttError, TableFull}
use Rattle.script_rules.specs.World.{Held, World, on_told, on_state}
use Rattle.script_rules.specs.Discovery.{last_handle, discover_services, discover_characteristics, discover_descriptors}
use Rattle.link_rules.specs.Payload.{payload_at, payload_size, payload, with_mtu}
use Rattle.link_rules.specs.Replies.{on_signaling, on_smp, refuse, exchange, keep_one, notice}
use Rattle.link_questions.specs.declared.Goal.{Goal}
use Rattle.link_questions.specs.declared.Goal.TheVariants as goal
use Rattle.link_questions.specs.declared.Asked.{Asked}
use Rattle.link_questions.specs.declared.Asked.TheVariants as asked-variants
use Rattle.link_rules.specs.Responses.{asked_by, over, become, service_of, entries_of, walk_into, services_done, services_found, services_heard, characteristics_found, characteristics_heard, after_range, go_on, width_of, descriptors_found, descriptors_heard, range_done, characteristics_done, absent, smaller_mtu, value_read, present, failed, counts, unasked, taken, on_response}
use Rattle.link_rules.specs.Att.{searches, accesses, silent, other_request, by_opcode, on_att}
use Rattle.link_rules.specs.Channel.{on_channel}
use Rattle.thm_accounting.proofs.Gives.{Whole, Gives, gives_none, gives_then, Apart, apart, apart-state, gives-finish, whole_same}
use Rattle.thm_accounting.proofs.Starts.{gives-ends, quiet, gives-services, gives-descriptors, gives-characteristics, gives-check}
use Rattle.gatt_services.specs.declared.Services.{Services}
use Rattle.gatt_characteristics.specs.declared.Characteristics.{Characteristics}

-- ---- what is no response

gives-exchange : {at : Micros} (w : World) (theirs : ℕ) → Whole w.held → Gives at w.held (exchange w theirs).held
unfolding exchange
gives-exchange w theirs k = quiet k (apart-state refl refl refl refl refl refl refl refl refl refl refl)

-- a notification's value stands above the results'
pub apart-keep : (h : Held) (at : Micros) (handle n : ℕ) (indication : Bool) → Apart h (keep_one h at handle n indication)
unfolding keep_one
apart-keep h at handle n indication =
    record {
      «next» = refl;
      queue = refl;
      index = refl;
      active = refl;
      step = refl;
      len = refl;
      reports = refl;
      keys = refl;
      present = refl;
      handle = refl;
      results = refl;
      values = λ k p m q. stored-below part h.state.notifications.count h.store (payload_at + 3) n h.store (result_at k) m (omega (arith, p, q));
    }

whole-keep : (h : Held) (at : Micros) (handle n : ℕ) (indication : Bool) → Whole h → Whole (keep_one h at handle n indication)
unfolding keep_one
whole-keep h at handle n indication k = whole_same k (length-stored part h.state.notifications.count h.store (payload_at + 3) n h.store) refl

gives-notice : (w : World) (at : Micros) (n : ℕ) (indication : Bool) → Whole w.held → Gives at w.held (notice w at n indication).held
unfolding notice
gives-notice w at n indication k =
    let handle = le_at 2 (payload w.held n) 1 in
    let g = keep_one w.held at handle (n - 3) indication in
    gives_then (apart k (apart-keep w.held at handle (n - 3) indication)) (gives-check g at (whole-keep w.held at handle (n - 3) indication k))

-- ---- responses

module _ (w : World) (at : Micros) (k : Whole w.held) where
  gives-over : (st : StepStatus) → Gives at w.held (over w at st).held
  gives-over st = gives-ends w.held at st k

  gives_into : (x : Option Service) → Gives at w.held (walk_into w at x).held
  unfolding walk_into
  gives_into None = gives-over NotFound
  gives_into (Some svc) = gives-characteristics w at svc svc.start k

  gives-services-done : (g : Goal) → Gives at w.held (services_done w at g).held
  unfolding services_done
  gives-services-done goal.All = gives-over Ok
  gives-services-done (goal.Of u) = gives_into (service_of w u)

  gives-go-on : (svc : Service) (from : ℕ) → Gives at w.held (go_on w at svc from).held
  unfolding go_on
  gives-go-on svc from = go (leb from svc.end)
    where
      go : (b : Bool) → Gives at w.held (pick b (discover_descriptors w at svc from) (over w at Ok)).held
      go true = gives-descriptors w at svc from k
      go false = gives-over Ok

  gives-range-done : (x : Option Service) → Gives at w.held (range_done w at x).held
  unfolding range_done
  gives-range-done None = gives-over NotFound
  gives-range-done (Some svc) = gives-go-on svc (after_range w svc)

  gives-characteristics-done : (x : Option Service) → Gives at w.held (characteristics_done w at x).held
  unfolding characteristics_done
  gives-characteristics-done None = gives-over NotFound
  gives-characteristics-done (Some svc) = gives-descriptors w at svc svc.start k

  gives-absent : (a : Asked) → Gives at w.held (absent w at a).held
  unfolding absent
  gives-absent (asked-variants.Mtu mtu) = gives-over (AttError err_attribute_not_found)
  gives-absent (asked-variants.Services g) = gives-services-done g
  gives-absent (asked-variants.Characteristics u) = gives-characteristics-done (service_of w u)
  gives-absent (asked-variants.Descriptors u) = gives-range-done (service_of w u)
  gives-absent asked-variants.Written = gives-over (AttError err_attribute_not_found)
  gives-absent asked-variants.Value = gives-over (AttError err_attribute_not_found)
  gives-absent asked-variants.Nothing = gives-over (AttError err_attribute_not_found)

  gives-failed : (code : ℕ) (a : Asked) → Gives at w.held (failed w at code a).held
  unfolding failed
  gives-failed code a = go (eqb code err_attribute_not_found)
    where
      go : (b : Bool) → Gives at w.held (pick b (absent w at a) (over w at (AttError code))).held
      go true = gives-absent a
      go false = gives-over (AttError code)

-- another part of the state first
after : {at : Micros} (w : World) (c : Central) (v : World) → Whole w.held → Apart w.held (on_state w.held c) → (Whole (become w c).held → Gives at (become w c).held v.held)
    → c.results ≡ w.held.state.results → Gives at w.held v.held
after w c v k a f e = gives_then (apart k a) (f (whole_same k refl e))

gives-services-found : (w : World) (at : Micros) (g : Goal) (f : Found Services) → Whole w.held → Gives at w.held (services_found w at g f).held
unfolding services_found
gives-services-found w at g f k = after w (with_services w.held.state f.table) (services_found w at g f) k (apart-state refl refl refl refl refl refl refl refl refl refl refl) (λ q. go q f.full (eqb f.last last_handle)) refl
  where
    v : World
    v = become w (with_services w.held.state f.table)

    go : Whole v.held → (a b : Bool) → Gives at v.held (pick a (over v at TableFull) (pick b (services_done v at g) (discover_services v at (f.last + 1)))).held
    go q true b = gives-over v at q TableFull
    go q false true = gives-services-done v at q g
    go q false false = gives-services v at (f.last + 1) q

gives-services-heard : (w : World) (at : Micros) (g : Goal) (n size : ℕ) → Whole w.held → Gives at w.held (services_heard w at g n size).held
unfolding services_heard
gives-services-heard w at g n size k = go (ltb size 6)
  where
    go : (b : Bool) → Gives at w.held (pick b (services_done w at g) (services_found w at g (service.services_taken w.held.state.services (entries_of w n size)))).held
    go true = gives-services-done w at k g
    go false = gives-services-found w at g _ k

gives-characteristics-found : (w : World) (at : Micros) (svc : Service) (f : Found Characteristics) → Whole w.held → Gives at w.held (characteristics_found w at svc f).held
unfolding characteristics_found
gives-characteristics-found w at svc f k =
    after w (with_characteristics w.held.state f.table) (characteristics_found w at svc f) k (apart-state refl refl refl refl refl refl refl refl refl refl refl) (λ q. go q f.full (leb svc.end f.last)) refl
  where
    v : World
    v = become w (with_characteristics w.held.state f.table)

    go : Whole v.held → (a b : Bool) → Gives at v.held (pick a (over v at TableFull) (pick b (discover_descriptors v at svc svc.start) (discover_characteristics v at svc (f.last + 1)))).held
    go q true b = gives-over v at q TableFull
    go q false true = gives-descriptors v at svc svc.start q
    go q false false = gives-characteristics v at svc (f.last + 1) q

gives-characteristics-heard : (w : World) (at : Micros) (n size : ℕ) (x : Option Service) → Whole w.held → Gives at w.held (characteristics_heard w at n size x).held
unfolding characteristics_heard
gives-characteristics-heard w at n size None k = gives-over w at k NotFound
gives-characteristics-heard w at n size (Some svc) k = go (ltb size 7)
  where
    go : (b : Bool)
        → Gives at w.held
        (pick b (discover_descriptors w at svc svc.start) (characteristics_found w at svc (characteristic.characteristics_taken w.held.state.characteristics svc.end (entries_of w n size)))).held
    go true = gives-descriptors w at svc svc.start k
    go false = gives-characteristics-found w at svc _ k

gives-descriptors-found : (w : World) (at : Micros) (svc : Service) (x : Named) → Whole w.held → Gives at w.held (descriptors_found w at svc x).held
gives-descriptors-found w at svc x k =
    after w (with_characteristics w.held.state x.table) (descriptors_found w at svc x) k (apart-state refl refl refl refl refl refl refl refl refl refl refl)
    (λ q. gives-go-on (become w (with_characteristics w.held.state x.table)) at q svc x.«next») refl

gives-descriptors-heard : (w : World) (at : Micros) (n format : ℕ) (x : Option Service) → Whole w.held → Gives at w.held (descriptors_heard w at n format x).held
unfolding descriptors_heard
gives-descriptors-heard w at n format None k = gives-over w at k NotFound
gives-descriptors-heard w at n format (Some svc) k = go (eqb (width_of format) 0)
  where
    go : (b : Bool)
        → Gives at w.held
        (pick b (go_on w at svc (after_range w svc)) (descriptors_found w at svc (descriptors_named w.held.state.characteristics (after_range w svc) (entries_of w n (width_of format))))).held
    go true = gives-go-on w at k svc (after_range w svc)
    go false = gives-descriptors-found w at svc _ k

-- a read's value fits its block
gives-value : (w : World) (at : Micros) (n : ℕ) → n ≤ payload_size → Whole w.held → Gives at w.held (value_read w at n).held
gives-value w at n s k = gives-finish w.held at Ok (payload_at + 1) (n - 1) 0 k (omega (arith, s)) (omega (arith, s))

gives-present : (w : World) (at : Micros) (n : ℕ) (a : Asked) → n ≤ payload_size → Whole w.held → Gives at w.held (present w at n a).held
unfolding present
gives-present w at n (asked-variants.Mtu mtu) s k =
    let c = with_mtu w.held.state (smaller_mtu (le_at 2 (payload w.held n) 1) mtu) in
    after w c (over (become w c) at Ok) k (apart-state refl refl refl refl refl refl refl refl refl refl refl) (λ q. gives-over (become w c) at q Ok) refl
gives-present w at n (asked-variants.Services g) s k = gives-services-heard w at g n _ k
gives-present w at n (asked-variants.Characteristics u) s k = gives-characteristics-heard w at n _ _ k
gives-present w at n (asked-variants.Descriptors u) s k = gives-descriptors-heard w at n _ _ k
gives-present w at n asked-variants.Written s k = go (eqb (get_or (payload w.held n) 0 0) op_write_rsp)
  where
    go : (b : Bool) → Gives at w.held (pick b (over w at Ok) w).held
    go true = gives-over w at k Ok
    go false = gives_none w.held
gives-present w at n asked-variants.Value s k = go (eqb (get_or (payload w.held n) 0 0) op_read_rsp)
  where
    go : (b : Bool) → Gives at w.held (pick b (value_read w at n) w).held
    go true = gives-value w at n s k
    go false = gives_none w.held
gives-present w at n asked-variants.Nothing s k = gives_none w.held

gives-taken : (w : World) (at : Micros) (n : ℕ) → n ≤ payload_size → Whole w.held → Gives at w.held (taken w at n).held
unfolding taken
gives-taken w at n s k = go w.held.state.running.active (eqb (get_or (payload w.held n) 0 0) op_error_rsp)
  where
    a : Asked
    a = asked_by w.held.state.running.step w.held.state.running.phase

    go : (x y : Bool) → Gives at w.held (pick x (pick y (failed w at (get_or (payload w.held n) 4 0) a) (present w at n a)) w).held
    go true true = gives-failed w at k _ a
    go true false = gives-present w at n a s k
    go false y = gives_none w.held

pub gives-response : (w : World) (at : Micros) (n : ℕ) → n ≤ payload_size → Whole w.held → Gives at w.held (on_response w at n).held
unfolding on_response
gives-response w at n s k = go (counts w.held.state.bearer.link.pending (payload w.held n))
  where
    c : Central
    c = unasked w.held.state

    go : (b : Bool) → Gives at w.held (pick b (taken (become w c) at n) w).held
    go true = after w c (taken (become w c) at n) k (apart-state refl refl refl refl refl refl refl refl refl refl refl) (λ q. gives-taken (become w c) at n s q) refl
    go false = gives_none w.held

-- ---- the attribute channel, and all channels

gives-opcode : (w : World) (at : Micros) (n op handle : ℕ) → n ≤ payload_size → Whole w.held → Gives at w.held (by_opcode w at n op handle).held
unfolding by_opcode
gives-opcode w at n op handle s k =
    go (among op (op_handle_value_ntf ∷ op_handle_value_ind ∷ []) && leb 3 n) (eqb op op_exchange_mtu_req) (among op searches) (among op accesses) (among op silent) (other_request op)
  where
    go : (a b c d e f : Bool)
        → Gives at w.held
        (pick a (notice w at n (eqb op op_handle_value_ind))
        (pick b (exchange w handle)
        (pick c (on_told w (refuse w.told op handle err_attribute_not_found))
        (pick d (on_told w (refuse w.told op handle err_invalid_handle))
        (pick e w
        (pick f (on_told w (refuse w.told op 0 err_request_not_supported)) (on_response w at n))))))).held
    go true b c d e f = gives-notice w at n (eqb op op_handle_value_ind) k
    go false true c d e f = gives-exchange w handle k
    go false false true d e f = gives_none w.held
    go false false false true e f = gives_none w.held
    go false false false false true f = gives_none w.held
    go false false false false false true = gives_none w.held
    go false false false false false false = gives-response w at n s k

gives-att : (w : World) (at : Micros) (n : ℕ) → n ≤ payload_size → Whole w.held → Gives at w.held (on_att w at n).held
unfolding on_att
gives-att w at n s k = go (eqb n 0)
  where
    p : List ℕ
    p = payload w.held n

    go : (b : Bool) → Gives at w.held (pick b w (by_opcode w at n (get_or p 0 0) (le_at 2 p 1))).held
    go true = gives_none w.held
    go false = gives-opcode w at n (get_or p 0 0) (le_at 2 p 1) s k

pub gives-channel : (w : World) (at : Micros) (channel n : ℕ) → n ≤ payload_size → Whole w.held → Gives at w.held (on_channel w at channel n).held
unfolding on_channel
gives-channel w at channel n s k = go (eqb channel cid_att) (eqb channel cid_signaling) (eqb channel cid_smp)
  where
    go : (a b c : Bool)
        → Gives at w.held
        (pick a (on_att w at n) (pick b (on_told w (on_signaling w.told (payload w.held n))) (pick c (on_told w (on_smp w.told (payload w.held n))) w))).held
    go true b c = gives-att w at n s k
    go false true c = gives_none w.held
    go false false true = gives_none w.held
    go false false false = gives_none w.held
