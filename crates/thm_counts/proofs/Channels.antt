-- What a frame that is read counts: a notification one more notified, and nothing else.
use Rattle.std.specs.Prelude.{Option, Some, None}
use Prim.Native.Nat.{ℕ, ◌+◌, ◌-◌, ◌≤◌}
use mathlib.Core.Path.{◌≡◌, refl, sym, subst, ◌∙◌}
use mathlib.Core.Bool.{Bool, true, false, ◌&&◌}
use mathlib.Core.List.{List, [], ◌∷◌}
use native.Mathlib.Omega.{arith}
use lib.ListN.{length, drop, get_or, length-drop}
use lib.Seq.{length-take-le}
use lib.Dec.{eqb, ltb, leb}
use borrow.Author.Tests.{eqb-true}
use Rattle.bytes_base.specs.Choice.{pick, among}
use Rattle.bytes_base.specs.Bytes.{le_at}
use Rattle.state_places.specs.Sizes.{store_size}
use Rattle.time.specs.declared.Micros.{Micros}
use Rattle.l2cap.specs.Numbers.{cid_att, cid_signaling, cid_smp}
use Rattle.att_pdu.specs.Numbers.{op_error_rsp, op_exchange_mtu_req, op_handle_value_ntf, op_handle_value_ind, op_read_rsp, op_write_rsp, err_invalid_handle, err_request_not_supported, err_attribute_not_found}
use Rattle.gatt_services.specs.Service as service
use Rattle.gatt_services.specs.declared.Service.{Service}
use Rattle.att_pdu.specs.declared.Found.{Found}
use Rattle.gatt_characteristics.specs.Characteristic as characteristic
use Rattle.gatt_descriptors.specs.declared.Named.{Named}
use Rattle.gatt_descriptors.specs.Named.{descriptors_named}
use Rattle.state.specs.Central.{Central, with_services, with_characteristics}
use Rattle.state.specs.declared.StepStatus.{StepStatus}
use Rattle.state.specs.declared.StepStatus.TheVariants.{Ok, NotFound, AttError, TableFull}
use Rattle.script_rules.specs.World.{Held, World, on_told}
use Rattle.script_rules.specs.Discovery.{last_handle, discover_services, discover_characteristics, discover_descriptors}
use Rattle.link_rules.specs.Payload.{payload_at, payload_size, payload, with_mtu}
use Rattle.link_rules.specs.Replies.{on_signaling, on_smp, refuse, exchange, keep_one, notice}
use Rattle.link_questions.specs.declared.Goal.{Goal}
use Rattle.link_questions.specs.declared.Goal.TheVariants as goal
use Rattle.link_questions.specs.declared.Asked.{Asked}
use Rattle.link_questions.specs.declared.Asked.TheVariants as asked-variants
use Rattle.link_rules.specs.Responses.{asked_by, over, become, service_of, entries_of, walk_into, services_done, services_found, services_heard, characteristics_found, characteristics_heard, after_range, go_on, width_of, descriptors_found, descriptors_heard, range_done, characteristics_done, absent, smaller_mtu, value_read, present, failed, counts, unasked, taken, on_response}
use Rattle.link_rules.specs.Att.{searches, accesses, silent, other_request, by_opcode, on_att}
use Rattle.link_rules.specs.Channel.{on_channel}
use Rattle.thm_trail.specs.Trail.{att-heard, came_on}
use Rattle.thm_counts.specs.Tally.{noticed, links_came}
use Rattle.thm_counts.proofs.Kept.{Kept, kept-none, kept_then, still, kept-finish, kept-ends, kept-services, kept-descriptors, kept-characteristics, kept-check}
use Rattle.gatt_services.specs.declared.Services.{Services}
use Rattle.gatt_characteristics.specs.declared.Characteristics.{Characteristics}

-- ---- responses

module _ (w : World) (at : Micros) where
  kept-over : (st : StepStatus) → Kept w.held (over w at st).held
  kept-over st = kept-ends w.held at st

  kept-into : (x : Option Service) → Kept w.held (walk_into w at x).held
  unfolding walk_into
  kept-into None = kept-over NotFound
  kept-into (Some svc) = kept-characteristics w at svc svc.start

  kept-services-done : (g : Goal) → Kept w.held (services_done w at g).held
  unfolding services_done
  kept-services-done goal.All = kept-over Ok
  kept-services-done (goal.Of u) = kept-into (service_of w u)

  kept-go-on : (svc : Service) (from : ℕ) → Kept w.held (go_on w at svc from).held
  unfolding go_on
  kept-go-on svc from = go (leb from svc.end)
    where
      go : (b : Bool) → Kept w.held (pick b (discover_descriptors w at svc from) (over w at Ok)).held
      go true = kept-descriptors w at svc from
      go false = kept-over Ok

  kept-range-done : (x : Option Service) → Kept w.held (range_done w at x).held
  unfolding range_done
  kept-range-done None = kept-over NotFound
  kept-range-done (Some svc) = kept-go-on svc (after_range w svc)

  kept-characteristics-done : (x : Option Service) → Kept w.held (characteristics_done w at x).held
  unfolding characteristics_done
  kept-characteristics-done None = kept-over NotFound
  kept-characteristics-done (Some svc) = kept-descriptors w at svc svc.start

  kept-absent : (a : Asked) → Kept w.held (absent w at a).held
  unfolding absent
  kept-absent (asked-variants.Mtu mtu) = kept-over (AttError err_attribute_not_found)
  kept-absent (asked-variants.Services g) = kept-services-done g
  kept-absent (asked-variants.Characteristics u) = kept-characteristics-done (service_of w u)
  kept-absent (asked-variants.Descriptors u) = kept-range-done (service_of w u)
  kept-absent asked-variants.Written = kept-over (AttError err_attribute_not_found)
  kept-absent asked-variants.Value = kept-over (AttError err_attribute_not_found)
  kept-absent asked-variants.Nothing = kept-over (AttError err_attribute_not_found)

  kept-failed : (code : ℕ) (a : Asked) → Kept w.held (failed w at code a).held
  unfolding failed
  kept-failed code a = go (eqb code err_attribute_not_found)
    where
      go : (b : Bool) → Kept w.held (pick b (absent w at a) (over w at (AttError code))).held
      go true = kept-absent a
      go false = kept-over (AttError code)

-- another part of the state first
after : (w : World) (c : Central) (v : World) → c.counters ≡ w.held.state.counters → Kept (become w c).held v.held → Kept w.held v.held
after w c v e f = kept_then (still {h = w.held} {c = c} e) f

kept-services-found : (w : World) (at : Micros) (g : Goal) (f : Found Services) → Kept w.held (services_found w at g f).held
unfolding services_found
kept-services-found w at g f = after w (with_services w.held.state f.table) (services_found w at g f) refl (go f.full (eqb f.last last_handle))
  where
    v : World
    v = become w (with_services w.held.state f.table)

    go : (a b : Bool) → Kept v.held (pick a (over v at TableFull) (pick b (services_done v at g) (discover_services v at (f.last + 1)))).held
    go true b = kept-over v at TableFull
    go false true = kept-services-done v at g
    go false false = kept-services v at (f.last + 1)

kept-services-heard : (w : World) (at : Micros) (g : Goal) (n size : ℕ) → Kept w.held (services_heard w at g n size).held
unfolding services_heard
kept-services-heard w at g n size = go (ltb size 6)
  where
    go : (b : Bool) → Kept w.held (pick b (services_done w at g) (services_found w at g (service.services_taken w.held.state.services (entries_of w n size)))).held
    go true = kept-services-done w at g
    go false = kept-services-found w at g _

kept-characteristics-found : (w : World) (at : Micros) (svc : Service) (f : Found Characteristics) → Kept w.held (characteristics_found w at svc f).held
unfolding characteristics_found
kept-characteristics-found w at svc f =
    after w (with_characteristics w.held.state f.table) (characteristics_found w at svc f) refl (go f.full (leb svc.end f.last))
  where
    v : World
    v = become w (with_characteristics w.held.state f.table)

    go : (a b : Bool) → Kept v.held (pick a (over v at TableFull) (pick b (discover_descriptors v at svc svc.start) (discover_characteristics v at svc (f.last + 1)))).held
    go true b = kept-over v at TableFull
    go false true = kept-descriptors v at svc svc.start
    go false false = kept-characteristics v at svc (f.last + 1)

kept-characteristics-heard : (w : World) (at : Micros) (n size : ℕ) (x : Option Service) → Kept w.held (characteristics_heard w at n size x).held
unfolding characteristics_heard
kept-characteristics-heard w at n size None = kept-over w at NotFound
kept-characteristics-heard w at n size (Some svc) = go (ltb size 7)
  where
    go : (b : Bool)
        → Kept w.held
        (pick b (discover_descriptors w at svc svc.start) (characteristics_found w at svc (characteristic.characteristics_taken w.held.state.characteristics svc.end (entries_of w n size)))).held
    go true = kept-descriptors w at svc svc.start
    go false = kept-characteristics-found w at svc _

kept-descriptors-found : (w : World) (at : Micros) (svc : Service) (x : Named) → Kept w.held (descriptors_found w at svc x).held
kept-descriptors-found w at svc x =
    after w (with_characteristics w.held.state x.table) (descriptors_found w at svc x) refl
    (kept-go-on (become w (with_characteristics w.held.state x.table)) at svc x.«next»)

kept-descriptors-heard : (w : World) (at : Micros) (n format : ℕ) (x : Option Service) → Kept w.held (descriptors_heard w at n format x).held
unfolding descriptors_heard
kept-descriptors-heard w at n format None = kept-over w at NotFound
kept-descriptors-heard w at n format (Some svc) = go (eqb (width_of format) 0)
  where
    go : (b : Bool)
        → Kept w.held
        (pick b (go_on w at svc (after_range w svc)) (descriptors_found w at svc (descriptors_named w.held.state.characteristics (after_range w svc) (entries_of w n (width_of format))))).held
    go true = kept-go-on w at svc (after_range w svc)
    go false = kept-descriptors-found w at svc _

kept-value : (w : World) (at : Micros) (n : ℕ) → Kept w.held (value_read w at n).held
kept-value w at n = kept-finish w.held at Ok (payload_at + 1) (n - 1) 0

kept-present : (w : World) (at : Micros) (n : ℕ) (a : Asked) → Kept w.held (present w at n a).held
unfolding present
kept-present w at n (asked-variants.Mtu mtu) =
    let c = with_mtu w.held.state (smaller_mtu (le_at 2 (payload w.held n) 1) mtu) in
    after w c (over (become w c) at Ok) refl (kept-over (become w c) at Ok)
kept-present w at n (asked-variants.Services g) = kept-services-heard w at g n _
kept-present w at n (asked-variants.Characteristics u) = kept-characteristics-heard w at n _ _
kept-present w at n (asked-variants.Descriptors u) = kept-descriptors-heard w at n _ _
kept-present w at n asked-variants.Written = go (eqb (get_or (payload w.held n) 0 0) op_write_rsp)
  where
    go : (b : Bool) → Kept w.held (pick b (over w at Ok) w).held
    go true = kept-over w at Ok
    go false = kept-none w.held
kept-present w at n asked-variants.Value = go (eqb (get_or (payload w.held n) 0 0) op_read_rsp)
  where
    go : (b : Bool) → Kept w.held (pick b (value_read w at n) w).held
    go true = kept-value w at n
    go false = kept-none w.held
kept-present w at n asked-variants.Nothing = kept-none w.held

kept-taken : (w : World) (at : Micros) (n : ℕ) → Kept w.held (taken w at n).held
unfolding taken
kept-taken w at n = go w.held.state.running.active (eqb (get_or (payload w.held n) 0 0) op_error_rsp)
  where
    a : Asked
    a = asked_by w.held.state.running.step w.held.state.running.phase

    go : (x y : Bool) → Kept w.held (pick x (pick y (failed w at (get_or (payload w.held n) 4 0) a) (present w at n a)) w).held
    go true true = kept-failed w at _ a
    go true false = kept-present w at n a
    go false y = kept-none w.held

pub kept-response : (w : World) (at : Micros) (n : ℕ) → Kept w.held (on_response w at n).held
unfolding on_response
kept-response w at n = go (counts w.held.state.bearer.link.pending (payload w.held n))
  where
    c : Central
    c = unasked w.held.state

    go : (b : Bool) → Kept w.held (pick b (taken (become w c) at n) w).held
    go true = after w c (taken (become w c) at n) refl (kept-taken (become w c) at n)
    go false = kept-none w.held

-- ---- a frame as a whole

-- n more are notified, and m more links are counted
pub record Moves (h g : Held) (n m : ℕ) : Type 0 where
  pub notified : g.state.counters.notified ≡ h.state.counters.notified + n
  pub refused : g.state.counters.refused_steps ≡ h.state.counters.refused_steps
  pub links : g.state.counters.links ≡ h.state.counters.links + m

pub of-kept : {h g : Held} → Kept h g → Moves h g 0 0
of-kept k = record { notified = omega (arith, k.notified); refused = k.refused; links = omega (arith, k.links) }

pub moves-then : {h g i : Held} {n m k l : ℕ} → Moves h g n m → Moves g i k l → Moves h i (n + k) (m + l)
moves-then a b = record { notified = omega (arith, a.notified, b.notified); refused = b.refused ∙ a.refused; links = omega (arith, a.links, b.links) }

keeps-one : (h : Held) (at : Micros) (handle n : ℕ) (indication : Bool) → Moves h (keep_one h at handle n indication) 1 0
unfolding keep_one
keeps-one h at handle n indication = record { notified = refl; refused = refl; links = omega arith }

moves-notice : (w : World) (at : Micros) (n : ℕ) (indication : Bool) → Moves w.held (notice w at n indication).held 1 0
unfolding notice
moves-notice w at n indication =
    let g = keep_one w.held at (le_at 2 (payload w.held n) 1) (n - 3) indication in
    let a = keeps-one w.held at (le_at 2 (payload w.held n) 1) (n - 3) indication in
    let b = kept-check g at in
    record { notified = b.notified ∙ a.notified; refused = b.refused ∙ a.refused; links = b.links ∙ a.links }

kept-exchange : (w : World) (theirs : ℕ) → Kept w.held (exchange w theirs).held
unfolding exchange
kept-exchange w theirs = record { notified = refl; refused = refl; links = refl }

-- by whether the opcode and the length are a notification's
moves-opcode : (w : World) (at : Micros) (n op handle : ℕ)
    → Moves w.held (by_opcode w at n op handle).held (pick (among op (op_handle_value_ntf ∷ op_handle_value_ind ∷ []) && leb 3 n) 1 0) 0
unfolding by_opcode
moves-opcode w at n op handle =
    go (among op (op_handle_value_ntf ∷ op_handle_value_ind ∷ []) && leb 3 n) (eqb op op_exchange_mtu_req) (among op searches) (among op accesses) (among op silent) (other_request op)
  where
    go : (a b c d e f : Bool)
        → Moves w.held
        (pick a (notice w at n (eqb op op_handle_value_ind))
        (pick b (exchange w handle)
        (pick c (on_told w (refuse w.told op handle err_attribute_not_found))
        (pick d (on_told w (refuse w.told op handle err_invalid_handle))
        (pick e w
        (pick f (on_told w (refuse w.told op 0 err_request_not_supported)) (on_response w at n))))))).held
        (pick a 1 0) 0
    go true b c d e f = moves-notice w at n (eqb op op_handle_value_ind)
    go false true c d e f = of-kept (kept-exchange w handle)
    go false false true d e f = of-kept (kept-none w.held)
    go false false false true e f = of-kept (kept-none w.held)
    go false false false false true f = of-kept (kept-none w.held)
    go false false false false false true = of-kept (kept-none w.held)
    go false false false false false false = of-kept (kept-response w at n)

nothing-heard : (h : Held) (a : Bool) → Moves h h (pick (a && false) 1 0) 0
nothing-heard h true = of-kept (kept-none h)
nothing-heard h false = of-kept (kept-none h)

moves-att : (w : World) (at : Micros) (n : ℕ)
    → Moves w.held (on_att w at n).held (pick (among (get_or (payload w.held n) 0 0) (op_handle_value_ntf ∷ op_handle_value_ind ∷ []) && leb 3 n) 1 0) 0
unfolding on_att
moves-att w at n = go (eqb n 0) refl
  where
    p : List ℕ
    p = payload w.held n

    a : Bool
    a = among (get_or p 0 0) (op_handle_value_ntf ∷ op_handle_value_ind ∷ [])

    go : (b : Bool) → eqb n 0 ≡ b → Moves w.held (pick b w (by_opcode w at n (get_or p 0 0) (le_at 2 p 1))).held (pick (a && leb 3 n) 1 0) 0
    go true e = subst (λ (m : ℕ). Moves w.held w.held (pick (a && leb 3 m) 1 0) 0) (sym (eqb-true n 0 e)) (nothing-heard w.held a)
    go false e = moves-opcode w at n (get_or p 0 0) (le_at 2 p 1)

-- what came in is what is counted
pub moves-channel : (w : World) (at : Micros) (channel n : ℕ) → length w.held.store ≡ store_size → n ≤ payload_size
    → Moves w.held (on_channel w at channel n).held (noticed (came_on channel (payload w.held n))) (links_came (came_on channel (payload w.held n)))
unfolding on_channel
moves-channel w at channel n s k = go (eqb channel cid_att) (eqb channel cid_signaling) (eqb channel cid_smp)
  where
    p : List ℕ
    p = payload w.held n

    long : length p ≡ n
    long = length-take-le n (drop payload_at w.held.store) (omega (arith, length-drop payload_at w.held.store, s, k))

    a : Bool
    a = among (get_or p 0 0) (op_handle_value_ntf ∷ op_handle_value_ind ∷ [])

    att : Moves w.held (on_att w at n).held (pick (a && leb 3 (length p)) 1 0 + 0) 0
    att =
        let m = subst (λ (x : ℕ). Moves w.held (on_att w at n).held (pick (a && leb 3 x) 1 0) 0) (sym long) (moves-att w at n) in
        record { notified = omega (arith, m.notified); refused = m.refused; links = m.links }

    go : (x y z : Bool)
        → Moves w.held
        (pick x (on_att w at n) (pick y (on_told w (on_signaling w.told (payload w.held n))) (pick z (on_told w (on_smp w.told (payload w.held n))) w))).held
        (noticed (pick x (att-heard p ∷ []) []))
        (links_came (pick x (att-heard p ∷ []) []))
    go true y z = att
    go false true z = of-kept (kept-none w.held)
    go false false true = of-kept (kept-none w.held)
    go false false false = of-kept (kept-none w.held)
