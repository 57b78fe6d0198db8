-- What a frame that is read leaves: the link, its handle and the number of bytes held.
use Rattle.std.specs.Prelude.{Option, Some, None}
use Prim.Native.Nat.{ℕ, ◌+◌, ◌-◌}
use mathlib.Core.Path.{◌≡◌, refl}
use mathlib.Core.Bool.{Bool, true, false, ◌&&◌}
use mathlib.Core.List.{List, [], ◌∷◌}
use lib.ListN.{get_or}
use lib.Dec.{eqb, ltb, leb}
use Rattle.bytes_base.specs.Choice.{pick, among}
use Rattle.bytes_base.specs.Bytes.{le_at}
use Rattle.time.specs.declared.Micros.{Micros}
use Rattle.l2cap.specs.Numbers.{cid_att, cid_signaling, cid_smp}
use Rattle.att_pdu.specs.Numbers.{op_error_rsp, op_exchange_mtu_req, op_handle_value_ntf, op_handle_value_ind, op_read_rsp, op_write_rsp, err_invalid_handle, err_request_not_supported, err_attribute_not_found}
use Rattle.gatt_services.specs.Service as service
use Rattle.gatt_services.specs.declared.Service.{Service}
use Rattle.att_pdu.specs.declared.Found.{Found}
use Rattle.gatt_characteristics.specs.Characteristic as characteristic
use Rattle.gatt_descriptors.specs.declared.Named.{Named}
use Rattle.gatt_descriptors.specs.Named.{descriptors_named}
use Rattle.state.specs.Central.{Central, with_services, with_characteristics}
use Rattle.state.specs.declared.StepStatus.{StepStatus}
use Rattle.state.specs.declared.StepStatus.TheVariants.{Ok, NotFound, AttError, TableFull}
use Rattle.script_rules.specs.World.{Held, World, on_told}
use Rattle.script_rules.specs.Discovery.{last_handle, discover_services, discover_characteristics, discover_descriptors}
use Rattle.link_rules.specs.Payload.{payload_at, payload, with_mtu}
use Rattle.link_rules.specs.Replies.{on_signaling, on_smp, refuse, exchange, keep_one, notice}
use Rattle.link_questions.specs.declared.Goal.{Goal}
use Rattle.link_questions.specs.declared.Goal.TheVariants as goal
use Rattle.link_questions.specs.declared.Asked.{Asked}
use Rattle.link_questions.specs.declared.Asked.TheVariants as asked-variants
use Rattle.link_rules.specs.Responses.{asked_by, over, become, service_of, entries_of, walk_into, services_done, services_found, services_heard, characteristics_found, characteristics_heard, after_range, go_on, width_of, descriptors_found, descriptors_heard, range_done, characteristics_done, absent, smaller_mtu, value_read, present, failed, counts, unasked, taken, on_response}
use Rattle.link_rules.specs.Att.{searches, accesses, silent, other_request, by_opcode, on_att}
use Rattle.link_rules.specs.Channel.{on_channel}
use Rattle.thm_heard.proofs.Keeps.{Bears, bears-none, bears-then, bears-finish, keeps-ends, keeps-services, keeps-descriptors, keeps-characteristics, keeps-check}
use Rattle.gatt_services.specs.declared.Services.{Services}
use Rattle.gatt_characteristics.specs.declared.Characteristics.{Characteristics}

-- ---- responses

module _ (w : World) (at : Micros) where
  bears-over : (st : StepStatus) → Bears w.held (over w at st).held
  bears-over st = (keeps-ends w.held at st).bears

  bears-into : (x : Option Service) → Bears w.held (walk_into w at x).held
  unfolding walk_into
  bears-into None = bears-over NotFound
  bears-into (Some svc) = (keeps-characteristics w at svc svc.start).bears

  bears-services-done : (g : Goal) → Bears w.held (services_done w at g).held
  unfolding services_done
  bears-services-done goal.All = bears-over Ok
  bears-services-done (goal.Of u) = bears-into (service_of w u)

  bears-go-on : (svc : Service) (from : ℕ) → Bears w.held (go_on w at svc from).held
  unfolding go_on
  bears-go-on svc from = go (leb from svc.end)
    where
      go : (b : Bool) → Bears w.held (pick b (discover_descriptors w at svc from) (over w at Ok)).held
      go true = (keeps-descriptors w at svc from).bears
      go false = bears-over Ok

  bears-range-done : (x : Option Service) → Bears w.held (range_done w at x).held
  unfolding range_done
  bears-range-done None = bears-over NotFound
  bears-range-done (Some svc) = bears-go-on svc (after_range w svc)

  bears-characteristics-done : (x : Option Service) → Bears w.held (characteristics_done w at x).held
  unfolding characteristics_done
  bears-characteristics-done None = bears-over NotFound
  bears-characteristics-done (Some svc) = (keeps-descriptors w at svc svc.start).bears

  bears-absent : (a : Asked) → Bears w.held (absent w at a).held
  unfolding absent
  bears-absent (asked-variants.Mtu mtu) = bears-over (AttError err_attribute_not_found)
  bears-absent (asked-variants.Services g) = bears-services-done g
  bears-absent (asked-variants.Characteristics u) = bears-characteristics-done (service_of w u)
  bears-absent (asked-variants.Descriptors u) = bears-range-done (service_of w u)
  bears-absent asked-variants.Written = bears-over (AttError err_attribute_not_found)
  bears-absent asked-variants.Value = bears-over (AttError err_attribute_not_found)
  bears-absent asked-variants.Nothing = bears-over (AttError err_attribute_not_found)

  bears-failed : (code : ℕ) (a : Asked) → Bears w.held (failed w at code a).held
  unfolding failed
  bears-failed code a = go (eqb code err_attribute_not_found)
    where
      go : (b : Bool) → Bears w.held (pick b (absent w at a) (over w at (AttError code))).held
      go true = bears-absent a
      go false = bears-over (AttError code)

-- another part of the state first
after : (w : World) (c : Central) (v : World) → Bears w.held (become w c).held → Bears (become w c).held v.held → Bears w.held v.held
after w c v e f = bears-then e f

-- none of them is touched
untouched : {h g : Held} → g.state.bearer.held ≡ h.state.bearer.held → g.state.bearer.present ≡ h.state.bearer.present → g.state.bearer.closed ≡ h.state.bearer.closed
    → g.state.bearer.link.handle ≡ h.state.bearer.link.handle → g.state.options ≡ h.state.options → Bears h g
untouched a b c d e = record { held = a; present = b; closed = c; handle = d; options = e }

bears-services-found : (w : World) (at : Micros) (g : Goal) (f : Found Services) → Bears w.held (services_found w at g f).held
unfolding services_found
bears-services-found w at g f = after w (with_services w.held.state f.table) (services_found w at g f) (untouched refl refl refl refl refl) (go f.full (eqb f.last last_handle))
  where
    v : World
    v = become w (with_services w.held.state f.table)

    go : (a b : Bool) → Bears v.held (pick a (over v at TableFull) (pick b (services_done v at g) (discover_services v at (f.last + 1)))).held
    go true b = bears-over v at TableFull
    go false true = bears-services-done v at g
    go false false = (keeps-services v at (f.last + 1)).bears

bears-services-heard : (w : World) (at : Micros) (g : Goal) (n size : ℕ) → Bears w.held (services_heard w at g n size).held
unfolding services_heard
bears-services-heard w at g n size = go (ltb size 6)
  where
    go : (b : Bool) → Bears w.held (pick b (services_done w at g) (services_found w at g (service.services_taken w.held.state.services (entries_of w n size)))).held
    go true = bears-services-done w at g
    go false = bears-services-found w at g _

bears-characteristics-found : (w : World) (at : Micros) (svc : Service) (f : Found Characteristics) → Bears w.held (characteristics_found w at svc f).held
unfolding characteristics_found
bears-characteristics-found w at svc f =
    after w (with_characteristics w.held.state f.table) (characteristics_found w at svc f) (untouched refl refl refl refl refl) (go f.full (leb svc.end f.last))
  where
    v : World
    v = become w (with_characteristics w.held.state f.table)

    go : (a b : Bool) → Bears v.held (pick a (over v at TableFull) (pick b (discover_descriptors v at svc svc.start) (discover_characteristics v at svc (f.last + 1)))).held
    go true b = bears-over v at TableFull
    go false true = (keeps-descriptors v at svc svc.start).bears
    go false false = (keeps-characteristics v at svc (f.last + 1)).bears

bears-characteristics-heard : (w : World) (at : Micros) (n size : ℕ) (x : Option Service) → Bears w.held (characteristics_heard w at n size x).held
unfolding characteristics_heard
bears-characteristics-heard w at n size None = bears-over w at NotFound
bears-characteristics-heard w at n size (Some svc) = go (ltb size 7)
  where
    go : (b : Bool)
        → Bears w.held
        (pick b (discover_descriptors w at svc svc.start) (characteristics_found w at svc (characteristic.characteristics_taken w.held.state.characteristics svc.end (entries_of w n size)))).held
    go true = (keeps-descriptors w at svc svc.start).bears
    go false = bears-characteristics-found w at svc _

bears-descriptors-found : (w : World) (at : Micros) (svc : Service) (x : Named) → Bears w.held (descriptors_found w at svc x).held
bears-descriptors-found w at svc x =
    after w (with_characteristics w.held.state x.table) (descriptors_found w at svc x) (untouched refl refl refl refl refl)
    (bears-go-on (become w (with_characteristics w.held.state x.table)) at svc x.«next»)

bears-descriptors-heard : (w : World) (at : Micros) (n format : ℕ) (x : Option Service) → Bears w.held (descriptors_heard w at n format x).held
unfolding descriptors_heard
bears-descriptors-heard w at n format None = bears-over w at NotFound
bears-descriptors-heard w at n format (Some svc) = go (eqb (width_of format) 0)
  where
    go : (b : Bool)
        → Bears w.held
        (pick b (go_on w at svc (after_range w svc)) (descriptors_found w at svc (descriptors_named w.held.state.characteristics (after_range w svc) (entries_of w n (width_of format))))).held
    go true = bears-go-on w at svc (after_range w svc)
    go false = bears-descriptors-found w at svc _

bears-value : (w : World) (at : Micros) (n : ℕ) → Bears w.held (value_read w at n).held
bears-value w at n = bears-finish w.held at Ok (payload_at + 1) (n - 1) 0

bears-present : (w : World) (at : Micros) (n : ℕ) (a : Asked) → Bears w.held (present w at n a).held
unfolding present
bears-present w at n (asked-variants.Mtu mtu) =
    let c = with_mtu w.held.state (smaller_mtu (le_at 2 (payload w.held n) 1) mtu) in
    after w c (over (become w c) at Ok) (untouched refl refl refl refl refl) (bears-over (become w c) at Ok)
bears-present w at n (asked-variants.Services g) = bears-services-heard w at g n _
bears-present w at n (asked-variants.Characteristics u) = bears-characteristics-heard w at n _ _
bears-present w at n (asked-variants.Descriptors u) = bears-descriptors-heard w at n _ _
bears-present w at n asked-variants.Written = go (eqb (get_or (payload w.held n) 0 0) op_write_rsp)
  where
    go : (b : Bool) → Bears w.held (pick b (over w at Ok) w).held
    go true = bears-over w at Ok
    go false = bears-none w.held
bears-present w at n asked-variants.Value = go (eqb (get_or (payload w.held n) 0 0) op_read_rsp)
  where
    go : (b : Bool) → Bears w.held (pick b (value_read w at n) w).held
    go true = bears-value w at n
    go false = bears-none w.held
bears-present w at n asked-variants.Nothing = bears-none w.held

bears-taken : (w : World) (at : Micros) (n : ℕ) → Bears w.held (taken w at n).held
unfolding taken
bears-taken w at n = go w.held.state.running.active (eqb (get_or (payload w.held n) 0 0) op_error_rsp)
  where
    a : Asked
    a = asked_by w.held.state.running.step w.held.state.running.phase

    go : (x y : Bool) → Bears w.held (pick x (pick y (failed w at (get_or (payload w.held n) 4 0) a) (present w at n a)) w).held
    go true true = bears-failed w at _ a
    go true false = bears-present w at n a
    go false y = bears-none w.held

pub bears-response : (w : World) (at : Micros) (n : ℕ) → Bears w.held (on_response w at n).held
unfolding on_response
bears-response w at n = go (counts w.held.state.bearer.link.pending (payload w.held n))
  where
    c : Central
    c = unasked w.held.state

    go : (b : Bool) → Bears w.held (pick b (taken (become w c) at n) w).held
    go true = after w c (taken (become w c) at n) (untouched refl refl refl refl refl) (bears-taken (become w c) at n)
    go false = bears-none w.held

-- ---- a frame as a whole

bears-keep : (h : Held) (at : Micros) (handle n : ℕ) (indication : Bool) → Bears h (keep_one h at handle n indication)
unfolding keep_one
bears-keep h at handle n indication = untouched refl refl refl refl refl

bears-notice : (w : World) (at : Micros) (n : ℕ) (indication : Bool) → Bears w.held (notice w at n indication).held
unfolding notice
bears-notice w at n indication =
    let handle = le_at 2 (payload w.held n) 1 in
    bears-then (bears-keep w.held at handle (n - 3) indication) (keeps-check (keep_one w.held at handle (n - 3) indication) at).bears

bears-exchange : (w : World) (theirs : ℕ) → Bears w.held (exchange w theirs).held
unfolding exchange
bears-exchange w theirs = untouched refl refl refl refl refl

bears-opcode : (w : World) (at : Micros) (n op handle : ℕ) → Bears w.held (by_opcode w at n op handle).held
unfolding by_opcode
bears-opcode w at n op handle =
    go (among op (op_handle_value_ntf ∷ op_handle_value_ind ∷ []) && leb 3 n) (eqb op op_exchange_mtu_req) (among op searches) (among op accesses) (among op silent) (other_request op)
  where
    go : (a b c d e f : Bool)
        → Bears w.held
        (pick a (notice w at n (eqb op op_handle_value_ind))
        (pick b (exchange w handle)
        (pick c (on_told w (refuse w.told op handle err_attribute_not_found))
        (pick d (on_told w (refuse w.told op handle err_invalid_handle))
        (pick e w
        (pick f (on_told w (refuse w.told op 0 err_request_not_supported)) (on_response w at n))))))).held
    go true b c d e f = bears-notice w at n (eqb op op_handle_value_ind)
    go false true c d e f = bears-exchange w handle
    go false false true d e f = bears-none w.held
    go false false false true e f = bears-none w.held
    go false false false false true f = bears-none w.held
    go false false false false false true = bears-none w.held
    go false false false false false false = bears-response w at n

bears-att : (w : World) (at : Micros) (n : ℕ) → Bears w.held (on_att w at n).held
unfolding on_att
bears-att w at n = go (eqb n 0)
  where
    p : List ℕ
    p = payload w.held n

    go : (b : Bool) → Bears w.held (pick b w (by_opcode w at n (get_or p 0 0) (le_at 2 p 1))).held
    go true = bears-none w.held
    go false = bears-opcode w at n (get_or p 0 0) (le_at 2 p 1)

pub bears-channel : (w : World) (at : Micros) (channel n : ℕ) → Bears w.held (on_channel w at channel n).held
unfolding on_channel
bears-channel w at channel n = go (eqb channel cid_att) (eqb channel cid_signaling) (eqb channel cid_smp)
  where
    go : (a b c : Bool)
        → Bears w.held
        (pick a (on_att w at n) (pick b (on_told w (on_signaling w.told (payload w.held n))) (pick c (on_told w (on_smp w.told (payload w.held n))) w))).held
    go true b c = bears-att w at n
    go false true c = bears-none w.held
    go false false true = bears-none w.held
    go false false false = bears-none w.held
