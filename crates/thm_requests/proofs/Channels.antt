-- What a frame that is read does to the request that is awaited.
use Rattle.std.specs.Prelude.{Option, Some, None}
use Prim.Native.Nat.{ℕ, ◌+◌, ◌-◌, ◌≤◌}
use mathlib.Core.Path.{◌≡◌, refl, ap}
use mathlib.Core.Bool.{Bool, true, false, ◌&&◌, ◌||◌}
use mathlib.Core.List.{List, [], ◌∷◌}
use native.Mathlib.Omega.{arith}
use lib.ListN.{length, get_or}
use lib.Dec.{eqb, ltb, leb}
use Rattle.bytes_base.specs.Choice.{pick, among}
use Rattle.bytes_base.specs.Bytes.{le_at}
use Rattle.time.specs.declared.Micros.{Micros}
use Rattle.l2cap.specs.Numbers.{cid_att, cid_signaling, cid_smp}
use Rattle.att_pdu.specs.Numbers.{op_error_rsp, op_exchange_mtu_req, op_handle_value_ntf, op_handle_value_ind, op_read_rsp, op_write_rsp, err_invalid_handle, err_request_not_supported, err_attribute_not_found}
use Rattle.gatt_services.specs.Service as service
use Rattle.gatt_services.specs.declared.Service.{Service}
use Rattle.att_pdu.specs.declared.Found.{Found}
use Rattle.gatt_characteristics.specs.Characteristic as characteristic
use Rattle.gatt_descriptors.specs.declared.Named.{Named}
use Rattle.gatt_descriptors.specs.Named.{descriptors_named}
use Rattle.state.specs.Central.{Central, with_services, with_characteristics}
use Rattle.state.specs.declared.StepStatus.{StepStatus}
use Rattle.state.specs.declared.StepStatus.TheVariants.{Ok, NotFound, AttError, TableFull}
use Rattle.script_rules.specs.World.{Held, World, on_held, on_told, on_state}
use Rattle.script_rules.specs.Discovery.{last_handle, discover_services, discover_characteristics, discover_descriptors}
use Rattle.script_rules.specs.Wait.{check_wait}
use Rattle.link_rules.specs.Payload.{payload_at, payload, with_mtu}
use Rattle.link_rules.specs.Replies.{on_signaling, on_smp, refuse, exchange, keep_one, notice}
use Rattle.link_questions.specs.declared.Goal.{Goal}
use Rattle.link_questions.specs.declared.Goal.TheVariants as goal
use Rattle.link_questions.specs.declared.Asked.{Asked}
use Rattle.link_questions.specs.declared.Asked.TheVariants as asked-variants
use Rattle.link_rules.specs.Responses.{asked_by, over, become, service_of, entries_of, walk_into, services_done, services_found, services_heard, characteristics_found, characteristics_heard, after_range, go_on, width_of, descriptors_found, descriptors_heard, range_done, characteristics_done, absent, smaller_mtu, value_read, present, failed, counts, unasked, taken, on_response}
use Rattle.link_rules.specs.Att.{searches, accesses, silent, other_request, by_opcode, on_att}
use Rattle.link_rules.specs.Channel.{on_channel}
use Rattle.state_rules.specs.Fit.{is_request}
use Rattle.att_pdu.specs.Pdu.{att_error, exchange_mtu_rsp, confirmation}
use Rattle.script_rules.specs.World.{Told}
use Rattle.script_rules.specs.Send.{send}
use Rattle.l2cap_signaling.specs.Answer.{signaling_answer, smp_answer}
use Rattle.l2cap_params.specs.declared.Parameters.{Parameters}
use Rattle.std.specs.Prelude.{Option, Some, None}
use Rattle.state_rules.specs.Steps.{most_mtu}
use Rattle.link_rules.specs.Replies.{reply, asks_update, confirmed}
use lib.ListN.{take}
use lib.ListN.{length-take}
use Rattle.att_pdu.proofs.PduLaws.{length-att_error, length-exchange_mtu_rsp}
use Rattle.l2cap_signaling.proofs.AnswerLaws.{Sized, signaling-sized, smp-sized}
use Rattle.thm_requests.specs.Sorts.{requests, commands}
use Rattle.thm_requests.proofs.Asks.{Asks, calm, none, asks, Calmly, Voice, Reply, mute, replies, voiced, itself, asks_none, mild, asks-then, asks-quit, asks-finish, not-awaited}
use Rattle.thm_requests.proofs.Starts.{asks-ends, asks-services, asks-descriptors, asks-characteristics, asks-check}
use Rattle.gatt_services.specs.declared.Services.{Services}
use Rattle.gatt_characteristics.specs.declared.Characteristics.{Characteristics}

abbrev pub Runs : World → Type 0
Runs w = w.held.state.running.active ≡ true

-- ---- responses

module _ (w : World) (at : Micros) (k : Runs w) where
  asks-over : (st : StepStatus) → Asks w (over w at st)
  asks-over st = asks-ends w at st

  asks-into : (x : Option Service) → Asks w (walk_into w at x)
  unfolding walk_into
  asks-into None = asks-over NotFound
  asks-into (Some svc) = asks-characteristics w at svc svc.start k

  asks-services-done : (g : Goal) → Asks w (services_done w at g)
  unfolding services_done
  asks-services-done goal.All = asks-over Ok
  asks-services-done (goal.Of u) = asks-into (service_of w u)

  asks-go-on : (svc : Service) (from : ℕ) → Asks w (go_on w at svc from)
  unfolding go_on
  asks-go-on svc from = go (leb from svc.end)
    where
      go : (b : Bool) → Asks w (pick b (discover_descriptors w at svc from) (over w at Ok))
      go true = asks-descriptors w at svc from k
      go false = asks-over Ok

  asks-range-done : (x : Option Service) → Asks w (range_done w at x)
  unfolding range_done
  asks-range-done None = asks-over NotFound
  asks-range-done (Some svc) = asks-go-on svc (after_range w svc)

  asks-characteristics-done : (x : Option Service) → Asks w (characteristics_done w at x)
  unfolding characteristics_done
  asks-characteristics-done None = asks-over NotFound
  asks-characteristics-done (Some svc) = asks-descriptors w at svc svc.start k

  asks-absent : (a : Asked) → Asks w (absent w at a)
  unfolding absent
  asks-absent (asked-variants.Mtu mtu) = asks-over (AttError err_attribute_not_found)
  asks-absent (asked-variants.Services g) = asks-services-done g
  asks-absent (asked-variants.Characteristics u) = asks-characteristics-done (service_of w u)
  asks-absent (asked-variants.Descriptors u) = asks-range-done (service_of w u)
  asks-absent asked-variants.Written = asks-over (AttError err_attribute_not_found)
  asks-absent asked-variants.Value = asks-over (AttError err_attribute_not_found)
  asks-absent asked-variants.Nothing = asks-over (AttError err_attribute_not_found)

  asks-failed : (code : ℕ) (a : Asked) → Asks w (failed w at code a)
  unfolding failed
  asks-failed code a = go (eqb code err_attribute_not_found)
    where
      go : (b : Bool) → Asks w (pick b (absent w at a) (over w at (AttError code)))
      go true = asks-absent a
      go false = asks-over (AttError code)

-- another part of the state first
after : (w : World) (c : Central) (v : World) → Calmly w (become w c) → Asks (become w c) v → Asks w v
after w c v a f = asks-then {w = w} {g = on_state w.held c} a f

asks-services-found : (w : World) (at : Micros) (g : Goal) (f : Found Services) → Runs w → Asks w (services_found w at g f)
unfolding services_found
asks-services-found w at g f k = after w (with_services w.held.state f.table) (services_found w at g f) (mild refl refl refl refl) (go k f.full (eqb f.last last_handle))
  where
    v : World
    v = become w (with_services w.held.state f.table)

    go : Runs v → (a b : Bool) → Asks v (pick a (over v at TableFull) (pick b (services_done v at g) (discover_services v at (f.last + 1))))
    go q true b = asks-over v at q TableFull
    go q false true = asks-services-done v at q g
    go q false false = asks-services v at (f.last + 1) q

asks-services-heard : (w : World) (at : Micros) (g : Goal) (n size : ℕ) → Runs w → Asks w (services_heard w at g n size)
unfolding services_heard
asks-services-heard w at g n size k = go (ltb size 6)
  where
    go : (b : Bool) → Asks w (pick b (services_done w at g) (services_found w at g (service.services_taken w.held.state.services (entries_of w n size))))
    go true = asks-services-done w at k g
    go false = asks-services-found w at g _ k

asks-characteristics-found : (w : World) (at : Micros) (svc : Service) (f : Found Characteristics) → Runs w → Asks w (characteristics_found w at svc f)
unfolding characteristics_found
asks-characteristics-found w at svc f k =
    after w (with_characteristics w.held.state f.table) (characteristics_found w at svc f) (mild refl refl refl refl) (go k f.full (leb svc.end f.last))
  where
    v : World
    v = become w (with_characteristics w.held.state f.table)

    go : Runs v → (a b : Bool) → Asks v (pick a (over v at TableFull) (pick b (discover_descriptors v at svc svc.start) (discover_characteristics v at svc (f.last + 1))))
    go q true b = asks-over v at q TableFull
    go q false true = asks-descriptors v at svc svc.start q
    go q false false = asks-characteristics v at svc (f.last + 1) q

asks-characteristics-heard : (w : World) (at : Micros) (n size : ℕ) (x : Option Service) → Runs w → Asks w (characteristics_heard w at n size x)
unfolding characteristics_heard
asks-characteristics-heard w at n size None k = asks-over w at k NotFound
asks-characteristics-heard w at n size (Some svc) k = go (ltb size 7)
  where
    go : (b : Bool)
        → Asks w (pick b (discover_descriptors w at svc svc.start) (characteristics_found w at svc (characteristic.characteristics_taken w.held.state.characteristics svc.end (entries_of w n size))))
    go true = asks-descriptors w at svc svc.start k
    go false = asks-characteristics-found w at svc _ k

asks-descriptors-found : (w : World) (at : Micros) (svc : Service) (x : Named) → Runs w → Asks w (descriptors_found w at svc x)
asks-descriptors-found w at svc x k =
    after w (with_characteristics w.held.state x.table) (descriptors_found w at svc x) (mild refl refl refl refl)
    (asks-go-on (become w (with_characteristics w.held.state x.table)) at k svc x.«next»)

asks-descriptors-heard : (w : World) (at : Micros) (n format : ℕ) (x : Option Service) → Runs w → Asks w (descriptors_heard w at n format x)
unfolding descriptors_heard
asks-descriptors-heard w at n format None k = asks-over w at k NotFound
asks-descriptors-heard w at n format (Some svc) k = go (eqb (width_of format) 0)
  where
    go : (b : Bool)
        → Asks w (pick b (go_on w at svc (after_range w svc)) (descriptors_found w at svc (descriptors_named w.held.state.characteristics (after_range w svc) (entries_of w n (width_of format)))))
    go true = asks-go-on w at k svc (after_range w svc)
    go false = asks-descriptors-found w at svc _ k

asks-present : (w : World) (at : Micros) (n : ℕ) (a : Asked) → Runs w → Asks w (present w at n a)
unfolding present
asks-present w at n (asked-variants.Mtu mtu) k =
    let c = with_mtu w.held.state (smaller_mtu (le_at 2 (payload w.held n) 1) mtu) in
    after w c (over (become w c) at Ok) (mild refl refl refl refl) (asks-over (become w c) at k Ok)
asks-present w at n (asked-variants.Services g) k = asks-services-heard w at g n _ k
asks-present w at n (asked-variants.Characteristics u) k = asks-characteristics-heard w at n _ _ k
asks-present w at n (asked-variants.Descriptors u) k = asks-descriptors-heard w at n _ _ k
asks-present w at n asked-variants.Written k = go (eqb (get_or (payload w.held n) 0 0) op_write_rsp)
  where
    go : (b : Bool) → Asks w (pick b (over w at Ok) w)
    go true = asks-over w at k Ok
    go false = asks_none w
asks-present w at n asked-variants.Value k = go (eqb (get_or (payload w.held n) 0 0) op_read_rsp)
  where
    go : (b : Bool) → Asks w (pick b (value_read w at n) w)
    go true = asks-finish w at Ok (payload_at + 1) (n - 1) 0
    go false = asks_none w
asks-present w at n asked-variants.Nothing k = asks_none w

pub asks-taken : (w : World) (at : Micros) (n : ℕ) → Asks w (taken w at n)
unfolding taken
asks-taken w at n = go w.held.state.running.active refl (eqb (get_or (payload w.held n) 0 0) op_error_rsp)
  where
    a : Asked
    a = asked_by w.held.state.running.step w.held.state.running.phase

    go : (x : Bool) → w.held.state.running.active ≡ x → (y : Bool) → Asks w (pick x (pick y (failed w at (get_or (payload w.held n) 4 0) a) (present w at n a)) w)
    go true k true = asks-failed w at k _ a
    go true k false = asks-present w at n a k
    go false k y = asks_none w

pub asks-response : (w : World) (at : Micros) (n : ℕ) → Asks w (on_response w at n)
unfolding on_response
asks-response w at n = go (counts w.held.state.bearer.link.pending (payload w.held n))
  where
    c : Central
    c = unasked w.held.state

    go : (b : Bool) → Asks w (pick b (taken (become w c) at n) w)
    go true = asks-quit {w = w} {g = on_state w.held c} (not-awaited w.held.state.bearer.present) refl (asks-taken (become w c) at n)
    go false = asks_none w

-- ---- what is no response: no request of ours goes out

-- a reply
replied : (w : World) (t : Told) → Reply w.told t → Asks w (on_told w t)
replied w t v = calm (record { pending = refl; present = refl; active = refl; index = refl; voice = voiced v })

pub reply-refuse : (t : Told) (op handle code : ℕ) → Reply t (refuse t op handle code)
unfolding refuse among
reply-refuse t op handle code =
    replies cid_att (att_error op handle code) (omega arith) (omega (arith, length-att_error op handle code)) refl refl (itself (send t cid_att (att_error op handle code)))

-- nothing on another channel is a request
reply-other : (t : Told) (channel size : ℕ) (answer : Option (List ℕ)) → channel ≤ 65535 → Sized size answer → size ≤ 6 → eqb channel cid_att ≡ false → Reply t (reply t channel answer)
unfolding reply
reply-other t channel size None c z m e = mute (itself t)
reply-other t channel size (Some l) c z m e =
    let op = get_or l 0 0 in
    replies channel l c (omega (arith, m, z)) (ap (λ (b : Bool). b && is_request op) e) (ap (λ (b : Bool). b && (among op requests || among op commands)) e)
    (itself (send t channel l))

reply-update : (t s : Told) (u : Option Parameters) → Reply t s → Reply t (asks_update s u)
reply-update t s None v = v
reply-update t s (Some p) (mute a) = mute (record { frames = a.frames; bytes = a.bytes; out = a.out })
reply-update t s (Some p) (replies channel payload c m e f a) = replies channel payload c m e f (record { frames = a.frames; bytes = a.bytes; out = a.out })

pub reply-signaling : (t : Told) (p : List ℕ) → Reply t (on_signaling t p)
unfolding on_signaling
reply-signaling t p = let a = signaling_answer p in reply-update t (reply t cid_signaling a.reply) a.update (reply-other t cid_signaling 6 a.reply (omega arith) (signaling-sized p) (omega arith) refl)

pub reply-smp : (t : Told) (p : List ℕ) → Reply t (on_smp t p)
unfolding on_smp
reply-smp t p = reply-other t cid_smp 2 (smp_answer p) (omega arith) (smp-sized p) (omega arith) refl

pub reply-confirmed : (t : Told) (b : Bool) → Reply t (confirmed t b)
unfolding among
reply-confirmed t true = replies cid_att confirmation (omega arith) (omega arith) refl refl (itself (send t cid_att confirmation))
reply-confirmed t false = mute (itself t)

pub reply-exchange : (w : World) (theirs : ℕ) → Reply w.told (exchange w theirs).told
unfolding exchange among
reply-exchange w theirs =
    replies cid_att (exchange_mtu_rsp most_mtu) (omega arith) (omega (arith, length-exchange_mtu_rsp most_mtu)) refl refl (itself (send w.told cid_att (exchange_mtu_rsp most_mtu)))

asks-exchange : (w : World) (theirs : ℕ) → Asks w (exchange w theirs)
unfolding exchange
asks-exchange w theirs = calm (record { pending = refl; present = refl; active = refl; index = refl; voice = voiced (reply-exchange w theirs) })

-- where nothing went out, something else may
instead : (w : World) (g : Held) (t : Told) → Voice w.told t → Asks w (on_held w g) → Asks w (record { held = g; told = t })
unfolding send
instead w g t v (calm c) = calm (record { pending = c.pending; present = c.present; active = c.active; index = c.index; voice = v })
instead w g t v (none h u) = none h v
instead w g t v (asks b) = absurd (omega (arith, b.told.frames))

asks-notice : (w : World) (at : Micros) (n : ℕ) (indication : Bool) → Asks w (notice w at n indication)
unfolding notice keep_one
asks-notice w at n indication =
    let g = keep_one w.held at (le_at 2 (payload w.held n) 1) (n - 3) indication in
    instead w (check_wait g at) (confirmed w.told indication) (voiced (reply-confirmed w.told indication))
    (asks-then (mild {w = w} {g = g} refl refl refl refl) (asks-check (on_held w g) at))

-- ---- the attribute channel, and all channels

asks-opcode : (w : World) (at : Micros) (n op handle : ℕ) → Asks w (by_opcode w at n op handle)
unfolding by_opcode
asks-opcode w at n op handle =
    go (among op (op_handle_value_ntf ∷ op_handle_value_ind ∷ []) && leb 3 n) (eqb op op_exchange_mtu_req) (among op searches) (among op accesses) (among op silent) (other_request op)
  where
    go : (a b c d e f : Bool)
        → Asks w (pick a (notice w at n (eqb op op_handle_value_ind))
        (pick b (exchange w handle)
        (pick c (on_told w (refuse w.told op handle err_attribute_not_found))
        (pick d (on_told w (refuse w.told op handle err_invalid_handle))
        (pick e w
        (pick f (on_told w (refuse w.told op 0 err_request_not_supported)) (on_response w at n)))))))
    go true b c d e f = asks-notice w at n (eqb op op_handle_value_ind)
    go false true c d e f = asks-exchange w handle
    go false false true d e f = replied w _ (reply-refuse w.told op handle err_attribute_not_found)
    go false false false true e f = replied w _ (reply-refuse w.told op handle err_invalid_handle)
    go false false false false true f = asks_none w
    go false false false false false true = replied w _ (reply-refuse w.told op 0 err_request_not_supported)
    go false false false false false false = asks-response w at n

asks-att : (w : World) (at : Micros) (n : ℕ) → Asks w (on_att w at n)
unfolding on_att
asks-att w at n = go (eqb n 0)
  where
    p : List ℕ
    p = payload w.held n

    go : (b : Bool) → Asks w (pick b w (by_opcode w at n (get_or p 0 0) (le_at 2 p 1)))
    go true = asks_none w
    go false = asks-opcode w at n (get_or p 0 0) (le_at 2 p 1)

pub asks-channel : (w : World) (at : Micros) (channel n : ℕ) → Asks w (on_channel w at channel n)
unfolding on_channel
asks-channel w at channel n = go (eqb channel cid_att) (eqb channel cid_signaling) (eqb channel cid_smp)
  where
    go : (a b c : Bool)
        → Asks w (pick a (on_att w at n) (pick b (on_told w (on_signaling w.told (payload w.held n))) (pick c (on_told w (on_smp w.told (payload w.held n))) w)))
    go true b c = asks-att w at n
    go false true c = replied w _ (reply-signaling w.told (payload w.held n))
    go false false true = replied w _ (reply-smp w.told (payload w.held n))
    go false false false = asks_none w
