-- What a frame that is read sends: nothing, or one frame.
use Rattle.std.specs.Prelude.{Option, Some, None}
use Prim.Native.Nat.{ℕ, ◌+◌, ◌≤◌}
use mathlib.Core.Path.{◌≡◌, refl, ◌∙◌}
use mathlib.Core.Bool.{Bool, true, false, ◌&&◌}
use mathlib.Core.List.{List, [], ◌∷◌}
use native.Mathlib.Omega.{arith}
use lib.ListN.{length, take, get_or, length-take}
use lib.Dec.{eqb, ltb, leb}
use Rattle.bytes_base.specs.Choice.{pick, among}
use Rattle.bytes_base.specs.Bytes.{le_at}
use Rattle.time.specs.declared.Micros.{Micros}
use Rattle.l2cap.specs.Numbers.{cid_att, cid_signaling, cid_smp}
use Rattle.att_pdu.specs.Numbers.{op_error_rsp, op_exchange_mtu_req, op_handle_value_ntf, op_handle_value_ind, op_read_rsp, op_write_rsp, err_invalid_handle, err_request_not_supported, err_attribute_not_found}
use Rattle.att_pdu.specs.Pdu.{confirmation}
use Rattle.att_pdu.proofs.PduLaws.{length-att_error, length-exchange_mtu_rsp}
use Rattle.l2cap_signaling.specs.Answer.{signaling_answer, smp_answer}
use Rattle.l2cap_signaling.proofs.AnswerLaws.{Sized, signaling-sized, smp-sized}
use Rattle.l2cap_params.specs.declared.Parameters.{Parameters}
use Rattle.std.specs.Prelude.{Option, Some, None}
use Rattle.gatt_services.specs.declared.Service.{Service}
use Rattle.att_pdu.specs.declared.Found.{Found}
use Rattle.gatt_descriptors.specs.declared.Named.{Named}
use Rattle.state.specs.Central.{with_services, with_characteristics}
use Rattle.state_rules.specs.Steps.{most_mtu}
use Rattle.script_rules.specs.World.{Told, World}
use Rattle.script_rules.specs.Send.{send}
use Rattle.script_rules.specs.Discovery.{last_handle}
use Rattle.link_rules.specs.Payload.{payload}
use Rattle.link_rules.specs.Replies.{reply, asks_update, on_signaling, on_smp, refuse, exchange, confirmed, notice}
use Rattle.link_questions.specs.declared.Goal.{Goal}
use Rattle.link_questions.specs.declared.Goal.TheVariants as goal
use Rattle.link_questions.specs.declared.Asked.{Asked}
use Rattle.link_questions.specs.declared.Asked.TheVariants as asked-variants
use Rattle.link_rules.specs.Responses.{asked_by, become, service_of, walk_into, services_done, services_found, services_heard, characteristics_found, characteristics_heard, after_range, go_on, width_of, descriptors_found, descriptors_heard, range_done, characteristics_done, absent, present, failed, counts, unasked, taken, on_response}
use Rattle.link_rules.specs.Att.{searches, accesses, silent, other_request, by_opcode, on_att}
use Rattle.link_rules.specs.Channel.{on_channel}
use Rattle.thm_wire.proofs.Sends.{Quiet, Sends, quiet, one, same, nothing, either, Mtu, sends-att}
use Rattle.thm_wire.proofs.Starts.{sends-services, sends-descriptors, sends-characteristics}
use Rattle.gatt_services.specs.declared.Services.{Services}
use Rattle.gatt_characteristics.specs.declared.Characteristics.{Characteristics}

-- ---- responses

module _ (m : ℕ) (k : Mtu m) (at : Micros) where
  sends-into : (w : World) (x : Option Service) → Sends m w.told (walk_into w at x).told
  unfolding walk_into
  sends-into w None = nothing m w.told
  sends-into w (Some svc) = sends-characteristics m k w at svc svc.start

  sends-services-done : (w : World) (g : Goal) → Sends m w.told (services_done w at g).told
  unfolding services_done
  sends-services-done w goal.All = nothing m w.told
  sends-services-done w (goal.Of u) = sends-into w (service_of w u)

  sends-go-on : (w : World) (svc : Service) (from : ℕ) → Sends m w.told (go_on w at svc from).told
  unfolding go_on
  sends-go-on w svc from = either (leb from svc.end) _ _ (sends-descriptors m k w at svc from) (nothing m w.told)

  sends-range-done : (w : World) (x : Option Service) → Sends m w.told (range_done w at x).told
  unfolding range_done
  sends-range-done w None = nothing m w.told
  sends-range-done w (Some svc) = sends-go-on w svc (after_range w svc)

  sends-characteristics-done : (w : World) (x : Option Service) → Sends m w.told (characteristics_done w at x).told
  unfolding characteristics_done
  sends-characteristics-done w None = nothing m w.told
  sends-characteristics-done w (Some svc) = sends-descriptors m k w at svc svc.start

  sends-absent : (w : World) (a : Asked) → Sends m w.told (absent w at a).told
  unfolding absent
  sends-absent w (asked-variants.Mtu mtu) = nothing m w.told
  sends-absent w (asked-variants.Services g) = sends-services-done w g
  sends-absent w (asked-variants.Characteristics u) = sends-characteristics-done w (service_of w u)
  sends-absent w (asked-variants.Descriptors u) = sends-range-done w (service_of w u)
  sends-absent w asked-variants.Written = nothing m w.told
  sends-absent w asked-variants.Value = nothing m w.told
  sends-absent w asked-variants.Nothing = nothing m w.told

  sends-failed : (w : World) (code : ℕ) (a : Asked) → Sends m w.told (failed w at code a).told
  unfolding failed
  sends-failed w code a = either (eqb code err_attribute_not_found) _ _ (sends-absent w a) (nothing m w.told)

  sends-services-found : (w : World) (g : Goal) (f : Found Services) → Sends m w.told (services_found w at g f).told
  unfolding services_found
  sends-services-found w g f =
      let v : World = become w (with_services w.held.state f.table) in
      either f.full _ _ (nothing m w.told) (either (eqb f.last last_handle) _ _ (sends-services-done v g) (sends-services m k v at (f.last + 1)))

  sends-services-heard : (w : World) (g : Goal) (n size : ℕ) → Sends m w.told (services_heard w at g n size).told
  unfolding services_heard
  sends-services-heard w g n size = either (ltb size 6) _ _ (sends-services-done w g) (sends-services-found w g _)

  sends-characteristics-found : (w : World) (svc : Service) (f : Found Characteristics) → Sends m w.told (characteristics_found w at svc f).told
  unfolding characteristics_found
  sends-characteristics-found w svc f =
      let v : World = become w (with_characteristics w.held.state f.table) in
      either f.full _ _
      (nothing m w.told)
      (either (leb svc.end f.last) _ _ (sends-descriptors m k v at svc svc.start) (sends-characteristics m k v at svc (f.last + 1)))

  sends-characteristics-heard : (w : World) (n size : ℕ) (x : Option Service) → Sends m w.told (characteristics_heard w at n size x).told
  unfolding characteristics_heard
  sends-characteristics-heard w n size None = nothing m w.told
  sends-characteristics-heard w n size (Some svc) = either (ltb size 7) _ _ (sends-descriptors m k w at svc svc.start) (sends-characteristics-found w svc _)

  sends-descriptors-found : (w : World) (svc : Service) (x : Named) → Sends m w.told (descriptors_found w at svc x).told
  sends-descriptors-found w svc x = sends-go-on (become w (with_characteristics w.held.state x.table)) svc x.«next»

  sends-descriptors-heard : (w : World) (n format : ℕ) (x : Option Service) → Sends m w.told (descriptors_heard w at n format x).told
  unfolding descriptors_heard
  sends-descriptors-heard w n format None = nothing m w.told
  sends-descriptors-heard w n format (Some svc) = either (eqb (width_of format) 0) _ _ (sends-go-on w svc (after_range w svc)) (sends-descriptors-found w svc _)

  sends-present : (w : World) (n : ℕ) (a : Asked) → Sends m w.told (present w at n a).told
  unfolding present
  sends-present w n (asked-variants.Mtu mtu) = nothing m w.told
  sends-present w n (asked-variants.Services g) = sends-services-heard w g n _
  sends-present w n (asked-variants.Characteristics u) = sends-characteristics-heard w n _ _
  sends-present w n (asked-variants.Descriptors u) = sends-descriptors-heard w n _ _
  sends-present w n asked-variants.Written = either (eqb (get_or (payload w.held n) 0 0) op_write_rsp) _ _ (nothing m w.told) (nothing m w.told)
  sends-present w n asked-variants.Value = either (eqb (get_or (payload w.held n) 0 0) op_read_rsp) _ _ (nothing m w.told) (nothing m w.told)
  sends-present w n asked-variants.Nothing = nothing m w.told

  sends-taken : (w : World) (n : ℕ) → Sends m w.told (taken w at n).told
  unfolding taken
  sends-taken w n =
      let a : Asked = asked_by w.held.state.running.step w.held.state.running.phase in
      either w.held.state.running.active _ _
      (either (eqb (get_or (payload w.held n) 0 0) op_error_rsp) _ _ (sends-failed w _ a) (sends-present w n a))
      (nothing m w.told)

  sends-response : (w : World) (n : ℕ) → Sends m w.told (on_response w at n).told
  unfolding on_response
  sends-response w n =
      either (counts w.held.state.bearer.link.pending (payload w.held n)) _ _ (sends-taken (become w (unasked w.held.state)) n) (nothing m w.told)

-- ---- what is no response

-- bytes on another channel than ATT's
sends-reply : (m : ℕ) (t : Told) (channel size : ℕ) (answer : Option (List ℕ)) → channel ≤ 65535 → (channel ≡ cid_att → ⊥) → Sized size answer → size ≤ 6 → Sends m t (reply t channel answer)
unfolding reply
sends-reply m t channel size None known other sized short = nothing m t
sends-reply m t channel size (Some answer) known other sized short =
    one
    (record {
      channel = channel;
      payload = answer;
      known = known;
      short = omega (arith, short, sized);
      within = λ e. absurd (other e);
      sent = same (send t channel answer);
    })

-- a link request is no frame
asks-quiet : (t : Told) (u : Option Parameters) → Quiet t (asks_update t u)
asks-quiet t None = same t
asks-quiet t (Some p) = record { frames = refl; bytes = refl; out = refl }

quiet_then : {t u v : Told} → Quiet t u → Quiet u v → Quiet t v
quiet_then p q = record { frames = q.frames ∙ p.frames; bytes = q.bytes ∙ p.bytes; out = q.out ∙ p.out }

then-quiet : {m : ℕ} {t u v : Told} → Sends m t u → Quiet u v → Sends m t v
then-quiet (quiet p) q = quiet (quiet_then p q)
then-quiet (one p) q =
    one (record { channel = p.channel; payload = p.payload; known = p.known; short = p.short; within = p.within; sent = quiet_then p.sent q })

sends-signaling : (m : ℕ) (t : Told) (pdu : List ℕ) → Sends m t (on_signaling t pdu)
unfolding on_signaling
sends-signaling m t pdu =
    let a = signaling_answer pdu in
    then-quiet (sends-reply m t cid_signaling 6 a.reply (omega arith) (λ e. omega (arith, e)) (signaling-sized pdu) (omega arith))
    (asks-quiet (reply t cid_signaling a.reply) a.update)

sends-smp : (m : ℕ) (t : Told) (pdu : List ℕ) → Sends m t (on_smp t pdu)
unfolding on_smp
sends-smp m t pdu =
    sends-reply m t cid_smp 2 (smp_answer pdu) (omega arith) (λ e. omega (arith, e)) (smp-sized pdu) (omega arith)

module _ (m : ℕ) (k : Mtu m) where
  sends-refuse : (t : Told) (opcode handle code : ℕ) → Sends m t (refuse t opcode handle code)
  unfolding refuse
  sends-refuse t opcode handle code = sends-att m t _ k (omega (arith, k.low, length-att_error opcode handle code))

  -- the answer goes out before the peer's MTU holds
  sends-exchange : (w : World) (theirs : ℕ) → Sends m w.told (exchange w theirs).told
  unfolding exchange
  sends-exchange w theirs = sends-att m w.told _ k (omega (arith, k.low, length-exchange_mtu_rsp most_mtu))

  sends-confirmed : (t : Told) (indication : Bool) → Sends m t (confirmed t indication)
  sends-confirmed t true = sends-att m t confirmation k (omega (arith, k.low))
  sends-confirmed t false = nothing m t

  sends-notice : (w : World) (at : Micros) (n : ℕ) (indication : Bool) → Sends m w.told (notice w at n indication).told
  unfolding notice
  sends-notice w at n indication = sends-confirmed w.told indication

  -- ---- the attribute channel, and all channels

  sends-opcode : (w : World) (at : Micros) (n op handle : ℕ) → Sends m w.told (by_opcode w at n op handle).told
  unfolding by_opcode
  sends-opcode w at n op handle =
      either (among op (op_handle_value_ntf ∷ op_handle_value_ind ∷ []) && leb 3 n) _ _
      (sends-notice w at n (eqb op op_handle_value_ind))
      (either (eqb op op_exchange_mtu_req) _ _
      (sends-exchange w handle)
      (either (among op searches) _ _
      (sends-refuse w.told op handle err_attribute_not_found)
      (either (among op accesses) _ _
      (sends-refuse w.told op handle err_invalid_handle)
      (either (among op silent) _ _
      (nothing m w.told)
      (either (other_request op) _ _
      (sends-refuse w.told op 0 err_request_not_supported)
      (sends-response m k at w n))))))

  sends-payload : (w : World) (at : Micros) (n : ℕ) → Sends m w.told (on_att w at n).told
  unfolding on_att
  sends-payload w at n =
      let p = payload w.held n in
      either (eqb n 0) _ _ (nothing m w.told) (sends-opcode w at n (get_or p 0 0) (le_at 2 p 1))

  pub sends-channel : (w : World) (at : Micros) (channel n : ℕ) → Sends m w.told (on_channel w at channel n).told
  unfolding on_channel
  sends-channel w at channel n =
      let p = payload w.held n in
      either (eqb channel cid_att) _ _
      (sends-payload w at n)
      (either (eqb channel cid_signaling) _ _
      (sends-signaling m w.told p)
      (either (eqb channel cid_smp) _ _ (sends-smp m w.told p) (nothing m w.told)))
