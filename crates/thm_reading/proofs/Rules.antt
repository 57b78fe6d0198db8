-- A response, a payload of each channel, and a fragment, are blind to dead places.
use Prim.Native.Nat.{ℕ, ◌+◌, ◌-◌}
use mathlib.Core.Path.{◌≡◌, ◌∙◌}
use mathlib.Core.Bool.{Bool, ◌&&◌}
use mathlib.Core.List.{List, [], ◌∷◌}
use lib.ListN.{get_or}
use lib.Dec.{eqb, leb}
use Rattle.bytes_base.specs.Choice.{pick, among}
use Rattle.bytes_base.specs.Bytes.{le_at}
use Rattle.time.specs.declared.Micros.{Micros}
use Rattle.l2cap.specs.Numbers.{cid_att, cid_signaling, cid_smp}
use Rattle.att_pdu.specs.Numbers.{op_error_rsp, op_read_rsp, op_write_rsp, op_exchange_mtu_req, op_handle_value_ntf, op_handle_value_ind, err_invalid_handle, err_request_not_supported, err_attribute_not_found}
use Rattle.state.specs.declared.Running.{Running}
use Rattle.state.specs.declared.StepStatus.TheVariants.{Ok, AttError}
use Rattle.script_rules.specs.World.{Held, World, on_held, on_told, on_state}
use Rattle.link_questions.specs.declared.Asked.{Asked}
use Rattle.link_questions.specs.declared.Asked.TheVariants as asked-variants
use Rattle.link_questions.specs.Questions.{asked_by}
use Rattle.link_rules.specs.Answers.{counts, smaller_mtu}
use Rattle.link_rules.specs.Moves.{over, value_read, become, service_of, unasked}
use Rattle.link_rules.specs.Characteristics.{characteristics_heard, characteristics_done, descriptors_heard, range_done}
use Rattle.link_rules.specs.Payload.{payload_at, payload, with_mtu}
use Rattle.link_rules.specs.Replies.{refuse, exchange, notice, on_signaling, on_smp}
use Rattle.link_rules.specs.Errors.{absent, failed}
use Rattle.link_rules.specs.Responses.{present, taken, on_response}
use Rattle.link_rules.specs.Att.{searches, accesses, silent, other_request, by_opcode, on_att}
use Rattle.link_rules.specs.Channel.{on_channel}
use Rattle.link_rules.specs.Link.{frame_read, gather, hear}
use Rattle.link_rules.specs.Fragment.{with_held, dropped, gathered, frame_length, frame_channel, whole}
use Rattle.thm_reading.proofs.Blind.{cut_world, world-twice, pick-both}
use Rattle.thm_reading.proofs.Turns.{finish-world}
use Rattle.thm_reading.proofs.Starts.{by-service}
use Rattle.thm_reading.proofs.Script.{then-advance}
use Rattle.thm_reading.proofs.Replies.{exchange-blind, notice-blind}
use Rattle.thm_reading.proofs.Walks.{over-blind, services-done-blind, services-heard-blind, characteristics-heard-blind, characteristics-done-blind, descriptors-heard-blind, range-done-blind}

module _ (at : Micros) where
  -- ---- an error of the peer

  absent-blind : (w : World) (a : Asked) → cut_world (absent w at a) ≡ cut_world (absent (cut_world w) at a)
  unfolding absent
  absent-blind w (asked-variants.Mtu mtu) = over-blind at w (AttError err_attribute_not_found)
  absent-blind w (asked-variants.Services g) = services-done-blind at w g
  absent-blind w (asked-variants.Characteristics u) =
      characteristics-done-blind at w (service_of w u) ∙ by-service (λ x. cut_world (characteristics_done (cut_world w) at x)) w.held.state u
  absent-blind w (asked-variants.Descriptors u) =
      range-done-blind at w (service_of w u) ∙ by-service (λ x. cut_world (range_done (cut_world w) at x)) w.held.state u
  absent-blind w asked-variants.Written = over-blind at w (AttError err_attribute_not_found)
  absent-blind w asked-variants.Value = over-blind at w (AttError err_attribute_not_found)
  absent-blind w asked-variants.Nothing = over-blind at w (AttError err_attribute_not_found)

  failed-blind : (w : World) (code : ℕ) (a : Asked) → cut_world (failed w at code a) ≡ cut_world (failed (cut_world w) at code a)
  unfolding failed
  failed-blind w code a =
      pick-both cut_world (eqb code err_attribute_not_found)
      (absent w at a) (over w at (AttError code))
      (absent (cut_world w) at a) (over (cut_world w) at (AttError code))
      (absent-blind w a) (over-blind at w (AttError code))

  -- ---- an answer

  present-blind : (w : World) (n : ℕ) (a : Asked) → cut_world (present w at n a) ≡ cut_world (present (cut_world w) at n a)
  unfolding present
  present-blind w n (asked-variants.Mtu mtu) =
      over-blind at (become w (with_mtu w.held.state (smaller_mtu (le_at 2 (payload w.held n) 1) mtu))) Ok
  present-blind w n (asked-variants.Services g) = services-heard-blind at w g n (get_or (payload w.held n) 1 0)
  present-blind w n (asked-variants.Characteristics u) =
      let size : ℕ = get_or (payload w.held n) 1 0 in
      characteristics-heard-blind at w n size (service_of w u)
      ∙ by-service (λ x. cut_world (characteristics_heard (cut_world w) at n size x)) w.held.state u
  present-blind w n (asked-variants.Descriptors u) =
      let format : ℕ = get_or (payload w.held n) 1 0 in
      descriptors-heard-blind at w n format (service_of w u)
      ∙ by-service (λ x. cut_world (descriptors_heard (cut_world w) at n format x)) w.held.state u
  present-blind w n asked-variants.Written =
      pick-both cut_world (eqb (get_or (payload w.held n) 0 0) op_write_rsp)
      (over w at Ok) w (over (cut_world w) at Ok) (cut_world w) (over-blind at w Ok) (world-twice w)
  present-blind w n asked-variants.Value =
      pick-both cut_world (eqb (get_or (payload w.held n) 0 0) op_read_rsp)
      (value_read w at n) w (value_read (cut_world w) at n) (cut_world w) (finish-world w at Ok (payload_at + 1) (n - 1) 0) (world-twice w)
  present-blind w n asked-variants.Nothing = world-twice w

  taken-blind : (w : World) (n : ℕ) → cut_world (taken w at n) ≡ cut_world (taken (cut_world w) at n)
  unfolding taken
  taken-blind w n =
      let p : List ℕ = payload w.held n in
      let r : Running = w.held.state.running in
      let a : Asked = asked_by r.step r.phase in
      let hears : World → World = λ v. pick (eqb (get_or p 0 0) op_error_rsp) (failed v at (get_or p 4 0) a) (present v at n a) in
      pick-both cut_world r.active (hears w) w (hears (cut_world w)) (cut_world w)
      (pick-both cut_world (eqb (get_or p 0 0) op_error_rsp)
      (failed w at (get_or p 4 0) a) (present w at n a)
      (failed (cut_world w) at (get_or p 4 0) a) (present (cut_world w) at n a)
      (failed-blind w (get_or p 4 0) a) (present-blind w n a))
      (world-twice w)

  response-blind : (w : World) (n : ℕ) → cut_world (on_response w at n) ≡ cut_world (on_response (cut_world w) at n)
  unfolding on_response
  response-blind w n =
      let calm : World → World = λ v. become v (unasked v.held.state) in
      pick-both cut_world (counts w.held.state.bearer.link.pending (payload w.held n))
      (taken (calm w) at n) w (taken (calm (cut_world w)) at n) (cut_world w)
      (taken-blind (calm w) n) (world-twice w)

  -- ---- a payload

  refuse-blind : (w : World) (op handle code : ℕ)
      → cut_world (on_told w (refuse w.told op handle code)) ≡ cut_world (on_told (cut_world w) (refuse w.told op handle code))
  refuse-blind w op handle code = world-twice (on_told w (refuse w.told op handle code))

  opcode-blind : (w : World) (n op handle : ℕ) → cut_world (by_opcode w at n op handle) ≡ cut_world (by_opcode (cut_world w) at n op handle)
  unfolding by_opcode
  opcode-blind w n op handle =
      let told : World → ℕ → ℕ → World = λ v who code. on_told v (refuse v.told op who code) in
      let others : World → World = λ v. pick (other_request op) (told v 0 err_request_not_supported) (on_response v at n) in
      let quiet : World → World = λ v. pick (among op silent) v (others v) in
      let reads : World → World = λ v. pick (among op accesses) (told v handle err_invalid_handle) (quiet v) in
      let finds : World → World = λ v. pick (among op searches) (told v handle err_attribute_not_found) (reads v) in
      let asks : World → World = λ v. pick (eqb op op_exchange_mtu_req) (exchange v handle) (finds v) in
      let v : World = cut_world w in
      pick-both cut_world (among op (op_handle_value_ntf ∷ op_handle_value_ind ∷ []) && leb 3 n)
      (notice w at n (eqb op op_handle_value_ind)) (asks w) (notice v at n (eqb op op_handle_value_ind)) (asks v)
      (notice-blind at w n (eqb op op_handle_value_ind))
      (pick-both cut_world (eqb op op_exchange_mtu_req) (exchange w handle) (finds w) (exchange v handle) (finds v)
      (exchange-blind w handle)
      (pick-both cut_world (among op searches) (told w handle err_attribute_not_found) (reads w) (told v handle err_attribute_not_found) (reads v)
      (refuse-blind w op handle err_attribute_not_found)
      (pick-both cut_world (among op accesses) (told w handle err_invalid_handle) (quiet w) (told v handle err_invalid_handle) (quiet v)
      (refuse-blind w op handle err_invalid_handle)
      (pick-both cut_world (among op silent) w (others w) v (others v)
      (world-twice w)
      (pick-both cut_world (other_request op) (told w 0 err_request_not_supported) (on_response w at n) (told v 0 err_request_not_supported) (on_response v at n)
      (refuse-blind w op 0 err_request_not_supported)
      (response-blind w n))))))

  att-blind : (w : World) (n : ℕ) → cut_world (on_att w at n) ≡ cut_world (on_att (cut_world w) at n)
  unfolding on_att
  att-blind w n =
      let p : List ℕ = payload w.held n in
      pick-both cut_world (eqb n 0)
      w (by_opcode w at n (get_or p 0 0) (le_at 2 p 1))
      (cut_world w) (by_opcode (cut_world w) at n (get_or p 0 0) (le_at 2 p 1))
      (world-twice w) (opcode-blind w n (get_or p 0 0) (le_at 2 p 1))

  channel-blind : (w : World) (channel n : ℕ) → cut_world (on_channel w at channel n) ≡ cut_world (on_channel (cut_world w) at channel n)
  unfolding on_channel
  channel-blind w channel n =
      let signals : World → World = λ v. on_told v (on_signaling v.told (payload v.held n)) in
      let pairs : World → World = λ v. on_told v (on_smp v.told (payload v.held n)) in
      let others : World → World = λ v. pick (eqb channel cid_smp) (pairs v) v in
      let v : World = cut_world w in
      pick-both cut_world (eqb channel cid_att)
      (on_att w at n) (pick (eqb channel cid_signaling) (signals w) (others w))
      (on_att v at n) (pick (eqb channel cid_signaling) (signals v) (others v))
      (att-blind w n)
      (pick-both cut_world (eqb channel cid_signaling) (signals w) (others w) (signals v) (others v)
      (world-twice (signals w))
      (pick-both cut_world (eqb channel cid_smp) (pairs w) w (pairs v) v (world-twice (pairs w)) (world-twice w)))

  -- ---- a fragment

  frame-blind : (w : World) → cut_world (frame_read w at) ≡ cut_world (frame_read (cut_world w) at)
  unfolding frame_read
  frame-blind w =
      let h : Held = w.held in
      let empties : World → World = λ v. on_held v (on_state v.held (with_held v.held.state 0)) in
      then-advance at
      (on_channel (empties w) at (frame_channel h) (frame_length h))
      (on_channel (empties (cut_world w)) at (frame_channel h) (frame_length h))
      (channel-blind (empties w) (frame_channel h) (frame_length h))

  gather-blind : (w : World) (start : Bool) (fragment : List ℕ) → cut_world (gather w at start fragment) ≡ cut_world (gather (cut_world w) at start fragment)
  unfolding gather gathered
  gather-blind w start fragment =
      let v : World = on_held w (gathered w.held start fragment) in
      pick-both cut_world (whole v.held) (frame_read v at) v (frame_read (cut_world v) at) (cut_world v) (frame-blind v) (world-twice v)

  pub hear-blind : (w : World) (start : Bool) (fragment : List ℕ) → cut_world (hear w at start fragment) ≡ cut_world (hear (cut_world w) at start fragment)
  unfolding hear
  hear-blind w start fragment =
      pick-both cut_world (dropped w.held.state.bearer start)
      w (gather w at start fragment) (cut_world w) (gather (cut_world w) at start fragment)
      (world-twice w) (gather-blind w start fragment)
