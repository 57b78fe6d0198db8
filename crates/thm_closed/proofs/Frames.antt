-- A frame that is read: it counts as the answer that is awaited, or it is none, and what is awaited stays.
use Prim.Native.Nat.{ℕ, ◌+◌, ◌-◌}
use mathlib.Core.Path.{◌≡◌, refl, sym, ap, ◌∙◌, subst}
use mathlib.Core.Bool.{Bool, true, false, not, ◌&&◌, ◌||◌, false≢true}
use mathlib.Core.List.{List, [], ◌∷◌}
use native.Mathlib.Omega.{arith}
use lib.ListN.{get_or}
use lib.Dec.{eqb, leb}
use borrow.Author.Tests.{eqb-true}
use Rattle.bytes_base.specs.Choice.{pick, among}
use Rattle.bytes_base.specs.Bytes.{le_at}
use Rattle.bytes_base.proofs.TestLaws.{both}
use Rattle.time.specs.declared.Micros.{Micros}
use Rattle.l2cap.specs.Numbers.{cid_att, cid_signaling, cid_smp}
use Rattle.att_pdu.specs.Numbers.{op_error_rsp, op_exchange_mtu_req, op_find_information_req, op_read_by_type_req, op_read_req, op_read_by_group_type_req, op_write_req, op_handle_value_ntf, op_handle_value_ind, err_invalid_handle, err_request_not_supported, err_attribute_not_found}
use Rattle.state.specs.declared.Step.{Step}
use Rattle.state.specs.declared.Step.TheVariants.{Scan, Connect, ExchangeMtu, DiscoverServices, DiscoverCharacteristics, Subscribe, Write, Read, WaitNotification, Wait, Disconnect, Capture, CaptureSecrets}
use Rattle.state_rules.specs.Fit.{awaits, is_request}
use Rattle.state_rules.specs.Steps.{att_step}
use Rattle.script_rules.specs.World.{Held, World, on_held, on_told}
use Rattle.script_rules.specs.Send.{send}
use Rattle.script_rules.specs.declared.Awaited.{Awaited}
use Rattle.std.specs.Prelude.{Option, Some, None}
use Rattle.script_rules.specs.Wait.{awaited, check_for, check_wait}
use Rattle.link_rules.specs.Payload.{payload}
use Rattle.link_rules.specs.Replies.{on_signaling, on_smp, refuse, exchange, keep_one, confirmed, notice}
use Rattle.link_rules.specs.Responses.{become, counts, unasked, taken, on_response}
use Rattle.link_rules.specs.Att.{searches, accesses, silent, other_request, by_opcode, on_att}
use Rattle.link_rules.specs.Channel.{on_channel}
use Rattle.thm_requests.proofs.Asks.{itself, Reply, mute, Asks, calm, none, asks, same-wait}
use Rattle.thm_requests.proofs.Starts.{asks-check}
use Rattle.thm_requests.proofs.Channels.{reply-refuse, reply-signaling, reply-smp, reply-confirmed, reply-exchange}

-- ---- an answer that counts

-- the opcodes of the responses to our requests, and of an error
data IsResponse (op : ℕ) : Type 0 where
  to_none : op ≡ 0x01 → IsResponse op
  to-mtu : op ≡ 0x03 → IsResponse op
  to-information : op ≡ 0x05 → IsResponse op
  to_type : op ≡ 0x09 → IsResponse op
  to_read : op ≡ 0x0B → IsResponse op
  to-group : op ≡ 0x11 → IsResponse op
  to_write : op ≡ 0x13 → IsResponse op

is-response : (pending op : ℕ) → is_request pending ≡ true → op ≡ pending + 1 → IsResponse op
is-response pending op r e =
    go (eqb pending op_exchange_mtu_req) refl (eqb pending op_find_information_req) refl (eqb pending op_read_by_type_req) refl (eqb pending op_read_req) refl
    (eqb pending op_read_by_group_type_req) refl
    (eqb pending op_write_req) refl r
  where
    next : (k : ℕ) → eqb pending k ≡ true → op ≡ k + 1
    next k p = e ∙ ap (λ (n : ℕ). n + 1) (eqb-true pending k p)

    go : (a : Bool) → eqb pending op_exchange_mtu_req ≡ a → (b : Bool) → eqb pending op_find_information_req ≡ b → (c : Bool) → eqb pending op_read_by_type_req ≡ c
        → (d : Bool) → eqb pending op_read_req ≡ d
        → (f : Bool) → eqb pending op_read_by_group_type_req ≡ f → (g : Bool) → eqb pending op_write_req ≡ g → (a || b || c || d || f || g) ≡ true → IsResponse op
    go true p b q c s d t f u g v z = to-mtu (next op_exchange_mtu_req p)
    go false p true q c s d t f u g v z = to-information (next op_find_information_req q)
    go false p false q true s d t f u g v z = to_type (next op_read_by_type_req s)
    go false p false q false s true t f u g v z = to_read (next op_read_req t)
    go false p false q false s false t true u g v z = to-group (next op_read_by_group_type_req u)
    go false p false q false s false t false u true v z = to_write (next op_write_req v)
    go false p false q false s false t false u false v z = absurd (false≢true z)

counted-response : (pending : ℕ) (p : List ℕ) → is_request pending ≡ true → counts pending p ≡ true → IsResponse (get_or p 0 0)
counted-response pending p r c = go (eqb (get_or p 0 0) op_error_rsp) refl (both (not (eqb pending 0)) _ c).1
  where
    go : (x : Bool) → eqb (get_or p 0 0) op_error_rsp ≡ x → pick x (eqb (get_or p 1 0) pending) (eqb (get_or p 0 0) (pending + 1)) ≡ true → IsResponse (get_or p 0 0)
    go true e f = to_none (eqb-true (get_or p 0 0) op_error_rsp e)
    go false e f = is-response pending (get_or p 0 0) r (eqb-true (get_or p 0 0) (pending + 1) f)

module _ (w : World) (at : Micros) (n : ℕ) where
  abbrev p : List ℕ
  p = payload w.held n

  abbrev pending : ℕ
  pending = w.held.state.bearer.link.pending

  by-response : (op handle : ℕ) → IsResponse op → by_opcode w at n op handle ≡ on_response w at n
  unfolding by_opcode among
  by-response op handle (to_none e) = ap (λ (k : ℕ). by_opcode w at n k handle) e
  by-response op handle (to-mtu e) = ap (λ (k : ℕ). by_opcode w at n k handle) e
  by-response op handle (to-information e) = ap (λ (k : ℕ). by_opcode w at n k handle) e
  by-response op handle (to_type e) = ap (λ (k : ℕ). by_opcode w at n k handle) e
  by-response op handle (to_read e) = ap (λ (k : ℕ). by_opcode w at n k handle) e
  by-response op handle (to-group e) = ap (λ (k : ℕ). by_opcode w at n k handle) e
  by-response op handle (to_write e) = ap (λ (k : ℕ). by_opcode w at n k handle) e

  -- no bytes, no answer
  empty-not : n ≡ 0 → counts pending p ≡ true → ⊥
  empty-not e c =
      let f = (both (not (eqb pending 0)) _ (sym (ap (λ (k : ℕ). counts pending (payload w.held k)) e) ∙ c)).1 in
      let z : 0 ≡ pending + 1 = eqb-true 0 (pending + 1) f in
      omega (arith, z)

  att-response : is_request pending ≡ true → counts pending p ≡ true → on_att w at n ≡ on_response w at n
  unfolding on_att
  att-response r c = go (eqb n 0) refl
    where
      go : (b : Bool) → eqb n 0 ≡ b → pick b w (by_opcode w at n (get_or p 0 0) (le_at 2 p 1)) ≡ on_response w at n
      go true e = absurd (empty-not (eqb-true n 0 e) c)
      go false e = by-response (get_or p 0 0) (le_at 2 p 1) (counted-response pending p r c)

  -- the answer that counts is the running step's
  pub counted_is : (channel : ℕ) → channel ≡ cid_att → is_request pending ≡ true → counts pending p ≡ true
      → on_channel w at channel n ≡ taken (become w (unasked w.held.state)) at n
  unfolding on_channel on_response
  counted_is channel e r c =
      ap (λ (k : ℕ). on_channel w at k n) e
      ∙ att-response r c
      ∙ ap (λ (b : Bool). pick b (taken (become w (unasked w.held.state)) at n) w) c

-- ---- anything else

-- what is awaited stays, or nothing is, before and after; no request and no command goes out
pub data Mild (w v : World) : Type 0 where
  unmoved : v.held.state.bearer.link.pending ≡ w.held.state.bearer.link.pending → v.held.state.bearer.present ≡ w.held.state.bearer.present
      → v.held.state.running.active ≡ w.held.state.running.active → Reply w.told v.told → Mild w v
  rested : awaits w.held.state.bearer ≡ false → awaits v.held.state.bearer ≡ false → Reply w.told v.told → Mild w v

pub mild-reply : {w v : World} → Mild w v → Reply w.told v.told
mild-reply (unmoved a b c r) = r
mild-reply (rested a b r) = r

-- a step that sends a request waits for no notification
att-unwaited : (s : Step) → att_step s ≡ true → awaited s ≡ None
att-unwaited (Scan ms) e = refl
att-unwaited (Connect target interval latency timeout ms) e = refl
att-unwaited (ExchangeMtu mtu) e = refl
att-unwaited DiscoverServices e = refl
att-unwaited (DiscoverCharacteristics service) e = refl
att-unwaited (Subscribe characteristic indicate) e = refl
att-unwaited (Write characteristic response) e = refl
att-unwaited (Read characteristic) e = refl
att-unwaited (WaitNotification characteristic ms age) e = absurd (false≢true e)
att-unwaited (Wait ms) e = refl
att-unwaited Disconnect e = refl
att-unwaited (Capture enabled) e = refl
att-unwaited (CaptureSecrets secrets) e = refl

unchecked : (h : Held) (at : Micros) → att_step h.state.running.step ≡ true → check_wait h at ≡ h
unfolding check_wait check_for
unchecked h at e =
    ap (λ (x : Option Awaited). pick h.state.running.active (check_for h at x) h) (att-unwaited h.state.running.step e)
    ∙ go h.state.running.active
  where
    go : (b : Bool) → pick b h h ≡ h
    go true = refl
    go false = refl

module _ (w : World) (at : Micros) (n : ℕ) (att : awaits w.held.state.bearer ≡ true → att_step w.held.state.running.step ≡ true) where
  mild-notice : (indication : Bool) → Mild w (notice w at n indication)
  unfolding notice keep_one send
  mild-notice indication = go (awaits w.held.state.bearer) refl
    where
      g : Held
      g = keep_one w.held at (le_at 2 (payload w.held n) 1) (n - 3) indication

      reply : Reply w.told (confirmed w.told indication)
      reply = reply-confirmed w.told indication

      still-none : awaits w.held.state.bearer ≡ false → Asks (on_held w g) (on_held w (check_wait g at)) → awaits (check_wait g at).state.bearer ≡ false
      still-none e (calm c) =
          let v = check_wait g at in
          same-wait v.state.bearer.link.pending g.state.bearer.link.pending v.state.bearer.present g.state.bearer.present
          c.pending c.present
          ∙ e
      still-none e (none f v) = f
      still-none e (asks b) = absurd (omega (arith, b.told.frames))

      go : (b : Bool) → awaits w.held.state.bearer ≡ b → Mild w (record { held = check_wait g at; told = confirmed w.told indication })
      go true e =
          subst (λ (h : Held). Mild w (record { held = h; told = confirmed w.told indication })) (sym (unchecked g at (att e)))
          (unmoved refl refl refl reply)
      go false e = rested e (still-none e (asks-check (on_held w g) at)) reply

  mild-opcode : (op handle : ℕ) → counts w.held.state.bearer.link.pending (payload w.held n) ≡ false → Mild w (by_opcode w at n op handle)
  unfolding by_opcode on_response exchange
  mild-opcode op handle u =
      go (among op (op_handle_value_ntf ∷ op_handle_value_ind ∷ []) && leb 3 n) (eqb op op_exchange_mtu_req) (among op searches) (among op accesses) (among op silent)
      (other_request op)
    where
      go : (a b c d e f : Bool)
          → Mild w
          (pick a (notice w at n (eqb op op_handle_value_ind))
          (pick b (exchange w handle)
          (pick c (on_told w (refuse w.told op handle err_attribute_not_found))
          (pick d (on_told w (refuse w.told op handle err_invalid_handle))
          (pick e w
          (pick f (on_told w (refuse w.told op 0 err_request_not_supported)) (on_response w at n)))))))
      go true b c d e f = mild-notice (eqb op op_handle_value_ind)
      go false true c d e f = unmoved refl refl refl (reply-exchange w handle)
      go false false true d e f = unmoved refl refl refl (reply-refuse w.told op handle err_attribute_not_found)
      go false false false true e f = unmoved refl refl refl (reply-refuse w.told op handle err_invalid_handle)
      go false false false false true f = unmoved refl refl refl (mute (itself w.told))
      go false false false false false true = unmoved refl refl refl (reply-refuse w.told op 0 err_request_not_supported)
      go false false false false false false =
          subst (λ (b : Bool). Mild w (pick b (taken (become w (unasked w.held.state)) at n) w)) (sym u) (unmoved refl refl refl (mute (itself w.told)))

  mild-att : counts w.held.state.bearer.link.pending (payload w.held n) ≡ false → Mild w (on_att w at n)
  unfolding on_att
  mild-att u = go (eqb n 0)
    where
      go : (b : Bool) → Mild w (pick b w (by_opcode w at n (get_or (payload w.held n) 0 0) (le_at 2 (payload w.held n) 1)))
      go true = unmoved refl refl refl (mute (itself w.told))
      go false = mild-opcode (get_or (payload w.held n) 0 0) (le_at 2 (payload w.held n) 1) u

  pub mild-channel : (channel : ℕ) → (eqb channel cid_att ≡ true → counts w.held.state.bearer.link.pending (payload w.held n) ≡ false)
      → Mild w (on_channel w at channel n)
  unfolding on_channel
  mild-channel channel u = go (eqb channel cid_att) refl (eqb channel cid_signaling) (eqb channel cid_smp)
    where
      go : (a : Bool) → eqb channel cid_att ≡ a → (b c : Bool)
          → Mild w (pick a (on_att w at n) (pick b (on_told w (on_signaling w.told (payload w.held n)))
          (pick c (on_told w (on_smp w.told (payload w.held n))) w)))
      go true e b c = mild-att (u e)
      go false e true c = unmoved refl refl refl (reply-signaling w.told (payload w.held n))
      go false e false true = unmoved refl refl refl (reply-smp w.told (payload w.held n))
      go false e false false = unmoved refl refl refl (mute (itself w.told))
