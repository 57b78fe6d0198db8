-- How a Read can end: by the value of a read response, or not well.
use Rattle.std.specs.Prelude.{Option, Some, None}
use Prim.Native.Nat.{ℕ, ◌+◌, ◌-◌, ◌≤◌}
use mathlib.Core.Path.{◌≡◌, refl, sym, ap, ◌∙◌, subst}
use mathlib.Core.Bool.{Bool, true, false, ◌&&◌}
use mathlib.Core.List.{List, [], ◌∷◌}
use native.Mathlib.Omega.{arith}
use lib.ListN.{get_or}
use lib.Dec.{eqb, leb}
use borrow.Author.Tests.{eqb-true}
use Rattle.bytes_base.specs.Choice.{pick, among}
use Rattle.bytes_base.specs.Bytes.{le_at}
use Rattle.state_places.specs.Sizes.{held_at, most_results}
use Rattle.lists.specs.Blocks.{bytes}
use Rattle.time.specs.declared.Micros.{Micros}
use Rattle.uuid_value.specs.declared.Uuid.{Uuid}
use Rattle.l2cap.specs.Numbers.{cid_att, cid_signaling, cid_smp}
use Rattle.att_pdu.specs.Numbers.{op_error_rsp, op_exchange_mtu_req, op_handle_value_ntf, op_handle_value_ind, op_read_rsp, err_invalid_handle, err_request_not_supported, err_attribute_not_found}
use Rattle.state.specs.declared.StepStatus.{StepStatus}
use Rattle.state.specs.declared.StepStatus.TheVariants.{Ok, NotFound, AttError}
use Rattle.script_rules.specs.World.{Held, World, on_held, on_told}
use Rattle.script_rules.specs.Wait.{check_wait}
use Rattle.link_rules.specs.Payload.{payload_at, payload_size, payload}
use Rattle.link_rules.specs.Replies.{on_signaling, on_smp, refuse, exchange, keep_one, notice}
use Rattle.link_questions.specs.declared.Asked.{Asked}
use Rattle.link_questions.specs.declared.Asked.TheVariants as asked-variants
use Rattle.link_rules.specs.Responses.{asked_by, over, become, absent, value_read, present, failed, counts, unasked, taken, on_response}
use Rattle.link_rules.specs.Att.{searches, accesses, silent, other_request, by_opcode, on_att}
use Rattle.link_rules.specs.Channel.{on_channel}
use Rattle.script_rules.specs.Send.{request}
use Rattle.state.specs.declared.Step.{Step}
use Rattle.state.specs.declared.Step.TheVariants.{Read}
use Rattle.state.specs.declared.StepResult.{StepResult}
use Rattle.state.specs.declared.StepStatus.TheVariants.{NotConnected, BearerClosed}
use Rattle.lists.specs.Queue.{pushed}
use Rattle.lists.specs.Blocks.{Valued}
use Rattle.script_rules.specs.Wait.{awaited, check_for}
use Rattle.script_rules.specs.Start.{ends, start_alone, start_unlinked, start_linked, barred, start_on, read, named, start}
use Rattle.thm_trail.specs.Log.{kept_results}
use Rattle.thm_accounting.proofs.Gives.{Whole, apart, whole_same, finish-pushes}
use Rattle.thm_accounting.proofs.Channels as books
use Rattle.gatt_characteristics.specs.declared.Characteristic.{Characteristic}

-- the result of a step that ends so
abbrev pub result_of : Held → Micros → StepStatus → ℕ → ℕ → Valued StepResult
result_of h at st from n = record { entry = record { index = h.state.running.index; at = at; status = st; len = n; heard = 0 }; value = bytes h.store from n }

-- nothing is given, or the running step's result with another status than Ok
pub data Poorly (h g : Held) : Type 0 where
  unended : kept_results g ≡ kept_results h → Poorly h g
  ended : (x : Valued StepResult) → x.entry.index ≡ h.state.running.index → (x.entry.status ≡ Ok → ⊥) → kept_results g ≡ pushed most_results (kept_results h) x → Poorly h g

pub poorly-ends : (h : Held) (at : Micros) (st : StepStatus) → (st ≡ Ok → ⊥) → Whole h → h.state.running.active ≡ true → Poorly h (ends h at st)
poorly-ends h at st bad w a = ended (result_of h at st held_at 0) refl bad (finish-pushes h at st held_at 0 0 w (omega arith) (omega arith) a)

-- ---- a Read that begins

poorly-read : (w : World) (at : Micros) (x : Option Characteristic) → Whole w.held → w.held.state.running.active ≡ true → Poorly w.held (read w at x).held
unfolding read request
poorly-read w at None k a = poorly-ends w.held at NotFound (λ e. let z : ◌≡◌ {A = ℕ} 0 1 = cc in omega arith) k a
poorly-read w at (Some x) k a = unended refl

pub poorly-start : (w : World) (at : Micros) (u : Uuid) → w.held.state.running.step ≡ Read u → Whole w.held → w.held.state.running.active ≡ true
    → Poorly w.held (start w at).held
unfolding start start_on start_linked start_alone
poorly-start w at u e k a =
    subst (λ (s : Step). Poorly w.held (pick b (start_on w at s) (on_held w (start_unlinked w.held at s))).held) (sym e) (go b (barred w.held.state.options w.held.state.bearer (Read u)))
  where
    b : Bool
    b = w.held.state.bearer.present

    go : (x c : Bool) → Poorly w.held (pick x (pick c (on_held w (ends w.held at BearerClosed)) (start_linked w at (Read u))) (on_held w (start_unlinked w.held at (Read u)))).held
    go true true = poorly-ends w.held at BearerClosed (λ f. let z : ◌≡◌ {A = ℕ} 0 1 = cc in omega arith) k a
    go true false = poorly-read w at (named w u) k a
    go false c = poorly-ends w.held at NotConnected (λ f. let z : ◌≡◌ {A = ℕ} 0 1 = cc in omega arith) k a

-- ---- a frame that is read while a Read runs

-- what the value is of: a read response that counts
pub record Answers (w : World) (at : Micros) (channel n : ℕ) (v : World) : Type 0 where
  pub att : channel ≡ cid_att
  pub counted : counts w.held.state.bearer.link.pending (payload w.held n) ≡ true
  pub opcode : get_or (payload w.held n) 0 0 ≡ op_read_rsp
  pub told : v.told ≡ w.told
  pub results : kept_results v.held ≡ pushed most_results (kept_results w.held) (result_of w.held at Ok (payload_at + 1) (n - 1))

pub data ReadBy (w : World) (at : Micros) (channel n : ℕ) (v : World) : Type 0 where
  poorly : Poorly w.held v.held → ReadBy w at channel n v
  value : Answers w at channel n v → ReadBy w at channel n v

module _ (u : Uuid) where
  -- the running step is a Read
  abbrev Reading : World → Type 0
  Reading w = w.held.state.running.step ≡ Read u

  same : {w : World} {at : Micros} {channel n : ℕ} {v : World} → kept_results v.held ≡ kept_results w.held → ReadBy w at channel n v
  same e = poorly (unended e)

  -- the wait check has nothing to look at
  unchecked : (h : Held) (at : Micros) → h.state.running.step ≡ Read u → check_wait h at ≡ h
  unfolding check_wait check_for
  unchecked h at e = ap (λ (s : Step). pick h.state.running.active (check_for h at (awaited s)) h) e ∙ go h.state.running.active
    where
      go : (b : Bool) → pick b h h ≡ h
      go true = refl
      go false = refl

  noticed : (w : World) (at : Micros) (n : ℕ) (indication : Bool) → Reading w → Whole w.held → kept_results (notice w at n indication).held ≡ kept_results w.held
  unfolding notice keep_one
  noticed w at n indication r k =
      let handle = le_at 2 (payload w.held n) 1 in
      ap kept_results (unchecked (keep_one w.held at handle (n - 3) indication) at r)
      ∙ (apart k (books.apart-keep w.held at handle (n - 3) indication)).results

  module _ (w : World) (at : Micros) (n : ℕ) (short : n ≤ payload_size) (r : Reading w) (k : Whole w.held) (a : w.held.state.running.active ≡ true) where
    abbrev v : World
    v = become w (unasked w.held.state)

    abbrev p : List ℕ
    p = payload w.held n

    whole-v : Whole v.held
    whole-v = whole_same k refl refl

    -- an error, whatever it says
    erred : (code : ℕ) → Poorly v.held (failed v at code asked-variants.Value).held
    unfolding failed absent
    erred code = go (eqb code err_attribute_not_found)
      where
        go : (b : Bool) → Poorly v.held (pick b (over v at (AttError err_attribute_not_found)) (over v at (AttError code))).held
        go true = poorly-ends v.held at (AttError err_attribute_not_found) (λ e. let z : ◌≡◌ {A = ℕ} 0 1 = cc in omega arith) whole-v a
        go false = poorly-ends v.held at (AttError code) (λ e. let z : ◌≡◌ {A = ℕ} 0 1 = cc in omega arith) whole-v a

    -- the same table before the wait ended
    back : {g : Held} → Poorly v.held g → Poorly w.held g
    back (unended e) = unended e
    back (ended x i b e) = ended x i b e

    answered : counts w.held.state.bearer.link.pending p ≡ true → ReadBy w at cid_att n (present v at n asked-variants.Value)
    unfolding present
    answered c = go (eqb (get_or p 0 0) op_read_rsp) refl
      where
        go : (b : Bool) → eqb (get_or p 0 0) op_read_rsp ≡ b → ReadBy w at cid_att n (pick b (value_read v at n) v)
        go true e =
            value
            (record {
              att = refl;
              counted = c;
              opcode = eqb-true (get_or p 0 0) op_read_rsp e;
              told = refl;
              results = finish-pushes v.held at Ok (payload_at + 1) (n - 1) 0 whole-v (omega (arith, short)) (omega (arith, short)) a;
            })
        go false e = same refl

    taken-by : counts w.held.state.bearer.link.pending p ≡ true → ReadBy w at cid_att n (taken v at n)
    unfolding taken
    taken-by c =
        subst (λ (x : Asked). ReadBy w at cid_att n (pick w.held.state.running.active (pick (eqb (get_or p 0 0) op_error_rsp) (failed v at (get_or p 4 0) x) (present v at n x)) v))
        (sym (ap (λ (s : Step). asked_by s w.held.state.running.phase) r))
        (go w.held.state.running.active (eqb (get_or p 0 0) op_error_rsp))
      where
        go : (x y : Bool) → ReadBy w at cid_att n (pick x (pick y (failed v at (get_or p 4 0) asked-variants.Value) (present v at n asked-variants.Value)) v)
        go true true = poorly (back (erred (get_or p 4 0)))
        go true false = answered c
        go false y = same refl

    responded : ReadBy w at cid_att n (on_response w at n)
    unfolding on_response
    responded = go (counts w.held.state.bearer.link.pending p) refl
      where
        go : (b : Bool) → counts w.held.state.bearer.link.pending p ≡ b → ReadBy w at cid_att n (pick b (taken v at n) w)
        go true e = taken-by e
        go false e = same refl

    by-opcode : (op handle : ℕ) → ReadBy w at cid_att n (by_opcode w at n op handle)
    unfolding by_opcode exchange
    by-opcode op handle =
        go (among op (op_handle_value_ntf ∷ op_handle_value_ind ∷ []) && leb 3 n) (eqb op op_exchange_mtu_req) (among op searches) (among op accesses) (among op silent) (other_request op)
      where
        go : (a b c d e f : Bool)
            → ReadBy w at cid_att n
            (pick a (notice w at n (eqb op op_handle_value_ind))
            (pick b (exchange w handle)
            (pick c (on_told w (refuse w.told op handle err_attribute_not_found))
            (pick d (on_told w (refuse w.told op handle err_invalid_handle))
            (pick e w
            (pick f (on_told w (refuse w.told op 0 err_request_not_supported)) (on_response w at n)))))))
        go true b c d e f = same (noticed w at n (eqb op op_handle_value_ind) r k)
        go false true c d e f = same refl
        go false false true d e f = same refl
        go false false false true e f = same refl
        go false false false false true f = same refl
        go false false false false false true = same refl
        go false false false false false false = responded

    att-by : ReadBy w at cid_att n (on_att w at n)
    unfolding on_att
    att-by = go (eqb n 0)
      where
        go : (b : Bool) → ReadBy w at cid_att n (pick b w (by_opcode w at n (get_or p 0 0) (le_at 2 p 1)))
        go true = same refl
        go false = by-opcode (get_or p 0 0) (le_at 2 p 1)

    pub read_by : (channel : ℕ) → ReadBy w at channel n (on_channel w at channel n)
    unfolding on_channel
    read_by channel = go (eqb channel cid_att) refl (eqb channel cid_signaling) (eqb channel cid_smp)
      where
        moved : channel ≡ cid_att → ReadBy w at cid_att n (on_att w at n) → ReadBy w at channel n (on_att w at n)
        moved e x = subst (λ (c : ℕ). ReadBy w at c n (on_att w at n)) (sym e) x

        go : (a : Bool) → eqb channel cid_att ≡ a → (b c : Bool)
            → ReadBy w at channel n
            (pick a (on_att w at n) (pick b (on_told w (on_signaling w.told (payload w.held n))) (pick c (on_told w (on_smp w.told (payload w.held n))) w)))
        go true e b c = moved (eqb-true channel cid_att e) att-by
        go false e true c = same refl
        go false e false true = same refl
        go false e false false = same refl
