-- What each return of a response asks, from what its callees ensure.
use Rattle.std.specs.Prelude.{Option}
use Prim.Native.Nat.{ℕ}
use mathlib.Core.Path.{◌≡◌, sym, ap, subst, ◌∙◌}
use mathlib.Core.Bool.{Bool, true, false}
use mathlib.Core.List.{List}
use lib.Dec.{eqb}
use lib.ListN.{get_or}
use borrow.Author.Tests.{eq-eqb, ne_eqb}
use Rattle.bytes_base.specs.Choice.{pick}
use Rattle.lists.specs.Blocks.{bytes}
use Rattle.script_rules.specs.World.{World}
use Rattle.script_rules.proofs.ReadyLaws.{ready-state}
use Rattle.link_rules.specs.Able.{Able}
use Rattle.link_rules.specs.Moves.{become, over, service_of, value_read, unasked}
use Rattle.time.specs.declared.Micros.{Micros}
use Rattle.uuid_value.specs.declared.Uuid.{Uuid}
use Rattle.state.specs.declared.StepStatus.TheVariants.{Ok}
use Rattle.link_questions.specs.declared.Goal.{Goal}
use Rattle.link_rules.specs.Services.{services_heard}
use Rattle.link_rules.specs.Characteristics.{characteristics_heard, descriptors_heard}
use Rattle.link_rules.proofs.AnswerLaws.{yes, no}
use Rattle.bytes_base.specs.Bytes.{le_at}
use Rattle.att_pdu.specs.Numbers.{op_error_rsp, op_read_rsp, op_write_rsp}
use Rattle.link_rules.specs.Payload.{Reads, payload_at, payload, with_mtu}
use Rattle.state_core.specs.declared.Turn.{Turn}
use Rattle.state_core.specs.Reading.{central, world}
use Rattle.link_questions.specs.declared.Asked.{Asked}
use Rattle.link_rules.specs.Responses.{present, taken, on_response}
use Rattle.link_rules.specs.Errors.{failed}
use Rattle.link_questions.specs.Questions.{asked_by}
use Rattle.link_rules.specs.Answers.{smaller_mtu, counts}
use Rattle.link_questions.specs.declared.Asked.TheVariants as asked-variants
use Rattle.gatt_services.specs.declared.Service.{Service}

-- ---- an answer of n bytes

module _ (w : World) (at : Micros) (n : ℕ) (a : Asked) where
  pub present-mtu : (m : ℕ) → a ≡ asked-variants.Mtu m
      → over (become w (with_mtu w.held.state (smaller_mtu (le_at 2 (payload w.held n) 1) m))) at Ok ≡ present w at n a
  unfolding present
  present-mtu m e = sym (ap (present w at n) e)

  pub present-written : a ≡ asked-variants.Written → pick (eqb (get_or (payload w.held n) 0 0) op_write_rsp) (over w at Ok) w ≡ present w at n a
  unfolding present
  present-written e = sym (ap (present w at n) e)

  pub present-value : a ≡ asked-variants.Value → pick (eqb (get_or (payload w.held n) 0 0) op_read_rsp) (value_read w at n) w ≡ present w at n a
  unfolding present
  present-value e = sym (ap (present w at n) e)

  pub present-nothing : a ≡ asked-variants.Nothing → w ≡ present w at n a
  unfolding present
  present-nothing e = sym (ap (present w at n) e)

module _ (w : World) (at : Micros) (n size : ℕ) (a : Asked) (f : size ≡ get_or (payload w.held n) 1 0) where
  pub present-services : (g : Goal) → a ≡ asked-variants.Services g → services_heard w at g n size ≡ present w at n a
  unfolding present
  present-services g e = ap (services_heard w at g n) f ∙ sym (ap (present w at n) e)

  pub present-characteristics : (u : Uuid) (x : Option Service) → a ≡ asked-variants.Characteristics u → x ≡ service_of w u
      → characteristics_heard w at n size x ≡ present w at n a
  unfolding present
  present-characteristics u x e k =
      ap (characteristics_heard w at n size) k ∙ ap (λ (y : ℕ). characteristics_heard w at n y (service_of w u)) f ∙ sym (ap (present w at n) e)

  pub present-descriptors : (u : Uuid) (x : Option Service) → a ≡ asked-variants.Descriptors u → x ≡ service_of w u
      → descriptors_heard w at n size x ≡ present w at n a
  unfolding present
  present-descriptors u x e k =
      ap (descriptors_heard w at n size) k ∙ ap (λ (y : ℕ). descriptors_heard w at n y (service_of w u)) f ∙ sym (ap (present w at n) e)

-- ---- a response to the running step's request

module _ (w : World) (at : Micros) (n : ℕ) where
  abbrev asked : Asked
  asked = asked_by w.held.state.running.step w.held.state.running.phase

  abbrev opcode : ℕ
  opcode = get_or (payload w.held n) 0 0

  abbrev by-error : World
  by-error = pick (eqb opcode op_error_rsp) (failed w at (get_or (payload w.held n) 4 0) asked) (present w at n asked)

  pub taken-idle : w.held.state.running.active ≡ false → w ≡ taken w at n
  unfolding taken
  taken-idle h = no w.held.state.running.active by-error w h

  module _ (a : Asked) (op : ℕ) (h : w.held.state.running.active ≡ true) (f : a ≡ asked) (g : op ≡ opcode) where
    pub taken-error : (code : ℕ) → op ≡ op_error_rsp → code ≡ get_or (payload w.held n) 4 0 → failed w at code a ≡ taken w at n
    unfolding taken
    taken-error code k q =
        ap (failed w at code) f
        ∙ ap (λ (x : ℕ). failed w at x asked) q
        ∙ yes (eqb opcode op_error_rsp) (failed w at (get_or (payload w.held n) 4 0) asked) (present w at n asked) (eq-eqb opcode op_error_rsp (sym g ∙ k))
        ∙ yes w.held.state.running.active by-error w h

    pub taken-answer : (op ≡ op_error_rsp → ⊥) → present w at n a ≡ taken w at n
    unfolding taken
    taken-answer k =
        ap (present w at n) f
        ∙ no (eqb opcode op_error_rsp) (failed w at (get_or (payload w.held n) 4 0) asked) (present w at n asked) (ne_eqb opcode op_error_rsp (λ q. k (g ∙ q)))
        ∙ yes w.held.state.running.active by-error w h

-- ---- whether it counts

module _ (t u : Turn) (w s o : List ℕ) (e : world u w s o ≡ become (world t w s o) (unasked (central t.core w))) where
  pub unasked-able : (n : ℕ) → Reads n (world t w s o) → Able (world u w s o)
  unasked-able n r =
      subst (λ (v : World). Able v) (sym e)
      (record { ready = ready-state 64 (world t w s o) (unasked (central t.core w)) r.ready r.ready.results; peer = r.nearly.peer })

  pub counted : (at : Micros) (n : ℕ) (x : Bool) → x ≡ counts t.core.bearer.link.pending (bytes s payload_at n) → x ≡ true
      → taken (world u w s o) at n ≡ on_response (world t w s o) at n
  unfolding on_response
  counted at n x f h =
      ap (λ (v : World). taken v at n) e
      ∙ yes
      (counts t.core.bearer.link.pending (bytes s payload_at n))
      (taken (become (world t w s o) (unasked (central t.core w))) at n)
      (world t w s o)
      (sym f ∙ h)

pub not-counted : (w : World) (at : Micros) (n : ℕ) (x : Bool) → x ≡ counts w.held.state.bearer.link.pending (payload w.held n) → x ≡ false
    → w ≡ on_response w at n
unfolding on_response
not-counted w at n x f h =
    no (counts w.held.state.bearer.link.pending (payload w.held n)) (taken (become w (unasked w.held.state)) at n) w (sym f ∙ h)
