-- What each return of the functions that answer asks, from what their callees ensure.
use Prim.Native.Nat.{ℕ, ◌+◌, ◌-◌, ◌≤◌}
use mathlib.Core.Path.{◌≡◌, sym, ap, subst, ◌∙◌}
use mathlib.Core.Bool.{Bool, true, false}
use mathlib.Core.List.{List}
use native.Mathlib.Omega.{arith}
use lib.ListN.{length, take, drop}
use borrow.Author.Tests.{eq-eqb, ne_eqb}
use Rattle.std.specs.Prelude.{Option, Some, None}
use Rattle.l2cap.specs.Numbers.{cid_att, cid_signaling, cid_smp}
use Rattle.att_pdu.specs.Pdu.{att_error, confirmation}
use Rattle.l2cap_signaling.specs.Answer.{signaling_answer, smp_answer}
use Rattle.l2cap_signaling.specs.declared.SignalingAnswer.{SignalingAnswer}
use Rattle.l2cap_params.specs.declared.Parameters.{Parameters}
use Rattle.lists.specs.Blocks.{bytes}
use Rattle.state.specs.declared.LinkRequest.TheVariants.{Update}
use Rattle.state.specs.declared.Sent.{Sent}
use Rattle.script_rules.specs.World.{Told, told}
use Rattle.script_rules.specs.Send.{Room, send}
use Rattle.script_rules.proofs.StartLaws.{less-room}
use Rattle.link_rules.specs.Payload.{payload_at}
use Rattle.link_rules.specs.Replies.{reply, asks_update, on_signaling, on_smp, refuse, confirmed}

-- ---- signaling and security manager

module _ (t : Told) (channel : ℕ) (answer : Option (List ℕ)) where
  pub reply-none : answer ≡ None → t ≡ reply t channel answer
  unfolding reply
  reply-none e = rw e

  pub reply-some : (l : List ℕ) (r : Told) → answer ≡ Some l → r ≡ send t channel l → r ≡ reply t channel answer
  unfolding reply
  reply-some l r is e = rw (is, e)

pub asks_nothing : (s : Sent) (u : Option Parameters) → u ≡ None → (o : List ℕ) → told s o ≡ asks_update (told s o) u
asks_nothing s u e o = sym (ap (asks_update (told s o)) e)

pub asks-update : (s : Sent) (u : Option Parameters) (p : Parameters) → u ≡ Some p
    → (o : List ℕ) → told (record { frames = s.frames; bytes = s.bytes; request = Some (Update p.interval p.latency p.timeout) }) o ≡ asks_update (told s o) u
asks-update s u p e o = sym (ap (asks_update (told s o)) e)

-- the payload, as the code cuts it
abbrev pub cut : List ℕ → ℕ → List ℕ
cut st n = take (payload_at + n - payload_at) (drop payload_at st)

cut-is : (st : List ℕ) (n : ℕ) → cut st n ≡ bytes st payload_at n
cut-is st n = let same : payload_at + n - payload_at ≡ n = omega arith in ap (λ (m : ℕ). take m (drop payload_at st)) same

module _ (t : Told) (st : List ℕ) (n : ℕ) where
  pub signaling-law : (r mid : Sent) (out : List ℕ) (a : SignalingAnswer) → a ≡ signaling_answer (cut st n)
      → told mid out ≡ reply t cid_signaling a.reply → ((o : List ℕ) → told r o ≡ asks_update (told mid o) a.update)
      → told r out ≡ on_signaling t (bytes st payload_at n)
  unfolding on_signaling
  signaling-law r mid out a e f g =
      g out
      ∙ ap (λ (x : Told). asks_update x a.update) f
      ∙ ap (λ (z : SignalingAnswer). asks_update (reply t cid_signaling z.reply) z.update) (e ∙ ap signaling_answer (cut-is st n))

  pub smp-law : (r : Told) (a : Option (List ℕ)) → a ≡ smp_answer (cut st n) → r ≡ reply t cid_smp a → r ≡ on_smp t (bytes st payload_at n)
  unfolding on_smp
  smp-law r a e f = f ∙ ap (reply t cid_smp) (e ∙ ap smp_answer (cut-is st n))

-- ---- the peer's requests

pub refuse-law : (t r : Told) (opcode handle code : ℕ) (pdu : List ℕ) → pdu ≡ att_error opcode handle code → r ≡ send t cid_att pdu → r ≡ refuse t opcode handle code
unfolding refuse
refuse-law t r opcode handle code pdu e f = f ∙ ap (send t cid_att) e

-- ---- indications

pub confirms : (t r : Told) (i : Bool) (pdu : List ℕ) → i ≡ true → pdu ≡ confirmation → r ≡ send t cid_att pdu → r ≡ confirmed t i
confirms t r i pdu e f g = g ∙ ap (send t cid_att) f ∙ sym (ap (confirmed t) e)

pub says_nothing : (t : Told) (i : Bool) → i ≡ false → t ≡ confirmed t i
says_nothing t i e = sym (ap (confirmed t) e)
