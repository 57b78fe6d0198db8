-- The theorem is of something: a link comes, then a batch asks for an MTU, and one frame goes out. Of the store and of the output nothing
-- is said but their sizes.
use Rattle.std.specs.Prelude.{ℕ, ◌≡◌, false, length, take, drop, replicate}
use Rattle.std.proofs.Math.Path.{refl, ap}
use Rattle.std.proofs.Common.{◌∙◌, arith}
use mathlib.Core.List.{List, [], ◌∷◌, ◌++◌}
use Rattle.std.proofs.Math.Dec.{eqb}
use Rattle.bytes_base.specs.Choice.{pick}
use Rattle.bytes_base.specs.Bytes.{le, le_bytes}
use Rattle.state_places.specs.Sizes.{store_size, output_size}
use Rattle.lists.specs.Queue.{all}
use Rattle.time.specs.declared.Micros.{Micros}
use Rattle.l2cap.specs.Numbers.{cid_att}
use Rattle.l2cap.specs.Frame.{Written, l2cap_frame}
use Rattle.l2cap.proofs.FrameLaws.{framed-bytes}
use Rattle.att_pdu.specs.Pdu.{exchange_mtu_req}
use Rattle.gatt_characteristics.specs.Characteristic.{up_from}
use Rattle.state.specs.Fresh.{no_options, fresh_central}
use Rattle.state.specs.declared.Step.TheVariants.{ExchangeMtu}
use Rattle.state_rules.specs.Steps.{step_fits}
use Rattle.state_rules.specs.Fit.{counts_fit, fits}
use Rattle.state_rules.specs.Gate.{first_refusal, gate}
use Rattle.state_rules.specs.Refusals.{accepted}
use Rattle.script_rules.specs.World.{Held, Told}
use Rattle.script_rules.specs.Send.{more, send, request}
use Rattle.script_rules.specs.declared.Batch.{Batch}
use Rattle.script_rules.specs.Waiting.{push_one, push_all, take_step}
use Rattle.script_rules.specs.Start.{start_linked, start_on, start}
use Rattle.script_rules.specs.Script.{advances, advance}
use Rattle.script_rules.specs.Outcome.{Outcome, done, refused, unsent}
use Rattle.script_rules.specs.Batch.{batch_fits, counters_fit, gate_batch, push_steps}
use Rattle.script_rules.specs.Events.{with_new_link, gate_connected, connect, on_connected}
use Rattle.thm_trail.specs.Calls.{Call, batch, connected, timer, does, left, fresh, run, done?}
use Rattle.thm_trail.specs.Trail.{onwards, begins, goes}
use Rattle.thm_wire.specs.Wire.{Frame, parse, as_sent, sent_along, sent_by}

abbrev pub at : ℕ → Micros
at n = record { 0 = n }

-- one step
abbrev pub asks : Batch
asks = record { steps = replicate 64 (record { step = ExchangeMtu 23; place = 0; len = 0 }); count = 1 }

-- an MTU request for 23 (Core Vol 3 Part F 3.4.2.1) in its frame
abbrev pub mtu_frame : List ℕ
mtu_frame = 0x03 ∷ 0x00 ∷ 0x04 ∷ 0x00 ∷ 0x02 ∷ 0x17 ∷ 0x00 ∷ []

module _ (store out : List ℕ) (s : length store ≡ store_size) (o : length out ≡ output_size) where
  abbrev comes : List Call
  comes = connected out 64 (at 1) ∷ []

  abbrev met : Held
  met = record { state = with_new_link fresh_central 64; store = store }

  abbrev next : Call
  next = batch out (at 2) asks []

  -- the link is there
  fresh-passes : gate_connected fresh_central (length store) (length out) (at 1) ≡ 0
  unfolding fresh_central first_refusal fits counts_fit all up_from
  fresh-passes = ap (λ (n : ℕ). gate_connected fresh_central n (length out) (at 1)) s ∙ ap (λ (n : ℕ). gate_connected fresh_central store_size n (at 1)) o

  comes-is : run (fresh no_options store) comes ≡ met
  unfolding fresh_central on_connected connect advance advances
  comes-is = ap (λ (g : ℕ). left (pick (eqb g accepted) (done (connect (begins (fresh no_options store) (connected out 64 (at 1))) 64 (at 1))) (refused fresh_central g store out))) fresh-passes

  -- the batch is not refused
  met-passes : gate_batch met.state (length store) (length out) (at 2) asks 0 ≡ 0
  unfolding fresh_central first_refusal fits counts_fit all up_from gate_batch batch_fits counters_fit step_fits
  met-passes = ap (λ (n : ℕ). gate_batch met.state n (length out) (at 2) asks 0) s ∙ ap (λ (n : ℕ). gate_batch met.state store_size n (at 2) asks 0) o

  does-is : does met next ≡ done (advance (begins met next) (at 2))
  unfolding push_steps
  does-is = ap (λ (g : ℕ). pick (eqb g accepted) (done (advance (begins met next) (at 2))) (refused met.state g store out)) met-passes

  -- one frame goes out
  told_is : (advance (begins met next) (at 2)).told ≡ send (record { sent = unsent; out = out }) cid_att (exchange_mtu_req 23)
  unfolding fresh_central advance advances push_all push_one take_step start start_on start_linked request
  told_is = refl

  abbrev sent : Told
  sent = send (record { sent = unsent; out = out }) cid_att (exchange_mtu_req 23)

  sent_is : sent ≡ record { sent = record { frames = 1; bytes = 7; request = unsent.request }; out = mtu_frame ++ drop 7 out }
  unfolding send l2cap_frame le_bytes
  sent_is = ap (λ (x : Written). more unsent x) (framed-bytes out 0 cid_att (exchange_mtu_req 23) (omega arith) (omega (arith, o)))

  -- what is read off the trail
  along-is : sent_along (begins met next) (goes met next) ≡ as_sent 23 (take sent.sent.bytes sent.out) ++ []
  unfolding fresh_central onwards push_all push_one take_step start start_on start_linked request
  along-is = refl

  by-is : sent_by met next ≡ as_sent 23 (take sent.sent.bytes sent.out) ++ []
  by-is = ap (λ (g : ℕ). pick (eqb g accepted) (sent_along (begins met next) (goes met next)) []) met-passes ∙ along-is

  -- the call tells one frame of 7 bytes, and writes no other byte
  pub shown-out : let x = does (run (fresh no_options store) comes) next in (x.sent.frames ≡ 1) × (x.sent.bytes ≡ 7) × (x.out ≡ mtu_frame ++ drop 7 out)
  shown-out =
      let e : does (run (fresh no_options store) comes) next ≡ done (advance (begins met next) (at 2)) = ap (λ (h : Held). does h next) comes-is ∙ does-is in
      let f = told_is ∙ sent_is in (
        ap (λ (x : Outcome). x.sent.frames) e ∙ ap (λ (t : Told). t.sent.frames) f,
        ap (λ (x : Outcome). x.sent.bytes) e ∙ ap (λ (t : Told). t.sent.bytes) f,
        ap (λ (x : Outcome). x.out) e ∙ ap (λ (t : Told). t.out) f,
      )

  abbrev pub asked : Frame
  asked = record { channel = 4; payload = 0x02 ∷ 0x17 ∷ 0x00 ∷ [] }

  -- read off the trail, with the MTU of a new link
  pub shown-sent : sent_by (run (fresh no_options store) comes) next ≡ record { frame = asked; mtu = 23 } ∷ []
  unfolding le
  shown-sent = ap (λ (h : Held). sent_by h next) comes-is ∙ by-is ∙ ap (λ (t : Told). as_sent 23 (take t.sent.bytes t.out) ++ []) sent_is

  pub shown-parsed : parse 1 mtu_frame ≡ asked ∷ []
  unfolding le
  shown-parsed = refl

  -- an output too short is refused
  pub shown-refused : done? (run (fresh no_options store) comes) (timer [] (at 3)) ≡ false
  unfolding fresh_central first_refusal fits counts_fit all up_from
  shown-refused = ap (λ (h : Held). done? h (timer [] (at 3))) comes-is ∙ ap (λ (n : ℕ). eqb (gate met.state n 0 (at 3)) accepted) s
