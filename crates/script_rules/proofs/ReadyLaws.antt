-- Each thing that a call does keeps it ready.
use Prim.Native.Nat.{ℕ, ◌+◌, ◌≤◌}
use mathlib.Core.Path.{◌≡◌, ◌∙◌}
use mathlib.Core.Bool.{Bool, true, false}
use mathlib.Core.List.{List}
use native.Mathlib.Omega.{arith}
use lib.ListN.{length}
use Rattle.bytes_base.specs.Choice.{pick}
use Rattle.lists.proofs.QueueLaws.{pushed-within}
use Rattle.lists.proofs.BlockLaws.{length-stored}
use Rattle.l2cap.specs.Numbers.{cid_att}
use Rattle.l2cap.proofs.FrameLaws.{framed-in}
use Rattle.state_places.specs.Sizes.{most_results}
use Rattle.time.specs.declared.Micros.{Micros}
use Rattle.state.specs.Central.{Central}
use Rattle.state.specs.declared.StepResult.{StepResult}
use Rattle.state.specs.declared.StepStatus.{StepStatus}
use Rattle.state.specs.declared.Results.{Results}
use Rattle.script_rules.specs.World.{Told, World, on_held, on_told, on_state}
use Rattle.script_rules.specs.Finish.{result_part, kept, pushed_result, ended, finish}
use Rattle.script_rules.specs.Send.{Room, send, request}
use Rattle.script_rules.specs.Ready.{Ready}
use Rattle.script_rules.proofs.SendLaws.{length-send}

pub pushed-count : (rs : Results) (r : StepResult) → (pushed_result rs r).count ≤ most_results
unfolding pushed_result
pushed-count rs r = pushed-within most_results (kept rs) r

-- room for one more frame of what an ATT payload may be
pub ready-room : (k n : ℕ) (w : World) → Ready k w → k ≤ 64 → n ≤ 247 → Room w.told.sent (length w.told.out) n
ready-room k n w r h m = record { frames = omega (arith, r.frames); fits = omega (arith, r.bytes, r.out, r.frames); short = omega arith }

pub ready-more : (k m : ℕ) (w : World) → Ready k w → k ≤ m → Ready m w
ready-more k m w r h = record { store = r.store; out = r.out; results = r.results; frames = omega (arith, r.frames); bytes = r.bytes }

-- the state may change but for the results
pub ready-state : (k : ℕ) (w : World) (c : Central) → Ready k w → c.results.count ≤ most_results → Ready k (on_held w (on_state w.held c))
ready-state k w c r h = record { store = r.store; out = r.out; results = h; frames = r.frames; bytes = r.bytes }

module _ (k : ℕ) (w : World) (at : Micros) (status : StepStatus) (from n heard : ℕ) (r : Ready k w) where
  pub ready-ended : Ready k (on_held w (ended w.held at status from n heard))
  unfolding ended
  ready-ended =
      record {
        store = length-stored result_part w.held.state.results.count w.held.store from n w.held.store ∙ r.store;
        out = r.out;
        results = pushed-count w.held.state.results (record { index = w.held.state.running.index; at = at; status = status; len = n; heard = heard });
        frames = r.frames;
        bytes = r.bytes;
      }

  pub ready-finish : Ready k (on_held w (finish w.held at status from n heard))
  unfolding finish
  ready-finish = go w.held.state.running.active
    where
      go : (b : Bool) → Ready k (on_held w (pick b (ended w.held at status from n heard) w.held))
      go true = ready-ended
      go false = r

module _ (k : ℕ) (w : World) (channel : ℕ) (payload : List ℕ) (r : Ready k w) (h : k ≤ 64) (m : length payload ≤ 247) where
  abbrev t : Told
  t = w.told

  grown : (send t channel payload).sent.bytes ≡ t.sent.bytes + (4 + length payload)
  unfolding send
  grown = let q = ready-room k (length payload) w r h m in rw (framed-in t.out t.sent.bytes channel payload q.short q.fits)

  pub ready-send : Ready (k + 1) (on_told w (send t channel payload))
  unfolding send
  ready-send =
      record {
        store = r.store;
        out = omega (arith, r.out, length-send t channel payload);
        results = r.results;
        frames = omega (arith, r.frames);
        bytes = omega (arith, r.bytes, grown);
      }

pub ready-request : (k : ℕ) (w : World) (at : Micros) (pdu : List ℕ) → Ready k w → k ≤ 64 → length pdu ≤ 247 → Ready (k + 1) (request w at pdu)
unfolding request
ready-request k w at pdu r h m =
    let q = ready-send k w cid_att pdu r h m in
    record { store = q.store; out = q.out; results = q.results; frames = q.frames; bytes = q.bytes }
