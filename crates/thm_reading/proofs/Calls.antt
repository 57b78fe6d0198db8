-- The calls of the script and of the link, and the readers, are blind to dead places.
use Prim.Native.Nat.{ℕ, ◌-◌}
use mathlib.Core.Path.{◌≡◌, sym, ap, ◌∙◌}
use mathlib.Core.Bool.{Bool, true, not, ◌&&◌}
use mathlib.Core.List.{List}
use lib.ListN.{length}
use lib.Dec.{eqb, leb}
use Rattle.bytes_base.specs.Choice.{pick}
use Rattle.state_places.specs.Sizes.{store_size, output_size}
use Rattle.time.specs.declared.Micros.{Micros}
use Rattle.time.specs.Clock.{too_late}
use Rattle.state.specs.Central.{Central}
use Rattle.state_rules.specs.Fit.{most_notified, most_links}
use Rattle.state_rules.specs.Gate.{first_refusal, gate, gate_quiet, gate_reader, unless}
use Rattle.state_rules.specs.Refusals.{accepted, bad_batch, counter_full, long_frame}
use Rattle.script_rules.specs.World.{Held, World, on_held}
use Rattle.script_rules.specs.declared.Batch.{Batch}
use Rattle.script_rules.specs.BatchSteps.{steps}
use Rattle.script_rules.specs.Waiting.{push_all}
use Rattle.script_rules.specs.Script.{advance}
use Rattle.script_rules.specs.Outcome.{Outcome, Quiet, unsent, begins, done, refused, quietly, quietly_refused}
use Rattle.script_rules.specs.Batch.{batch_fits, counters_fit, gate_batch, push_steps}
use Rattle.script_rules.specs.Events.{expire, connect, lose, on_timer, gate_connected, on_connected, on_disconnected}
use Rattle.link_rules.specs.Fragment.{with_held, held_fits, gate_fragment, refusing}
use Rattle.link_rules.specs.Link.{hear, on_fragment}
use Rattle.state_readers.specs.Readers.{timer_of, timer, handle_of, handle, given, result_answer, heard_by, named, passed_on}
use Rattle.state_refusals.specs.Refused as answer
use Rattle.std.specs.Prelude.{Ok}
use Rattle.thm_reading.specs.Live.{live}
use Rattle.thm_reading.proofs.Tables.{cut_twice, live-twice}
use Rattle.thm_reading.proofs.Blind.{cut, cut_world, pick-if, pick-both}
use Rattle.thm_reading.proofs.Queue.{push-blind}
use Rattle.thm_reading.proofs.Script.{then-advance, expire-blind, connect-blind, lose-blind}
use Rattle.thm_reading.proofs.Rules.{hear-blind}
use Rattle.thm_reading.proofs.Gates.{fits-blind}

abbrev pub live_outcome : Outcome → Outcome
live_outcome o = record { state = live o.state; refusal = o.refusal; sent = o.sent; store = o.store; out = o.out }

abbrev pub live_quiet : Quiet → Quiet
live_quiet o = record { state = live o.state; refusal = o.refusal; store = o.store }

-- ---- gates

gate-blind : (c : Central) (store out : ℕ) (at : Micros) → gate c store out at ≡ gate (live c) store out at
gate-blind c store out at = ap (λ (f : Bool). first_refusal f (eqb store store_size && leb output_size out) (not (too_late at))) (fits-blind c)

gate-quiet-blind : (c : Central) (store : ℕ) (at : Micros) → gate_quiet c store at ≡ gate_quiet (live c) store at
gate-quiet-blind c store at = ap (λ (f : Bool). first_refusal f (eqb store store_size) (not (too_late at))) (fits-blind c)

gate-reader-blind : (c : Central) (store : ℕ) → gate_reader c store ≡ gate_reader (live c) store
gate-reader-blind c store = ap (λ (f : Bool). first_refusal f (eqb store store_size) true) (fits-blind c)

gate-batch-blind : (c : Central) (store out : ℕ) (at : Micros) (b : Batch) (size : ℕ) → gate_batch c store out at b size ≡ gate_batch (live c) store out at b size
unfolding gate_batch
gate-batch-blind c store out at b size =
    ap
    (λ (g : ℕ).
    pick (eqb g accepted)
    (pick (batch_fits size b) (pick (counters_fit c.counters c.queue.count b.count) accepted counter_full) bad_batch)
    g)
    (gate-blind c store out at)

gate-fragment-blind : (c : Central) (store out : ℕ) (at : Micros) (start : Bool) (n : ℕ) → gate_fragment c store out at start n ≡ gate_fragment (live c) store out at start n
unfolding gate_fragment
gate-fragment-blind c store out at start n =
    ap
    (λ (g : ℕ).
    pick (eqb g accepted)
    (pick (eqb c.counters.notified most_notified) counter_full (pick (held_fits c.bearer start n) accepted long_frame))
    g)
    (gate-blind c store out at)

gate-connected-blind : (c : Central) (store out : ℕ) (at : Micros) → gate_connected c store out at ≡ gate_connected (live c) store out at
gate-connected-blind c store out at =
    ap (λ (g : ℕ). pick (eqb g accepted) (pick (eqb c.counters.links most_links) counter_full accepted) g) (gate-blind c store out at)

-- ---- a call that is refused with g leaves r; otherwise it does its work on w

module _ (store out : List ℕ) where
  -- with two states
  gated : (g k : ℕ) (w v : World) (r q : Central) → g ≡ k → cut_world w ≡ cut_world v → live r ≡ live q
      → live_outcome (pick (eqb g accepted) (done w) (refused r g store out)) ≡ live_outcome (pick (eqb k accepted) (done v) (refused q k store out))
  gated g k w v r q e f h =
      pick-if live_outcome (eqb g accepted) (eqb k accepted) (done w) (refused r g store out) (done v) (refused q k store out)
      (ap (λ (n : ℕ). eqb n accepted) e)
      (λ b. ap done f)
      (λ i. record { state = h i; refusal = e i; sent = unsent; store = store; out = out })

  pub push-steps-blind : (c : Central) (at : Micros) (b : Batch) (values : List ℕ)
      → live_outcome (push_steps c store out at b values) ≡ live_outcome (push_steps (live c) store out at b values)
  unfolding push_steps
  push-steps-blind c at b values =
      let w : World = begins c store out in
      let pushes : World → World = λ v. on_held v (push_all v.held values (steps b)) in
      gated (gate_batch c (length store) (length out) at b (length values)) (gate_batch (live c) (length store) (length out) at b (length values))
      (advance (pushes w) at) (advance (pushes (cut_world w)) at) c (live c)
      (gate-batch-blind c (length store) (length out) at b (length values))
      (then-advance at (pushes w) (pushes (cut_world w)) (λ i. record { held = push-blind values w.held (steps b) i; told = w.told }))
      (sym (live-twice c))

  pub on-timer-blind : (c : Central) (at : Micros) → live_outcome (on_timer c store out at) ≡ live_outcome (on_timer (live c) store out at)
  unfolding on_timer
  on-timer-blind c at =
      let w : World = begins c store out in
      gated (gate c (length store) (length out) at) (gate (live c) (length store) (length out) at)
      (expire w at) (expire (cut_world w) at) c (live c)
      (gate-blind c (length store) (length out) at) (expire-blind at w) (sym (live-twice c))

  pub on-connected-blind : (c : Central) (handle : ℕ) (at : Micros)
      → live_outcome (on_connected c store out handle at) ≡ live_outcome (on_connected (live c) store out handle at)
  unfolding on_connected
  on-connected-blind c handle at =
      let w : World = begins c store out in
      gated (gate_connected c (length store) (length out) at) (gate_connected (live c) (length store) (length out) at)
      (connect w handle at) (connect (cut_world w) handle at) c (live c)
      (gate-connected-blind c (length store) (length out) at) (connect-blind at w handle) (sym (live-twice c))

  pub on-fragment-blind : (c : Central) (at : Micros) (start : Bool) (fragment : List ℕ)
      → live_outcome (on_fragment c store out at start fragment) ≡ live_outcome (on_fragment (live c) store out at start fragment)
  unfolding on_fragment
  on-fragment-blind c at start fragment =
      let w : World = begins c store out in
      let g : Central → ℕ = λ x. gate_fragment x (length store) (length out) at start (length fragment) in
      let e : g c ≡ g (live c) = gate-fragment-blind c (length store) (length out) at start (length fragment) in
      gated (g c) (g (live c))
      (hear w at start fragment) (hear (cut_world w) at start fragment) (refusing c (g c)) (refusing (live c) (g (live c)))
      e (hear-blind at w start fragment)
      (pick-both live (eqb (g c) long_frame) (with_held c 0) c (with_held (live c) 0) (live c) (sym (live-twice (with_held c 0))) (sym (live-twice c))
      ∙ ap (λ (n : ℕ). live (refusing (live c) n)) e)

pub on-disconnected-blind : (c : Central) (store : List ℕ) (at : Micros) → live_quiet (on_disconnected c store at) ≡ live_quiet (on_disconnected (live c) store at)
unfolding on_disconnected
on-disconnected-blind c store at =
    let h : Held = record { state = c; store = store } in
    let g : Central → ℕ = λ x. gate_quiet x (length store) at in
    let e : g c ≡ g (live c) = gate-quiet-blind c (length store) at in
    pick-if live_quiet (eqb (g c) accepted) (eqb (g (live c)) accepted)
    (quietly (lose h at)) (quietly_refused c (g c) store)
    (quietly (lose (cut h) at)) (quietly_refused (live c) (g (live c)) store)
    (ap (λ (n : ℕ). eqb n accepted) e)
    (λ b. ap quietly (lose-blind at h))
    (λ i. record { state = sym (live-twice c) i; refusal = e i; store = store })

-- ---- the readers

pub timer-blind : (c : Central) (store : ℕ) → timer c store ≡ timer (live c) store
unfolding timer
timer-blind c store = ap (λ (g : ℕ). unless g answer.refused (Ok (timer_of c.running))) (gate-reader-blind c store)

pub handle-blind : (c : Central) (store : ℕ) → handle c store ≡ handle (live c) store
unfolding handle
handle-blind c store = ap (λ (g : ℕ). unless g answer.refused (Ok (handle_of c.bearer))) (gate-reader-blind c store)

pub result-blind : (c : Central) (store index : ℕ) → result_answer c store index ≡ result_answer (live c) store index
unfolding result_answer
result-blind c store index = λ i.
    unless (gate-reader-blind c store i) answer.refused (Ok (given index 0 (sym (cut_twice c.results.count c.results.kept) i)))

pub passed-blind : (c : Central) (store index : ℕ) → passed_on c store index ≡ passed_on (live c) store index
unfolding passed_on
passed-blind c store index = λ i.
    unless (gate-reader-blind c store i) answer.refused
    (Ok (named (c.counters.notified - c.notifications.count) (sym (cut_twice c.notifications.count c.notifications.kept) i)
    (heard_by index (sym (cut_twice c.results.count c.results.kept) i))))
