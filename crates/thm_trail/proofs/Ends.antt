-- A call is refused, and leaves what its refusal says, or ends in the last world of its trail.
use Prim.Native.Nat.{ℕ, zero, suc}
use mathlib.Core.Path.{◌≡◌, refl, sym, ap, ◌∙◌}
use mathlib.Core.Bool.{Bool, true, false}
use mathlib.Core.List.{List, [], ◌∷◌}
use lib.ListN.{length}
use lib.Dec.{eqb, ltb}
use borrow.Author.Tests.{eqb-true}
use Rattle.bytes_base.specs.Choice.{pick}
use Rattle.time.specs.declared.Micros.{Micros}
use Rattle.state.specs.Central.{Central}
use Rattle.state.specs.declared.StepStatus.TheVariants.{Ok}
use Rattle.state_rules.specs.Refusals.{accepted}
use Rattle.script_rules.specs.World.{Held, World, on_held, on_state}
use Rattle.script_rules.specs.Start.{ends}
use Rattle.script_rules.specs.Script.{can_go, step_once, advances, advance}
use Rattle.script_rules.proofs.UnlinkedLaws.{present-finish, advance-unlinked}
use Rattle.script_rules.specs.Outcome.{Outcome, done, refused, quietly, quietly_refused}
use Rattle.script_rules.specs.Batch.{push_steps}
use Rattle.script_rules.specs.Events.{timed_out, due, given_up, expire, on_timer, is_connect, connect, on_connected, goes_on, cut_status, cut_off, silent, lose, on_disconnected}
use Rattle.radio_rules.specs.Hearing as radio
use Rattle.link_rules.specs.Fragment.{dropped, with_held, gathered, frame_length, frame_channel, whole, refusing}
use Rattle.link_rules.specs.Link.{frame_read, gather, hear, on_fragment}
use Rattle.link_rules.specs.Channel.{on_channel}
use Rattle.link_rules.specs.Payload.{payload}
use Rattle.state.specs.declared.Reports.{Reports}
use Rattle.state.specs.declared.Address.{Address}
use Rattle.state.specs.declared.Sent.{Sent}
use Rattle.adv_reports.specs.Reports.{heard_again, again_store, heard_first, first_store, last_place, place_of}
use Rattle.adv_reports.specs.Key.{key}
use Rattle.radio_match.specs.Matching.{listens}
use Rattle.script_rules.specs.Outcome.{unsent}
use Rattle.thm_trail.specs.Calls.{Reader, Call, batch, timer, connected, disconnected, advertising, scan_response, fragment, reads, blank, of_quiet, of_radio, does, gate_of, done?}
use Rattle.thm_trail.specs.Trail.{pass, final, onwards, onward, then_onward, timer_trail, met, connected_trail, parted, disconnected_trail, came_on, fragment_trail, begins, goes}

-- ---- the last world of each trail

onwards-final : (n : ℕ) (w : World) (at : Micros) → final w (onwards n w at) ≡ advances n w at
unfolding onwards advances
onwards-final zero w at = refl
onwards-final (suc n) w at = go (can_go w.held.state) (onwards-final n (step_once w at) at)
  where
    go : (b : Bool) → final (step_once w at) (onwards n (step_once w at) at) ≡ advances n (step_once w at) at
        → final w (pick b (pass (step_once w at) ∷ onwards n (step_once w at) at) []) ≡ pick b (advances n (step_once w at) at) w
    go true ih = ih
    go false ih = refl

onward-final : (w : World) (at : Micros) → final w (onward w at) ≡ advance w at
unfolding advance
onward-final w at = onwards-final w.held.state.queue.count w at

timer-final : (w : World) (at : Micros) → final w (timer_trail w at) ≡ expire w at
unfolding timer_trail expire
timer-final w at = go (due w.held.state.running at)
  where
    u : World
    u = on_held w (given_up w.held)

    v : World
    v = on_held u (ends u.held at (timed_out w.held.state.running.step))

    go : (b : Bool) → final w (pick b (pass u ∷ then_onward v at) []) ≡ pick b (advance v at) w
    go true = onward-final v at
    go false = refl

connected-final : (w : World) (handle : ℕ) (at : Micros) → final w (connected_trail w handle at) ≡ connect w handle at
unfolding connected_trail connect
connected-final w handle at = go (is_connect u.held.state.running.step)
  where
    u : World
    u = met w handle

    go : (b : Bool) → final u (pick b (then_onward (on_held u (ends u.held at Ok)) at) (onward u at)) ≡ advance (on_held w (pick b (ends u.held at Ok) u.held)) at
    go true = onward-final (on_held u (ends u.held at Ok)) at
    go false = onward-final u at

disconnected-final : (w : World) (at : Micros) → final w (disconnected_trail w at) ≡ on_held w (lose w.held at)
unfolding disconnected_trail lose cut_off
disconnected-final w at = go (goes_on u.held.state.running.step)
  where
    u : World
    u = parted w

    gone : Held
    gone = ends u.held at (cut_status u.held.state.running.step)

    -- whatever was sent before stays
    alike : (h : Held) → h.state.bearer.present ≡ false → advance (on_held u h) at ≡ on_held w (advance (silent h) at).held
    alike h e = advance-unlinked (on_held u h) at e ∙ sym (ap (λ (v : World). on_held w v.held) (advance-unlinked (silent h) at e))

    go : (b : Bool) → final u (pick b (onward u at) (then_onward (on_held u gone) at)) ≡ on_held w (advance (silent (pick b u.held gone)) at).held
    go true = onward-final u at ∙ alike u.held refl
    go false = onward-final (on_held u gone) at ∙ alike gone (present-finish u.held at _ _ 0 0)

fragment-final : (w : World) (at : Micros) (start : Bool) (bytes : List ℕ) → final w (fragment_trail w at start bytes) ≡ hear w at start bytes
unfolding fragment_trail hear gather frame_read
fragment-final w at start bytes = go (dropped w.held.state.bearer start) (whole v.held)
  where
    v : World
    v = on_held w (gathered w.held start bytes)

    u : World
    u = on_held v (on_state v.held (with_held v.held.state 0))

    x : World
    x = on_channel u at (frame_channel v.held) (frame_length v.held)

    go : (a b : Bool)
        → final w (pick a [] (pass v ∷ pick b (pass u ∷ record { came = came_on (frame_channel v.held) (payload u.held (frame_length v.held)); to = x } ∷ onward x at) []))
        ≡ pick a w (pick b (advance x at) v)
    go true b = refl
    go false true = onward-final x at
    go false false = refl

-- ---- the law

-- what a refused call leaves: refusal 7 alone changes the state
abbrev pub refused_of : Held → Call → Outcome
refused_of h (batch out at b values) = refused h.state (gate_of h (batch out at b values)) h.store out
refused_of h (timer out at) = refused h.state (gate_of h (timer out at)) h.store out
refused_of h (connected out handle at) = refused h.state (gate_of h (connected out handle at)) h.store out
refused_of h (disconnected at) = refused h.state (gate_of h (disconnected at)) h.store blank
refused_of h (advertising v) = refused h.state (gate_of h (advertising v)) h.store blank
refused_of h (scan_response at a d) = refused h.state (gate_of h (scan_response at a d)) h.store blank
refused_of h (fragment out at start bytes) =
    refused (refusing h.state (gate_of h (fragment out at start bytes))) (gate_of h (fragment out at start bytes)) h.store out
refused_of h (reads r) = refused h.state (gate_of h (reads r)) h.store blank

abbrev pub Told : Held → Call → Type 0
Told h c = does h c ≡ pick (done? h c) (done (final (begins h c) (goes h c))) (refused_of h c)

of-final : (h : Held) (c : Call) (w : World) → final (begins h c) (goes h c) ≡ w
    → pick (done? h c) (done w) (refused_of h c) ≡ pick (done? h c) (done (final (begins h c) (goes h c))) (refused_of h c)
of-final h c w e = ap (λ (v : World). pick (done? h c) (done v) (refused_of h c)) (sym e)

disconnected-law : (h : Held) (at : Micros) → Told h (disconnected at)
unfolding on_disconnected
disconnected-law h at = go (done? h (disconnected at)) ∙ of-final h (disconnected at) (on_held w (lose h at)) (disconnected-final w at)
  where
    w : World
    w = begins h (disconnected at)

    go : (b : Bool) → of_quiet (pick b (quietly (lose h at)) (quietly_refused h.state (gate_of h (disconnected at)) h.store))
        ≡ pick b (done (on_held w (lose h at))) (refused_of h (disconnected at))
    go true = refl
    go false = refl

-- what a radio call does, if it is not refused
fine : (w : World) (x : radio.Outcome) → w.told.sent ≡ unsent → w.told.out ≡ blank → x.refusal ≡ accepted → of_radio x ≡ done (on_held w (record { state = x.state; store = x.store }))
fine w x e f g =
    ap (λ (n : ℕ). record { state = x.state; refusal = n; sent = unsent; store = x.store; out = blank }) g
    ∙ ap (λ (s : Sent). record { state = x.state; refusal = accepted; sent = s; store = x.store; out = blank }) (sym e)
    ∙ ap (λ (o : List ℕ). record { state = x.state; refusal = accepted; sent = w.told.sent; store = x.store; out = o }) (sym f)

acted-fine : (c : Central) (v : radio.Adv) (r : Reports) (s : List ℕ) (i : ℕ) → (radio.acted c v r s i).refusal ≡ accepted
unfolding radio.acted
acted-fine c v r s i = go (radio.due c v)
  where
    go : (b : Bool) → (pick b (radio.requested c v r s) (radio.weighed c v r s i)).refusal ≡ accepted
    go true = refl
    go false = refl

heard-fine : (c : Central) (s : List ℕ) (v : radio.Adv) → (radio.heard c s v).refusal ≡ accepted
unfolding radio.heard
heard-fine c s v = go (ltb i r.count)
  where
    r : Reports
    r = c.reports

    i : ℕ
    i = place_of r (key v.address)

    a : radio.Outcome
    a = radio.acted c v (heard_again r i (radio.line v)) (again_store i v.bytes s) i

    b : radio.Outcome
    b = radio.acted c v (heard_first r (radio.line v)) (first_store r.count v.bytes s) (last_place r.count)

    go : (x : Bool) → (pick x a b).refusal ≡ accepted
    go true = acted-fine c v (heard_again r i (radio.line v)) (again_store i v.bytes s) i
    go false = acted-fine c v (heard_first r (radio.line v)) (first_store r.count v.bytes s) (last_place r.count)

advertising-law : (h : Held) (v : radio.Adv) → Told h (advertising v)
unfolding radio.advertised
advertising-law h v = go (done? h (advertising v))
  where
    w : World
    w = begins h (advertising v)

    n : ℕ
    n = radio.refusal h.state (length h.store) v

    y : Bool → radio.Outcome
    y a = pick a (radio.heard h.state h.store v) (radio.unchanged h.state h.store accepted)

    same : (a : Bool) → (y a).refusal ≡ accepted
    same true = heard-fine h.state h.store v
    same false = refl

    x : Bool → radio.Outcome
    x b = pick b (y (listens h.state.running)) (radio.unchanged h.state h.store n)

    go : (b : Bool) → of_radio (x b) ≡ pick b (done (on_held w (record { state = (x b).state; store = (x b).store }))) (refused h.state n h.store blank)
    go true = fine w (y (listens h.state.running)) refl refl (same (listens h.state.running))
    go false = refl

response-law : (h : Held) (at : Micros) (a : Address) (d : List ℕ) → Told h (scan_response at a d)
unfolding radio.scan_responded
response-law h at a d = go (done? h (scan_response at a d))
  where
    w : World
    w = begins h (scan_response at a d)

    n : ℕ
    n = radio.response_refusal h.state (length h.store) at (length d)

    i : ℕ
    i = place_of h.state.reports (key a)

    y : Bool → radio.Outcome
    y b = pick b (radio.answered h.state h.store at d i) (radio.unchanged h.state h.store accepted)

    same : (b : Bool) → (y b).refusal ≡ accepted
    same true = refl
    same false = refl

    x : Bool → radio.Outcome
    x b = pick b (y (ltb i h.state.reports.count)) (radio.unchanged h.state h.store n)

    go : (b : Bool) → of_radio (x b) ≡ pick b (done (on_held w (record { state = (x b).state; store = (x b).store }))) (refused h.state n h.store blank)
    go true = fine w (y (ltb i h.state.reports.count)) refl refl (same (ltb i h.state.reports.count))
    go false = refl

reads-law : (h : Held) (r : Reader) → Told h (reads r)
reads-law h r = go (gate_of h (reads r)) (done? h (reads r)) refl
  where
    w : World
    w = begins h (reads r)

    go : (n : ℕ) (b : Bool) → eqb n accepted ≡ b → record { state = h.state; refusal = n; sent = unsent; store = h.store; out = blank } ≡ pick b (done w) (refused h.state n h.store blank)
    go n true e = ap (λ (k : ℕ). record { state = h.state; refusal = k; sent = unsent; store = h.store; out = blank }) (eqb-true n accepted e)
    go n false e = refl

-- A call is refused, and leaves what its refusal says, or ends in the last world of its trail.
pub does-law : (h : Held) (c : Call) → Told h c
unfolding push_steps on_timer on_connected on_fragment
does-law h (batch out at b values) = of-final h (batch out at b values) (advance (begins h (batch out at b values)) at) (onward-final (begins h (batch out at b values)) at)
does-law h (timer out at) = of-final h (timer out at) (expire (begins h (timer out at)) at) (timer-final (begins h (timer out at)) at)
does-law h (connected out handle at) = of-final h (connected out handle at) (connect (begins h (connected out handle at)) handle at) (connected-final (begins h (connected out handle at)) handle at)
does-law h (disconnected at) = disconnected-law h at
does-law h (advertising v) = advertising-law h v
does-law h (scan_response at a d) = response-law h at a d
does-law h (fragment out at start bytes) = of-final h (fragment out at start bytes) (hear (begins h (fragment out at start bytes)) at start bytes) (fragment-final (begins h (fragment out at start bytes)) at start bytes)
does-law h (reads r) = reads-law h r

-- the refusal that a call answers with is the gate's
pub refusal_is : (h : Held) (c : Call) → (does h c).refusal ≡ gate_of h c
refusal_is h c = ap (λ (x : Outcome). x.refusal) (does-law h c) ∙ go (done? h c) refl
  where
    told : (refused_of h c).refusal ≡ gate_of h c
    told = by c
      where
        by : (d : Call) → (refused_of h d).refusal ≡ gate_of h d
        by (batch out at b values) = refl
        by (timer out at) = refl
        by (connected out handle at) = refl
        by (disconnected at) = refl
        by (advertising v) = refl
        by (scan_response at a d) = refl
        by (fragment out at start piece) = refl
        by (reads r) = refl

    go : (x : Bool) → done? h c ≡ x → (pick x (done (final (begins h c) (goes h c))) (refused_of h c)).refusal ≡ gate_of h c
    go true e = sym (eqb-true (gate_of h c) accepted e)
    go false e = told
