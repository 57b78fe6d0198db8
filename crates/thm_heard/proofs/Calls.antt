-- Each call that is done brings in what the definition says, before all else, and leaves what it says.
use Prim.Native.Nat.{ℕ, zero, suc, ◌+◌, ◌≤◌, ◌<◌}
use mathlib.Core.Path.{◌≡◌, refl, sym, ap, ◌∙◌, subst}
use mathlib.Core.Bool.{Bool, true, false, not, ◌&&◌, ◌||◌, false≢true}
use mathlib.Core.List.{List, [], ◌∷◌, ◌++◌}
use native.Mathlib.Omega.{arith}
use lib.ListN.{length}
use lib.Dec.{eqb, ltb}
use borrow.Author.Tests.{eqb-true, ltb-true}
use Rattle.bytes_base.specs.Choice.{pick}
use Rattle.bytes_base.specs.Splice.{splice}
use Rattle.lists.specs.Queue.{all}
use Rattle.lists.specs.Blocks.{Valued, bytes}
use Rattle.lists.proofs.ScanLaws.{all_head, all_tail}
use Rattle.lists.proofs.BlockLaws.{drop_past}
use Rattle.state_places.specs.Sizes.{most_steps, value_size, waiting_at, held_at, frame_size}
use Rattle.time.specs.declared.Micros.{Micros}
use Rattle.time.specs.Clock.{latest}
use Rattle.state.specs.Central.{with_queue, with_counters}
use Rattle.state.specs.declared.Bearer.{Bearer}
use Rattle.state.specs.declared.Queued.{Queued}
use Rattle.state.specs.declared.StepResult.{StepResult}
use Rattle.state.specs.declared.Step.{Step}
use Rattle.state.specs.declared.StepStatus.{StepStatus}
use Rattle.state.specs.declared.StepStatus.TheVariants.{Ok}
use Rattle.state_rules.specs.Fit.{most_links}
use Rattle.state_rules.specs.Refusals.{accepted, long_frame}
use Rattle.state_rules.proofs.GateLaws.{passed, passed-quiet}
use Rattle.script_rules.specs.World.{Held, World, on_held, on_state}
use Rattle.script_rules.specs.declared.Placed.{Placed}
use Rattle.script_rules.specs.BatchSteps.{value_len, queued, steps}
use Rattle.script_rules.specs.Batch.{placed_fits}
use Rattle.script_rules.specs.Waiting.{waiting, queueing, refusing, push_one, push_all, take_step}
use Rattle.script_rules.specs.Start.{ends, start}
use Rattle.script_rules.specs.Sound.{Sound}
use Rattle.script_rules.specs.Script.{can_go, step_once}
use Rattle.script_rules.specs.Events.{timed_out, due, given_up, is_connect, goes_on, cut_status}
use Rattle.script_rules.proofs.KeepTurns.{Stays}
use Rattle.script_rules.proofs.KeepStarts.{stays-ends}
use Rattle.script_rules.proofs.KeepEvents.{stays-given-up}
use Rattle.script_rules.proofs.CallBeginLaws.{sound-stays, passed-connected}
use Rattle.script_rules.proofs.CallLaws.{passed-batch}
use Rattle.radio_rules.specs.Hearing as radio
use Rattle.link_rules.specs.Payload.{payload}
use Rattle.link_rules.specs.Channel.{on_channel}
use Rattle.link_rules.specs.Fragment as rules
use Rattle.link_rules.proofs.FragmentLaws.{PassedFragment, passed-fragment}
use Rattle.link_rules.proofs.KeepFrames.{stays-held, stays-gathered}
use Rattle.thm_trail.specs.Calls.{Call, batch, timer, connected, disconnected, advertising, scan_response, fragment, reads, left, gate_of, done?}
use Rattle.thm_trail.specs.Trail.{News, link-came, link-went, Pass, pass, final, met, parted, onwards, onward, then_onward, came_on, timer_trail, connected_trail, disconnected_trail, fragment_trail, begins, goes}
use Rattle.thm_trail.proofs.Ends.{refused_of}
use Rattle.thm_trail.proofs.Hops.{began, meets, parts, still, Hops, more}
use Rattle.thm_trail.proofs.Goes.{Off, good, radio-off, radio-below, response-off, response-below, still-gathered, still-emptied}
use Rattle.thm_accounting.proofs.Books.{Books, sound-hop, books-hop}
use Rattle.thm_accounting.proofs.Accounting.{short-value}
use Rattle.thm_wire.specs.Wire.{channel_of}
use Rattle.thm_heard.specs.Heard.{Air, silence, link, joined, payload_of, held_of, frame_of, holds, hears, emptied, after, news}
use Rattle.thm_heard.proofs.Keeps.{Keeps, keeps-none, keeps_then, keeps-ends, keeps-take, keeps-start}
use Rattle.thm_heard.proofs.Channels.{bears-channel}
use Rattle.thm_heard.proofs.Tied.{Linked, Tied, tied-keeps, linked-bears, dropped-is, linked-gathered, whole_is, channel-is, payload-is, long}
use Rattle.thm_heard.proofs.Brings.{Brings, brings-quiet, brings-first, brings-later, quiet-onward, done-still}

-- the trail brings l in, and leaves a
pub record Hearing (w : World) (ps : List Pass) (l : List News) (a : Air) : Type 0 where
  pub brings : Brings w ps l
  pub tied : Tied a (final w ps).held

-- ---- the script goes on

keeps-onwards : (n : ℕ) (w : World) (at : Micros) → at.0 ≤ latest → Sound 65 w → Keeps w.held (final w (onwards n w at)).held
unfolding onwards
keeps-onwards zero w at t s = keeps-none w.held
keeps-onwards (suc n) w at t s = go (can_go w.held.state) refl (λ s'. keeps-onwards n (step_once w at) at t s')
  where
    v : World
    v = step_once w at

    once : Keeps w.held v.held
    once = keeps_then (keeps-take w.held s.nearly.waits.few) (keeps-start (on_held w (take_step w.held)) at)

    go : (b : Bool) → can_go w.held.state ≡ b → (Sound 65 v → Keeps v.held (final v (onwards n v at)).held) → Keeps w.held (final w (pick b (pass v ∷ onwards n v at) [])).held
    go true e ih = keeps_then once (ih (sound-hop (began w at t e) s))
    go false e ih = keeps-none w.held

keeps-onward : (w : World) (at : Micros) → at.0 ≤ latest → Sound 65 w → Keeps w.held (final w (onward w at)).held
keeps-onward w at t s = keeps-onwards w.held.state.queue.count w at t s

-- a step ends, and the script goes on
sound-ends : (w : World) (at : Micros) (st : StepStatus) → Sound 65 w → Sound 65 (on_held w (ends w.held at st))
sound-ends w at st s = sound-stays 65 w _ s (stays-ends w.held at st s.nearly)

keeps-over : (w : World) (at : Micros) (st : StepStatus) → at.0 ≤ latest → Sound 65 w → let v = on_held w (ends w.held at st) in Keeps w.held (final v (onward v at)).held
keeps-over w at st t s = keeps_then (keeps-ends w.held at st) (keeps-onward (on_held w (ends w.held at st)) at t (sound-ends w at st s))

-- ---- the timer, a link that comes, a link that goes

tied-given-up : (a : Air) (h : Held) → Tied a h → Tied a (given_up h)
tied-given-up silence h t = t
tied-given-up (link handle partial) h t = record { present = t.present; named = t.named; held = t.held; there = t.there }

timer-hearing : (a : Air) (w : World) (at : Micros) → at.0 ≤ latest → Sound 65 w → Tied a w.held → Hearing w (timer_trail w at) [] a
unfolding timer_trail
timer-hearing a w at t s k = go (due w.held.state.running at)
  where
    st : StepStatus
    st = timed_out w.held.state.running.step

    u : World
    u = on_held w (given_up w.held)

    v : World
    v = on_held u (ends u.held at st)

    sound : Sound 65 u
    sound = sound-stays 65 w u.held s (stays-given-up w.held s.nearly)

    go : (b : Bool) → Hearing w (pick b (pass u ∷ then_onward v at) []) [] a
    go true = record { brings = brings-quiet w (pass u ∷ then_onward v at) (refl, (refl, quiet-onward v at)); tied = tied-keeps a (keeps-over u at st t sound) (tied-given-up a w.held k) }
    go false = record { brings = brings-quiet w [] tt; tied = k }

connected-hearing : (w : World) (handle : ℕ) (at : Micros) → at.0 ≤ latest → w.held.state.counters.links < most_links → Sound 65 w
    → Hearing w (connected_trail w handle at) (link-came handle ∷ []) (link handle [])
unfolding connected_trail
connected-hearing w handle at t few s = go (is_connect u.held.state.running.step)
  where
    u : World
    u = met w handle

    v : World
    v = on_held u (ends u.held at Ok)

    p : Pass
    p = record { came = link-came handle ∷ []; to = u }

    sound : Sound 65 u
    sound = sound-hop (meets w handle few) s

    here : Linked handle [] u.held
    here = record { present = refl; named = refl; held = refl; there = refl }

    go : (b : Bool) → Hearing w (p ∷ pick b (then_onward v at) (onward u at)) (link-came handle ∷ []) (link handle [])
    go true = record { brings = brings-first w p (then_onward v at) (refl, quiet-onward v at); tied = tied-keeps (link handle []) (keeps-over u at Ok t sound) here }
    go false = record { brings = brings-first w p (onward u at) (quiet-onward u at); tied = tied-keeps (link handle []) (keeps-onward u at t sound) here }

disconnected-hearing : (w : World) (at : Micros) → at.0 ≤ latest → Sound 65 w → Hearing w (disconnected_trail w at) (link-went ∷ []) silence
unfolding disconnected_trail
disconnected-hearing w at t s = go (goes_on step)
  where
    u : World
    u = parted w

    step : Step
    step = u.held.state.running.step

    v : World
    v = on_held u (ends u.held at (cut_status step))

    p : Pass
    p = record { came = link-went ∷ []; to = u }

    sound : Sound 65 u
    sound = sound-hop (parts w) s

    go : (b : Bool) → Hearing w (p ∷ pick b (onward u at) (then_onward v at)) (link-went ∷ []) silence
    go true = record { brings = brings-first w p (onward u at) (quiet-onward u at); tied = tied-keeps silence (keeps-onward u at t sound) refl }
    go false = record { brings = brings-first w p (then_onward v at) (refl, quiet-onward v at); tied = tied-keeps silence (keeps-over u at (cut_status step) t sound) refl }

-- ---- a batch: its values stand below what is held

keeps-push : (h : Held) (values : List ℕ) (p : Placed) → value_len p ≤ value_size → Keeps h (push_one h values p)
unfolding push_one
keeps-push h values p m = go (ltb n most_steps) refl
  where
    n : ℕ
    n = h.state.queue.count

    go : (x : Bool) → ltb n most_steps ≡ x
        → Keeps h
        (pick x
        (record {
          state = with_queue h.state (queueing h.state.queue (waiting h.state.queue ++ (queued p ∷ [])));
          store = splice h.store (waiting_at n) values p.place (value_len p);
        })
        (record { state = with_counters h.state (refusing h.state.counters); store = h.store }))
    go true e =
        let r : n < most_steps = ltb-true n most_steps e in
        record { bears = record { held = refl; present = refl; closed = refl; handle = refl; options = refl }; above = drop_past h.store (waiting_at n) values p.place (value_len p) held_at (omega (arith, r, m)) }
    go false e = record { bears = record { held = refl; present = refl; closed = refl; handle = refl; options = refl }; above = refl }

pub keeps-pushes : (size : ℕ) (h : Held) (values : List ℕ) (ps : List Placed) → all (placed_fits size) ps ≡ true → Keeps h (push_all h values ps)
unfolding push_all
keeps-pushes size h values [] f = keeps-none h
keeps-pushes size h values (p ∷ ps) f =
    keeps_then (keeps-push h values p (short-value size p (all_head (placed_fits size) p ps f)))
    (keeps-pushes size (push_one h values p) values ps (all_tail (placed_fits size) p ps f))

-- ---- the radio

tied-radio : (a : Air) (h g : Held) → Off h.state g.state → ((n : ℕ) → n ≤ frame_size → bytes g.store held_at n ≡ bytes h.store held_at n) → (h.state.bearer.present ≡ true → h.state.bearer.held ≤ frame_size)
    → Tied a h → Tied a g
tied-radio silence h g o b few t = ap (λ (x : Bearer). x.present) o.bearer ∙ t
tied-radio (link handle partial) h g o b few t =
    record {
      present = ap (λ (x : Bearer). x.present) o.bearer ∙ t.present;
      named = ap (λ (x : Bearer). x.link.handle) o.bearer ∙ t.named;
      held = ap (λ (x : Bearer). x.held) o.bearer ∙ t.held;
      there = b (length partial) (omega (arith, t.held, few t.present)) ∙ t.there;
    }

-- ---- a fragment

third : {w : World} {p r s : Pass} {ps : List Pass} → Hops w (p ∷ r ∷ s ∷ ps) → Sound 65 w → Sound 65 s.to
third (more a (more b (more c d))) s = sound-hop c (sound-hop b (sound-hop a s))

module _ (l : List (Valued StepResult)) (q : List Queued) (h : Held) (out : List ℕ) (at : Micros) (start : Bool) (piece : List ℕ) (p : PassedFragment h.state (length h.store) (length out) at start (length piece)) (k : Books l q h) (sound : Sound 65 (begins h (fragment out at start piece))) where
  abbrev c : Call
  c = fragment out at start piece

  abbrev w : World
  w = begins h c

  abbrev v : World
  v = on_held w (rules.gathered h start piece)

  abbrev u : World
  u = on_held v (on_state v.held (rules.with_held v.held.state 0))

  abbrev n : ℕ
  n = rules.frame_length v.held

  abbrev channel : ℕ
  channel = rules.frame_channel v.held

  abbrev x : World
  x = on_channel u at channel n

  abbrev read : Pass
  read = record { came = came_on channel (payload u.held n); to = x }

  abbrev trail : Bool → Bool → List Pass
  trail d f = pick d [] (pass v ∷ pick f (pass u ∷ read ∷ onward x at) [])

  module _ (few : rules.held_before h.state.bearer start + length piece ≤ frame_size) where
    first : Stays h v.held
    first = stays-gathered h start piece few sound.nearly

    second : Stays v.held u.held
    second = stays-held v.held 0 v.held.store (omega arith) refl first.nearly

    -- its bytes are held, a frame is taken from them: the script stands still
    brings-frame : Brings w (trail false true) read.came
    brings-frame =
        let a = still-gathered h start piece first in
        let b = still-emptied v.held second in
        let y = still w v.held a in
        brings-later w v (pass u ∷ read ∷ onward x at) _ (done-still l q w v.held sound k a)
        (brings-later v u (read ∷ onward x at) _ (done-still _ q v u.held (sound-hop y sound) (books-hop l q y sound k) b)
        (brings-first u read (onward x at) (quiet-onward x at)))

  -- without a link
  unheard : h.state.bearer.present ≡ false → Hearing w (goes h c) [] silence
  unfolding fragment_trail
  unheard e = go h.state.bearer.present e
    where
      go : (b : Bool) → b ≡ false → Hearing w (trail (not b || (not start && eqb h.state.bearer.held 0)) (rules.whole v.held)) [] silence
      go true f = absurd (false≢true (sym f))
      go false f = record { brings = brings-quiet w [] tt; tied = e }

  -- on a link
  module _ (handle : ℕ) (partial : List ℕ) (t : Linked handle partial h) where
    abbrev b : List ℕ
    b = joined partial start piece

    on-link : Hops w (goes h c) → Hearing w (goes h c) (hears (link handle partial) start piece) (holds (link handle partial) start piece)
    unfolding fragment_trail
    on-link = subst (λ (d : Bool). Hops w (trail (rules.dropped h.state.bearer start) (rules.whole v.held)) → Hearing w (trail (rules.dropped h.state.bearer start) (rules.whole v.held)) (pick d [] (frame_of b)) (link handle (pick d partial (held_of b)))) (dropped-is t start) (outer (rules.dropped h.state.bearer start) refl)
      where
        inner : rules.dropped h.state.bearer start ≡ false → (f : Bool) → rules.whole v.held ≡ f → Hops w (trail false f)
            → Hearing w (trail false f) (pick f (came_on (channel_of b) (payload_of b)) []) (link handle (pick f [] b))
        inner e true g hops =
            let few = p.room e in
            let z = linked-gathered t start piece p.shared.store few in
            let s = (first few).store ∙ p.shared.store in
            let i = sym (whole_is z s) ∙ g in
            let same : read.came ≡ came_on (channel_of b) (payload_of b) =
            ap (λ (m : ℕ). came_on m (payload v.held n)) (channel-is z s (long z s i)) ∙ ap (came_on (channel_of b)) (payload-is z s i) in
            let none-held : Linked handle [] u.held = record { present = z.present; named = z.named; held = refl; there = refl } in
            record {
              brings = subst (λ (m : List News). Brings w (trail false true) m) same (brings-frame few);
              tied = tied-keeps (link handle []) (keeps-onward x at p.shared.time (third hops sound)) (linked-bears (bears-channel u at channel n) none-held);
            }
        inner e false g hops =
            record { brings = brings-quiet w (pass v ∷ []) (refl, tt); tied = linked-gathered t start piece p.shared.store (p.room e) }

        outer : (d : Bool) → rules.dropped h.state.bearer start ≡ d → Hops w (trail d (rules.whole v.held))
            → Hearing w (trail d (rules.whole v.held)) (pick d [] (frame_of b)) (link handle (pick d partial (held_of b)))
        outer true e hops = record { brings = brings-quiet w [] tt; tied = t }
        outer false e hops =
            let few = p.room e in
            let z = linked-gathered t start piece p.shared.store few in
            subst (λ (f : Bool). Hearing w (trail false (rules.whole v.held)) (pick f (came_on (channel_of b) (payload_of b)) []) (link handle (pick f [] b)))
            (whole_is z ((first few).store ∙ p.shared.store)) (inner e (rules.whole v.held) refl hops)

-- ---- every call that is done

pub hearing : (a : Air) (l : List (Valued StepResult)) (q : List Queued) (h : Held) (c : Call) → done? h c ≡ true → Books l q h → Tied a h
    → Hearing (begins h c) (goes h c) (news a c accepted) (after a c accepted)
hearing a l q h (batch out at b values) e k t =
    let d = batch out at b values in
    let p = passed-batch h.state (length h.store) (length out) at b (length values) (eqb-true (gate_of h d) 0 e) in
    let g = good h d e k.sizes in
    record {
      brings = brings-quiet (begins h d) (goes h d) (quiet-onward (begins h d) at);
      tied = tied-keeps a (keeps_then (keeps-pushes (length values) h values (steps b) p.fit) (keeps-onward (begins h d) at p.shared.time g.sound)) t;
    }
hearing a l q h (timer out at) e k t =
    let p = passed h.state (length h.store) (length out) at (eqb-true (gate_of h (timer out at)) 0 e) in
    timer-hearing a (begins h (timer out at)) at p.time (good h (timer out at) e k.sizes).sound t
hearing a l q h (connected out handle at) e k t =
    let p = passed-connected h.state (length h.store) (length out) at (eqb-true (gate_of h (connected out handle at)) 0 e) in
    connected-hearing (begins h (connected out handle at)) handle at p.shared.time p.links (good h (connected out handle at) e k.sizes).sound
hearing a l q h (disconnected at) e k t =
    let p = passed-quiet h.state (length h.store) at (eqb-true (gate_of h (disconnected at)) 0 e) in
    disconnected-hearing (begins h (disconnected at)) at p.time (good h (disconnected at) e k.sizes).sound
hearing a l q h (advertising v) e k t =
    let d = advertising v in
    let x = radio.advertised h.state h.store v in
    record {
      brings = brings-quiet (begins h d) (goes h d) (refl, tt);
      tied = tied-radio a h (record { state = x.state; store = x.store }) (radio-off h.state h.store v) (λ n m. radio-below h.state h.store v held_at n (omega (arith, m)))
          (good h d e k.sizes).sound.nearly.linked.held t;
    }
hearing a l q h (scan_response at who r) e k t =
    let d = scan_response at who r in
    let x = radio.scan_responded h.state h.store at who r in
    record {
      brings = brings-quiet (begins h d) (goes h d) (refl, tt);
      tied = tied-radio a h (record { state = x.state; store = x.store }) (response-off h.state h.store at who r) (λ n m. response-below h.state h.store at who r held_at n (omega (arith, m)))
          (good h d e k.sizes).sound.nearly.linked.held t;
    }
hearing silence l q h (fragment out at start piece) e k t =
    let d = fragment out at start piece in
    let p = passed-fragment h.state (length h.store) (length out) at start (length piece) (eqb-true (gate_of h d) 0 e) in
    unheard l q h out at start piece p k (good h d e k.sizes).sound t
hearing (link handle partial) l q h (fragment out at start piece) e k t =
    let d = fragment out at start piece in
    let p = passed-fragment h.state (length h.store) (length out) at start (length piece) (eqb-true (gate_of h d) 0 e) in
    let g = good h d e k.sizes in
    on-link l q h out at start piece p k g.sound handle partial t g.hops
hearing a l q h (reads r) e k t = record { brings = brings-quiet (begins h (reads r)) [] tt; tied = t }

-- ---- a call that is refused

pub news-refused : (a : Air) (c : Call) (why : ℕ) → eqb why accepted ≡ false → news a c why ≡ []
news-refused a (batch out at b values) why e = refl
news-refused a (timer out at) why e = refl
news-refused a (connected out handle at) why e = ap (λ (x : Bool). pick x (link-came handle ∷ []) []) e
news-refused a (disconnected at) why e = ap (λ (x : Bool). pick x (link-went ∷ []) []) e
news-refused a (advertising v) why e = refl
news-refused a (scan_response at who r) why e = refl
news-refused a (fragment out at start piece) why e = ap (λ (x : Bool). pick x (hears a start piece) []) e
news-refused a (reads r) why e = refl

-- refusal 7 empties what is held
tied-emptied : (a : Air) (h : Held) → Tied a h → Tied (emptied a) (on_state h (rules.with_held h.state 0))
tied-emptied silence h t = t
tied-emptied (link handle partial) h t = record { present = t.present; named = t.named; held = refl; there = refl }

pub tied-refused : (a : Air) (h : Held) (c : Call) → done? h c ≡ false → Tied a h → Tied (after a c (gate_of h c)) (left (refused_of h c))
tied-refused a h (batch out at b values) e t = t
tied-refused a h (timer out at) e t = t
tied-refused a h (connected out handle at) e t = subst (λ (x : Bool). Tied (pick x (link handle []) a) h) (sym e) t
tied-refused a h (disconnected at) e t = subst (λ (x : Bool). Tied (pick x silence a) h) (sym e) t
tied-refused a h (advertising v) e t = t
tied-refused a h (scan_response at who r) e t = t
tied-refused a h (fragment out at start piece) e t = rw e (go (eqb (gate_of h (fragment out at start piece)) long_frame))
  where
    go : (y : Bool) → Tied (pick y (emptied a) a) (on_state h (pick y (rules.with_held h.state 0) h.state))
    go true = tied-emptied a h t
    go false = t
tied-refused a h (reads r) e t = t
