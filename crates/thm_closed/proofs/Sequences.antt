-- Over every sequence of calls from a fresh state, of any options, with any store, refused calls included: the bearer stands as the events say.
use Prim.Native.Nat.{ℕ, ◌≤◌}
use mathlib.Core.Path.{◌≡◌, refl, sym, ap, ap₂, ◌∙◌, subst}
use mathlib.Core.Bool.{Bool, true, false, not, ◌&&◌, ◌||◌, false≢true}
use mathlib.Core.List.{List, [], ◌∷◌, ◌++◌, append-nil, append_assoc}
use lib.ListN.{length}
use lib.Dec.{eqb, leb}
use borrow.Author.Tests.{eqb-true}
use Rattle.bytes_base.specs.Choice.{pick}
use Rattle.bytes_base.proofs.TestLaws.{both}
use Rattle.lists.specs.Blocks.{Valued}
use Rattle.time.specs.declared.Micros.{Micros}
use Rattle.time.specs.Clock.{latest}
use Rattle.state.specs.Fresh.{fresh_central}
use Rattle.state.specs.declared.Bearer.{Bearer}
use Rattle.state.specs.declared.Options.{Options}
use Rattle.state.specs.declared.Queued.{Queued}
use Rattle.state.specs.declared.Step.{Step}
use Rattle.state.specs.declared.Step.TheVariants.{Scan, Connect, ExchangeMtu, DiscoverServices, DiscoverCharacteristics, Subscribe, Write, Read, WaitNotification, Wait, Disconnect, Capture, CaptureSecrets}
use Rattle.state.specs.declared.StepResult.{StepResult}
use Rattle.state.specs.declared.StepStatus.{StepStatus}
use Rattle.state_rules.specs.Fit.{awaits}
use Rattle.state_rules.specs.Refusals.{long_frame}
use Rattle.state_rules.specs.Steps.{att_step}
use Rattle.script_rules.specs.World.{Held, World, on_held}
use Rattle.script_rules.specs.Start.{ends}
use Rattle.script_rules.specs.BatchSteps.{steps}
use Rattle.script_rules.specs.Sound.{Sound}
use Rattle.script_rules.specs.Outcome.{Outcome, done}
use Rattle.script_rules.specs.Events.{timed_out, due, given_up}
use Rattle.script_rules.proofs.KeepTurns.{of-fit}
use Rattle.script_rules.proofs.CallBeginLaws.{may-begin}
use Rattle.script_rules.proofs.CallLaws.{passed-batch}
use Rattle.link_rules.specs.Fragment as link
use Rattle.thm_trail.specs.Calls.{Call, batch, timer, connected, disconnected, advertising, scan_response, fragment, reads, does, left, fresh, run, gate_of, done?}
use Rattle.thm_trail.specs.Trail.{pass, final, then_onward, onward, timer_trail, begins, goes}
use Rattle.thm_trail.specs.Log.{gave, given_in, given_by, log, room_for, takes_in, taken}
use Rattle.thm_trail.proofs.Ends.{refused_of, does-law}
use Rattle.thm_trail.proofs.Hops.{Hop, ended, still, onward-hops}
use Rattle.thm_trail.proofs.Goes.{is_timer, good, late, still-given-up}
use Rattle.thm_wire.specs.Wire.{Frame, sent_in, sent_along, sent_by, frames_of}
use Rattle.thm_wire.proofs.OnWire.{on-wire}
use Rattle.thm_accounting.proofs.Books.{Books, sound-hop, books-hop}
use Rattle.thm_accounting.proofs.Accounting.{books, books-fresh, books-begins, books-call, put_all, taken-snoc}
use Rattle.thm_requests.specs.Events.{Event}
use Rattle.thm_requests.proofs.Along.{events_in, events_along, events_by, events}
use Rattle.thm_requests.proofs.Asks.{itself}
use Rattle.thm_requests.proofs.Good.{still-gave, ended-badly}
use Rattle.thm_heard.specs.Heard.{silence}
use Rattle.thm_heard.specs.Events as heard
use Rattle.thm_heard.proofs.Keeps.{keeps-ends}
use Rattle.thm_heard.proofs.Calls.{keeps-pushes}
use Rattle.thm_heard.proofs.Sequences.{same-events}
use Rattle.thm_closed.specs.Closed.{is_timeout, Standing, untried, standing, finished, frames_in, Silent, Unread, Spent}
use Rattle.thm_closed.proofs.Stands.{and-false, pending_of, Stands, awaits-is, over-pending, standing-append}
use Rattle.thm_closed.proofs.Hops.{silent-as, silent-append, unread-none, unread-append, unread-badly, after-ended, still_after, Done, through}

-- ---- a timer call

-- a step that sends requests is late at its deadline
late-timeout : (s : Step) → att_step s ≡ true → is_timeout (timed_out s) ≡ true
late-timeout (Scan ms) e = absurd (false≢true e)
late-timeout (Connect target interval latency timeout ms) e = absurd (false≢true e)
late-timeout (ExchangeMtu mtu) e = refl
late-timeout DiscoverServices e = refl
late-timeout (DiscoverCharacteristics service) e = refl
late-timeout (Subscribe characteristic indicate) e = refl
late-timeout (Write characteristic response) e = refl
late-timeout (Read characteristic) e = refl
late-timeout (WaitNotification characteristic ms age) e = absurd (false≢true e)
late-timeout (Wait ms) e = absurd (false≢true e)
late-timeout Disconnect e = absurd (false≢true e)
late-timeout (Capture enabled) e = absurd (false≢true e)
late-timeout (CaptureSecrets secrets) e = absurd (false≢true e)

-- closed before, or by this end: as the events say
closes : (strict before att awaited timeout : Bool) → (awaited ≡ true → att ≡ true) → (awaited ≡ true → timeout ≡ true)
    → ((strict && before) || (strict && (att && awaited))) ≡ (strict && (before || (timeout && awaited)))
closes true true a w t f g = refl
closes true false a false t f g = and-false a ∙ sym (and-false t)
closes true false a true t f g = ap (λ (b : Bool). b && true) (f refl ∙ sym (g refl))
closes false b a w t f g = refl

module _ (o : Options) (s : Standing) (l : List (Valued StepResult)) (q : List Queued) (w : World) (at : Micros) (k : Sound 65 w) (b : Books l q w.held)
    (i : Stands o s w.held) where
  abbrev u : World
  u = on_held w (given_up w.held)

  abbrev st : StepStatus
  st = timed_out w.held.state.running.step

  abbrev v : World
  v = on_held u (ends u.held at st)

  first : Hop w (pass u)
  first = still w u.held (still-given-up w.held k.nearly)

  abbrev given : List (Valued StepResult)
  given = l ++ gave w.held u.held

  sound : Sound 65 u
  sound = sound-hop first k

  kept : Books given q u.held
  kept = books-hop l q first k b

  second : Hop u (pass v)
  second = ended u at st (late u)

  -- what stands after both
  abbrev now : Standing
  now = record { awaited = 0; finished = s.finished || (is_timeout st && not (eqb s.awaited 0)) }

  module _ (runs : w.held.state.running.active ≡ true) where
    stands-now : Stands o now v.held
    stands-now =
        let c = w.held.state in
        let bears = (keeps-ends u.held at st).bears in
        let a = awaits-is s.awaited c.bearer i.awaited in
        record {
          options = bears.options ∙ i.options;
          awaited = sym (over-pending u.held at st runs);
          closed =
              bears.closed
              ∙ ap₂ (λ (x : Bool) (y : Options). x || (y.strict && (att_step c.running.step && awaits c.bearer))) i.closed i.options
              ∙ closes o.strict s.finished (att_step c.running.step) (awaits c.bearer) (is_timeout st) k.nearly.asks.att
              (λ e. late-timeout c.running.step (k.nearly.asks.att e))
              ∙ ap (λ (x : Bool). o.strict && (s.finished || (is_timeout st && x))) (sym a);
          quiet = λ e f. refl;
        }

    events-now : standing s (events_in w (pass u) ++ events_in u (pass v)) ≡ now
    events-now =
        standing-append s (events_in w (pass u)) (events_in u (pass v))
        ∙ ap (λ (t : Standing). standing t (events_in u (pass v))) (still_after l q s w u.held (still-given-up w.held k.nearly) k b)
        ∙ after-ended given q s u at st sound kept runs

    timer-done : at.0 ≤ latest → Done o q s w (pass u ∷ then_onward v at)
    timer-done t =
        let hs = onward-hops v at t in
        let r = through o now (given ++ gave u.held v.held) q hs.hops hs.steady (sound-hop second sound)
        (books-hop given q second sound kept) stands-now in
        let rest = events_along v (onward v at) in
        let e : standing s (events_along w (pass u ∷ then_onward v at)) ≡ standing now rest =
        ap (standing s) (sym (append_assoc (events_in w (pass u)) (events_in u (pass v)) rest))
        ∙ standing-append s (events_in w (pass u) ++ events_in u (pass v)) rest
        ∙ ap (λ (x : Standing). standing x rest) events-now in
        let same : (standing s (events_along w (pass u ∷ then_onward v at))).finished ≡ true → (standing now rest).finished ≡ true =
        λ c. sym (ap (λ (z : Standing). z.finished) e) ∙ c in
        record {
          stands = subst (λ (z : Standing). Stands o z (final v (onward v at)).held) (sym e) r.done.stands;
          silent = λ a c.
              silent-append (sent_in w u) (sent_in u v ++ sent_along v (onward v at)) (silent-as w u (itself w.told))
              (silent-append (sent_in u v) (sent_along v (onward v at)) (silent-as u v (itself u.told)) (r.done.silent a (same c)));
          unread = λ a c.
              unread-append q (gave w.held u.held) (gave u.held v.held ++ given_in v (onward v at))
              (unread-none q (gave w.held u.held) (still-gave l q w u.held k b (still-given-up w.held k.nearly)))
              (unread-append q (gave u.held v.held) (given_in v (onward v at))
              (unread-badly given q second sound kept (λ y f. ended-badly given q u at st y (late u) sound kept f)) (r.done.unread a (same c)));
        }

  pub through-timer : at.0 ≤ latest → Done o q s w (timer_trail w at)
  unfolding timer_trail
  through-timer t = go (due w.held.state.running at) refl
    where
      go : (x : Bool) → due w.held.state.running at ≡ x → Done o q s w (pick x (pass u ∷ then_onward v at) [])
      go true e =
          let r = w.held.state.running in
          timer-done (both r.active (r.dated && leb r.deadline.0 at.0) e).0 t
      go false e = record { stands = i; silent = λ a c. tt; unread = λ a c. tt }

-- ---- calls

stands-begins : (o : Options) (s : Standing) (l : List (Valued StepResult)) (q : List Queued) (h : Held) (c : Call) → done? h c ≡ true → Books l q h
    → Stands o s h → Stands o s (begins h c).held
stands-begins o s l q h (batch out at b values) e k i =
    let p = passed-batch h.state (length h.store) (length out) at b (length values) (eqb-true (gate_of h (batch out at b values)) 0 e) in
    let x = put_all (length values) h values (steps b) p.fit k.sizes.queue (of-fit h.state p.shared.fit).waits.few in
    record {
      options = (keeps-pushes (length values) h values (steps b) p.fit).bears.options ∙ i.options;
      awaited = i.awaited ∙ sym (ap pending_of x.bearer);
      closed = ap (λ (y : Bearer). y.closed) x.bearer ∙ i.closed;
      quiet = i.quiet;
    }
stands-begins o s l q h (timer out at) e k i = i
stands-begins o s l q h (connected out handle at) e k i = i
stands-begins o s l q h (disconnected at) e k i = i
stands-begins o s l q h (advertising v) e k i = i
stands-begins o s l q h (scan_response at a d) e k i = i
stands-begins o s l q h (fragment out at start piece) e k i = i
stands-begins o s l q h (reads r) e k i = i

stands-refused : (o : Options) (s : Standing) (h : Held) (c : Call) → Stands o s h → Stands o s (left (refused_of h c))
stands-refused o s h (batch out at b values) i = i
stands-refused o s h (timer out at) i = i
stands-refused o s h (connected out handle at) i = i
stands-refused o s h (disconnected at) i = i
stands-refused o s h (advertising v) i = i
stands-refused o s h (scan_response at a d) i = i
stands-refused o s h (fragment out at start piece) i = go (eqb (gate_of h (fragment out at start piece)) long_frame)
  where
    go : (b : Bool) → Stands o s (record { state = pick b (link.with_held h.state 0) h.state; store = h.store })
    go true = record { options = i.options; awaited = i.awaited; closed = i.closed; quiet = i.quiet }
    go false = i
stands-refused o s h (reads r) i = i

-- q was taken in before
pub record After (o : Options) (q : List Queued) (s : Standing) (h : Held) (c : Call) : Type 0 where
  pub stands : Stands o (standing s (events_by h c)) (left (does h c))
  pub silent : o.strict ≡ true → (standing s (events_by h c)).finished ≡ true → Silent (frames_of (sent_by h c))
  pub unread : o.strict ≡ true → (standing s (events_by h c)).finished ≡ true → Unread (q ++ takes_in h c) (given_by h c)

module _ (o : Options) (s : Standing) (l : List (Valued StepResult)) (q : List Queued) (h : Held) (b : Books l q h) (i : Stands o s h) where
  module _ (c : Call) (e : done? h c ≡ true) where
    abbrev all : List Queued
    all = q ++ room_for h c

    by-hops : is_timer c ≡ false → Done o all s (begins h c) (goes h c)
    by-hops n =
        let g = good h c e b.sizes in
        (through o s l all g.hops (g.steady n) g.sound (books-begins l q h c e b) (stands-begins o s l q h c e b i)).done

  done-call : (c : Call) → done? h c ≡ true → Done o (q ++ room_for h c) s (begins h c) (goes h c)
  done-call (batch out at x values) e = by-hops (batch out at x values) e refl
  done-call (timer out at) e =
      let p = may-begin h.state h.store out at (eqb-true (gate_of h (timer out at)) 0 e) in
      through-timer o s l (q ++ []) (begins h (timer out at)) at p.0 (books-begins l q h (timer out at) e b) i p.1
  done-call (connected out handle at) e = by-hops (connected out handle at) e refl
  done-call (disconnected at) e = by-hops (disconnected at) e refl
  done-call (advertising v) e = by-hops (advertising v) e refl
  done-call (scan_response at a d) e = by-hops (scan_response at a d) e refl
  done-call (fragment out at start piece) e = by-hops (fragment out at start piece) e refl
  done-call (reads r) e = by-hops (reads r) e refl

  pub after_call : (c : Call) → After o q s h c
  after_call c =
      record {
        stands = subst (λ (y : Outcome). Stands o (standing s (events_by h c)) (left y)) (sym (does-law h c)) (stood (done? h c) refl);
        silent = mutes (done? h c) refl;
        unread = bad (done? h c) refl;
      }
    where
      stood : (y : Bool) → done? h c ≡ y → Stands o (standing s (pick y (events_along (begins h c) (goes h c)) []))
          (left (pick y (done (final (begins h c) (goes h c))) (refused_of h c)))
      stood true f = (done-call c f).stands
      stood false f = stands-refused o s h c i

      mutes : (y : Bool) → done? h c ≡ y → o.strict ≡ true → (standing s (pick y (events_along (begins h c) (goes h c)) [])).finished ≡ true
          → Silent (frames_of (pick y (sent_along (begins h c) (goes h c)) []))
      mutes true f = (done-call c f).silent
      mutes false f = λ a g. tt

      bad : (y : Bool) → done? h c ≡ y → o.strict ≡ true → (standing s (pick y (events_along (begins h c) (goes h c)) [])).finished ≡ true
          → Unread (q ++ pick y (room_for h c) []) (pick y (given_in (begins h c) (goes h c)) [])
      bad true f = (done-call c f).unread
      bad false f = λ a g. tt

-- ---- a sequence of calls

stands-run : (o : Options) (s : Standing) (l : List (Valued StepResult)) (q : List Queued) (h : Held) (cs : List Call) → Books l q h → Stands o s h
    → Stands o (standing s (events h cs)) (run h cs)
stands-run o s l q h [] b i = i
stands-run o s l q h (c ∷ cs) b i =
    let g = left (does h c) in
    subst (λ (t : Standing). Stands o t (run g cs)) (sym (standing-append s (events_by h c) (events g cs)))
    (stands-run o (standing s (events_by h c)) (l ++ given_by h c) (q ++ takes_in h c) g cs (books-call l q h c b) (after_call o s l q h b i c).stands)

events-snoc : (h : Held) (cs : List Call) (c : Call) → events h (cs ++ (c ∷ [])) ≡ events h cs ++ events_by (run h cs) c
events-snoc h [] c = append-nil (events_by h c)
events-snoc h (d ∷ cs) c =
    let g = left (does h d) in
    ap (λ (es : List Event). events_by h d ++ es) (events-snoc g cs c) ∙ sym (append_assoc (events_by h d) (events g cs) (events_by (run g cs) c))

-- ---- from a fresh state

module _ (options : Options) (store : List ℕ) (cs : List Call) where
  abbrev start : Held
  start = fresh options store

  stood-fresh : Stands options untried start
  unfolding fresh_central
  stood-fresh = record { options = refl; awaited = refl; closed = sym (and-false options.strict); quiet = λ a c. refl }

  stood : Stands options (standing untried (events start cs)) (run start cs)
  stood = stands-run options untried [] [] start cs (books-fresh options store) stood-fresh

  -- the bearer is closed in strict mode, where the events say that it is finished
  pub closed-so : (run start cs).state.bearer.closed ≡ (options.strict && finished (heard.events silence start cs))
  closed-so = stood.closed ∙ ap (λ (es : List Event). options.strict && finished es) (same-events options store cs)

  -- a call after which it is finished
  pub spent : options.strict ≡ true → (c : Call) → finished (heard.events silence start (cs ++ (c ∷ []))) ≡ true
      → Spent (taken start (cs ++ (c ∷ []))) (given_by (run start cs) c) (frames_in (does (run start cs) c))
  spent strict c e =
      let h = run start cs in
      let a = after_call options (standing untried (events start cs)) (log start cs) (taken start cs) h (books options store cs) stood c in
      let f : (standing (standing untried (events start cs)) (events_by h c)).finished ≡ true =
      sym (ap (λ (t : Standing). t.finished) (standing-append untried (events start cs) (events_by h c)))
      ∙ sym (ap finished (events-snoc start cs c))
      ∙ ap finished (same-events options store (cs ++ (c ∷ [])))
      ∙ e in
      record {
        silent = subst (λ (l : List Frame). Silent l) (sym (on-wire options store cs c).parsed) (a.silent strict f);
        unread = subst (λ (z : List Queued). Unread z (given_by h c)) (taken-snoc start cs c) (a.unread strict f);
      }
