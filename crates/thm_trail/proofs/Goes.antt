-- The trail of every call that is not refused is made of hops, and begins where a call may begin.
use Prim.Native.Nat.{ℕ, ◌+◌, ◌≤◌, ◌<◌}
use mathlib.Core.Path.{◌≡◌, refl, sym, ap, ◌∙◌}
use mathlib.Core.Bool.{Bool, true, false, ◌&&◌, false≢true}
use mathlib.Core.List.{List, [], ◌∷◌}
use native.Mathlib.Omega.{arith}
use lib.ListN.{length, length-replicate}
use lib.Dec.{eqb, ltb}
use borrow.Author.Tests.{eqb-true}
use Rattle.bytes_base.specs.Choice.{pick}
use Rattle.state_places.specs.Sizes.{most_keys, store_size, output_size, held_at, frame_size, report_at, response_at}
use Rattle.lists.specs.Blocks.{bytes}
use Rattle.lists.proofs.BlockLaws.{bytes_below, stored-below}
use Rattle.time.specs.declared.Micros.{Micros}
use Rattle.time.specs.Clock.{latest}
use Rattle.state.specs.Central.{Central}
use Rattle.state.specs.declared.Reports.{Reports}
use Rattle.state.specs.declared.Address.{Address}
use Rattle.state.specs.declared.Step.{Step}
use Rattle.state.specs.declared.StepStatus.{StepStatus}
use Rattle.state.specs.declared.StepStatus.TheVariants.{Ok, Timeout, Disconnected}
use Rattle.std.specs.Prelude.{None}
use Rattle.state_kinds.specs.Kinds.{is_disconnect}
use Rattle.state_rules.specs.Refusals.{accepted, keys_full}
use Rattle.state_rules.specs.Fit.{most_links}
use Rattle.state_rules.specs.Facts.{Fit}
use Rattle.state_rules.specs.Gate.{gate_quiet}
use Rattle.state_rules.proofs.GateLaws.{passed-quiet, passed-reader}
use Rattle.script_rules.specs.World.{Held, World, on_held, on_state}
use Rattle.script_rules.specs.Start.{ends}
use Rattle.script_rules.specs.Nearly.{Nearly}
use Rattle.script_rules.specs.Sound.{Sound}
use Rattle.script_rules.proofs.KeepTurns.{Stays, of-fit}
use Rattle.script_rules.proofs.KeepEvents.{stays-given-up}
use Rattle.script_rules.proofs.CallBeginLaws.{begins-sound, sound-stays, may-begin, may-connect}
use Rattle.script_rules.proofs.CallLaws.{passed-batch, pushed-sound}
use Rattle.script_rules.specs.Events.{timed_out, due, given_up, is_connect, goes_on, cut_status}
use Rattle.radio_rules.specs.Hearing as radio
use Rattle.radio_rules.proofs.Keeps as radio-keeps
use Rattle.radio_rules.proofs.HearingLaws as radio-laws
use Rattle.adv_reports.specs.Reports.{report_part, heard_again, again_store, heard_first, first_store, last_place, place_of}
use Rattle.adv_reports.specs.Key.{key}
use Rattle.radio_match.specs.Matching.{listens}
use Rattle.link_rules.specs.Payload.{payload}
use Rattle.link_rules.specs.Channel.{on_channel}
use Rattle.link_rules.proofs.KeepChannel.{sound-channel}
use Rattle.link_rules.specs.Fragment.{with_held, dropped, held_before, gathered, frame_length, frame_channel, whole}
use Rattle.link_rules.proofs.FragmentLaws.{PassedFragment, passed-fragment}
use Rattle.link_rules.proofs.KeepFrames.{comes-linked, whole-short, stays-held, stays-gathered}
use Rattle.thm_trail.specs.Calls.{timer_us, Call, batch, timer, connected, disconnected, advertising, scan_response, fragment, reads, blank, time_of, gate_of, done?}
use Rattle.thm_trail.specs.Trail.{Pass, pass, met, parted, then_onward, onward, came_on, timer_trail, connected_trail, disconnected_trail, fragment_trail, begins, goes}
use Rattle.thm_trail.proofs.Hops.{Sizes, NotWell, Still, Open, ended, meets, parts, still, acted, Hops, none, more, AllAt, Steadily, AllSteady, HopsAt, stop, hop, onward-hops}

abbrev pub is_timer : Call → Bool
is_timer (batch out at b values) = false
is_timer (timer out at) = true
is_timer (connected out handle at) = false
is_timer (disconnected at) = false
is_timer (advertising v) = false
is_timer (scan_response at a d) = false
is_timer (fragment out at start bytes) = false
is_timer (reads r) = false

-- what a call that is not refused begins with, and goes through
pub record Good (h : Held) (c : Call) : Type 0 where
  pub sound : Sound 65 (begins h c)
  pub hops : Hops (begins h c) (goes h c)
  -- each at the call's time
  pub times : AllAt (time_of c) hops
  -- a timer call alone may close the bearer
  pub steady : is_timer c ≡ false → AllSteady hops

-- the trail, with its time
of-hops : {h : Held} {c : Call} → Sound 65 (begins h c) → HopsAt (time_of c) (begins h c) (goes h c) → Good h c
of-hops s x = record { sound = s; hops = x.hops; times = x.times; steady = λ e. x.steady }

-- ---- neither a Read nor a WaitNotification ends well by the clock, by a new link or by a lost one

not-timeout : Timeout ≡ Ok → ⊥
not-timeout z = let y : ◌≡◌ {A = ℕ} 0 1 = cc in omega arith

pub late : (w : World) → NotWell w (timed_out w.held.state.running.step)
late w = record { read = λ u e f. not-timeout (sym (ap timed_out e) ∙ f); wait = λ u ms age e f. not-timeout (sym (ap timed_out e) ∙ f) }

not-disconnected : Disconnected ≡ Ok → ⊥
not-disconnected z = let y : ◌≡◌ {A = ℕ} 0 1 = cc in omega arith

cut : (w : World) → NotWell w (cut_status w.held.state.running.step)
cut w = record { read = λ u e f. not-disconnected (sym (ap cut_status e) ∙ f); wait = λ u ms age e f. not-disconnected (sym (ap cut_status e) ∙ f) }

greeting : (w : World) → is_connect w.held.state.running.step ≡ true → NotWell w Ok
greeting w c = record { read = λ u e f. false≢true (sym (ap is_connect e) ∙ c); wait = λ u ms age e f. false≢true (sym (ap is_connect e) ∙ c) }

-- ---- the trails

-- the bearer is given up, or not
pub still-given-up : (h : Held) → Nearly h.state → Still h (given_up h)
still-given-up h f =
    let s = stays-given-up h f in
    record {
      counters = refl;
      queue = refl;
      running = refl;
      results = refl;
      link = refl;
      present = refl;
      notifications = refl;
      below = λ a n p. refl;
      store = refl;
      nearly = s.nearly;
      sizes = λ z. record { queue = z.queue; results = z.results; reports = z.reports; keys = z.keys };
    }

ok-not-timeout : Ok ≡ Timeout → ⊥
ok-not-timeout z = not-timeout (sym z)

cut-not-timeout : (s : Step) → cut_status s ≡ Timeout → ⊥
cut-not-timeout s = go (is_disconnect s)
  where
    go : (b : Bool) → pick b Ok Disconnected ≡ Timeout → ⊥
    go true z = ok-not-timeout z
    go false z = let y : ◌≡◌ {A = ℕ} 0 1 = cc in omega arith

record TimerHops (at : Micros) (w : World) (ps : List Pass) : Type 0 where
  hops : Hops w ps
  times : AllAt at hops

timer-hops : (w : World) (at : Micros) → at.0 ≤ latest → Nearly w.held.state → TimerHops at w (timer_trail w at)
unfolding timer_trail
timer-hops w at t f = go (due w.held.state.running at)
  where
    st : StepStatus
    st = timed_out w.held.state.running.step

    u : World
    u = on_held w (given_up w.held)

    v : World
    v = on_held u (ends u.held at st)

    go : (b : Bool) → TimerHops at w (pick b (pass u ∷ then_onward v at) [])
    go true =
        let o = onward-hops v at t in
        record { hops = more (still w u.held (still-given-up w.held f)) (more (ended u at st (late u)) o.hops); times = (tt, (refl, o.times)) }
    go false = record { hops = none; times = tt }

connected-hops : (w : World) (handle : ℕ) (at : Micros) → at.0 ≤ latest → w.held.state.counters.links < most_links → HopsAt at w (connected_trail w handle at)
unfolding connected_trail
connected-hops w handle at t few = hop (meets w handle few) tt tt (go (is_connect s) refl)
  where
    u : World
    u = met w handle

    s : Step
    s = u.held.state.running.step

    v : World
    v = on_held u (ends u.held at Ok)

    go : (b : Bool) → is_connect s ≡ b → HopsAt at u (pick b (then_onward v at) (onward u at))
    go true e = hop (ended u at Ok (greeting u e)) refl ok-not-timeout (onward-hops v at t)
    go false e = onward-hops u at t

disconnected-hops : (w : World) (at : Micros) → at.0 ≤ latest → HopsAt at w (disconnected_trail w at)
unfolding disconnected_trail
disconnected-hops w at t = hop (parts w) tt tt (go (goes_on s))
  where
    u : World
    u = parted w

    s : Step
    s = u.held.state.running.step

    v : World
    v = on_held u (ends u.held at (cut_status s))

    go : (b : Bool) → HopsAt at u (pick b (onward u at) (then_onward v at))
    go true = onward-hops u at t
    go false = hop (ended u at (cut_status s) (cut u)) refl (cut-not-timeout s) (onward-hops v at t)

-- ---- bytes held of a frame

sizes-held : (c : Central) (n : ℕ) → Sizes c → Sizes (with_held c n)
sizes-held c n z = record { queue = z.queue; results = z.results; reports = z.reports; keys = z.keys }

pub still-gathered : (h : Held) (start : Bool) (piece : List ℕ) → Stays h (gathered h start piece) → Still h (gathered h start piece)
unfolding gathered
still-gathered h start piece s =
    record {
      counters = refl;
      queue = refl;
      running = refl;
      results = refl;
      link = refl;
      present = refl;
      notifications = refl;
      below = λ a n p. bytes_below h.store (held_at + held_before h.state.bearer start) piece 0 (length piece) a n (omega (arith, p));
      store = s.store;
      nearly = s.nearly;
      sizes = sizes-held h.state (held_before h.state.bearer start + length piece);
    }

steadily-gathered : (h : Held) (start : Bool) (piece : List ℕ) → Steadily h (gathered h start piece)
unfolding gathered
steadily-gathered h start piece = record { closed = refl; options = refl }

pub still-emptied : (h : Held) → Stays h (on_state h (with_held h.state 0)) → Still h (on_state h (with_held h.state 0))
still-emptied h s =
    record { counters = refl; queue = refl; running = refl; results = refl; link = refl; present = refl; notifications = refl; below = λ a n p. refl; store = refl; nearly = s.nearly; sizes = sizes-held h.state 0 }

module _ (h : Held) (out : List ℕ) (at : Micros) (start : Bool) (piece : List ℕ) (p : PassedFragment h.state (length h.store) (length out) at start (length piece)) where
  abbrev w : World
  w = record { held = h; told = record { sent = record { frames = 0; bytes = 0; request = None }; out = out } }

  abbrev v : World
  v = on_held w (gathered h start piece)

  abbrev u : World
  u = on_held v (on_state v.held (with_held v.held.state 0))

  sound : Sound 65 w
  sound = begins-sound h out p.shared.store p.shared.out (of-fit h.state p.shared.fit)

  module _ (e : dropped h.state.bearer start ≡ false) where
    few : held_before h.state.bearer start + length piece ≤ frame_size
    few = p.room e

    first : Stays h (gathered h start piece)
    first = stays-gathered h start piece few sound.nearly

    second : Stays v.held u.held
    second = stays-held v.held 0 v.held.store (omega arith) refl first.nearly

    sound-u : Sound 65 u
    sound-u = sound-stays 65 v u.held (sound-stays 65 w v.held sound first) second

    opened : whole v.held ≡ true → Open at (frame_length v.held) u
    unfolding gathered
    opened f =
        record {
          sound = sound-u;
          unsent = refl;
          present = comes-linked h.state.bearer start e;
          short = whole-short v.held few f;
          notified = p.notified;
          time = p.shared.time;
        }

  fragment-hops : HopsAt at w (fragment_trail w at start piece)
  unfolding fragment_trail
  fragment-hops = go (dropped h.state.bearer start) refl (whole v.held) refl
    where
      n : ℕ
      n = frame_length v.held

      channel : ℕ
      channel = frame_channel v.held

      x : World
      x = on_channel u at channel n

      go : (a : Bool) → dropped h.state.bearer start ≡ a → (b : Bool) → whole v.held ≡ b
          → HopsAt at w (pick a [] (pass v ∷ pick b (pass u ∷ record { came = came_on channel (payload u.held n); to = x } ∷ onward x at) []))
      go true e b f = stop
      go false e true f =
          let o = opened e f in
          hop (still w v.held (still-gathered h start piece (first e))) tt (steadily-gathered h start piece)
          (hop (still v u.held (still-emptied v.held (second e))) tt (record { closed = refl; options = refl })
          (hop (acted u at channel n o (sound-channel u at channel n o.time o.sound o.unsent o.present o.short o.notified)) refl tt
          (onward-hops x at o.time)))
      go false e false f = hop (still w v.held (still-gathered h start piece (first e))) tt (steadily-gathered h start piece) stop

-- ---- the radio

-- no byte below the reports is written
pub radio-below : (c : Central) (s : List ℕ) (v : radio.Adv) (a n : ℕ) → a + n ≤ report_at 0 → bytes (radio.advertised c s v).store a n ≡ bytes s a n
unfolding radio.advertised radio.heard radio.acted
radio-below c s v a n p = go (eqb (radio.refusal c (length s) v) accepted) (listens c.running) (ltb i c.reports.count) (radio.due c v)
  where
    r : Reports
    r = c.reports

    i : ℕ
    i = place_of r (key v.address)

    act : (x : Bool) (t : Reports) (m : List ℕ) (j : ℕ) → radio.Outcome
    act x t m j = pick x (radio.requested c v t m) (radio.weighed c v t m j)

    act-store : (x : Bool) (t : Reports) (m : List ℕ) (j : ℕ) → (act x t m j).store ≡ m
    act-store true t m j = refl
    act-store false t m j = refl

    again : List ℕ
    again = again_store i v.bytes s

    first : List ℕ
    first = first_store r.count v.bytes s

    go : (x y z t : Bool)
        → bytes
        (pick x (pick y (pick z (act t (heard_again r i (radio.line v)) again i) (act t (heard_first r (radio.line v)) first (last_place r.count))) (radio.unchanged c s accepted))
        (radio.unchanged c s (radio.refusal c (length s) v))).store
        a n
        ≡ bytes s a n
    go true true true t =
        ap (λ (m : List ℕ). bytes m a n) (act-store t (heard_again r i (radio.line v)) again i)
        ∙ bytes_below s (report_at i) v.bytes 0 (length v.bytes) a n (omega (arith, p))
    go true true false t =
        ap (λ (m : List ℕ). bytes m a n) (act-store t (heard_first r (radio.line v)) first (last_place r.count))
        ∙ stored-below report_part r.count v.bytes 0 (length v.bytes) s a n p
    go true false z t = refl
    go false y z t = refl

-- what a radio call leaves as it was
pub record Off (c d : Central) : Type 0 where
  pub counters : d.counters ≡ c.counters
  pub queue : d.queue ≡ c.queue
  pub running : d.running ≡ c.running
  pub results : d.results ≡ c.results
  pub bearer : d.bearer ≡ c.bearer
  pub notifications : d.notifications ≡ c.notifications
  pub options : d.options ≡ c.options

off : (c : Central) → Off c c
off c = record { counters = refl; queue = refl; running = refl; results = refl; bearer = refl; notifications = refl; options = refl }

pub radio-off : (c : Central) (s : List ℕ) (v : radio.Adv) → Off c (radio.advertised c s v).state
unfolding radio.advertised radio.heard radio.acted
radio-off c s v = go (eqb (radio.refusal c (length s) v) accepted) (listens c.running) (ltb i c.reports.count) (radio.due c v)
  where
    r : Reports
    r = c.reports

    i : ℕ
    i = place_of r (key v.address)

    act : (x : Bool) (t : Reports) (m : List ℕ) (j : ℕ) → radio.Outcome
    act x t m j = pick x (radio.requested c v t m) (radio.weighed c v t m j)

    act-off : (x : Bool) (t : Reports) (m : List ℕ) (j : ℕ) → Off c (act x t m j).state
    act-off true t m j = record { counters = refl; queue = refl; running = refl; results = refl; bearer = refl; notifications = refl; options = refl }
    act-off false t m j = record { counters = refl; queue = refl; running = refl; results = refl; bearer = refl; notifications = refl; options = refl }

    a : List ℕ
    a = again_store i v.bytes s

    b : List ℕ
    b = first_store r.count v.bytes s

    go : (x y z t : Bool)
        → Off c
        (pick x (pick y (pick z (act t (heard_again r i (radio.line v)) a i) (act t (heard_first r (radio.line v)) b (last_place r.count))) (radio.unchanged c s accepted))
        (radio.unchanged c s (radio.refusal c (length s) v))).state
    go true true true t = act-off t (heard_again r i (radio.line v)) a i
    go true true false t = act-off t (heard_first r (radio.line v)) b (last_place r.count)
    go true false z t = off c
    go false y z t = off c

pub response-off : (c : Central) (s : List ℕ) (at : Micros) (a : Address) (d : List ℕ) → Off c (radio.scan_responded c s at a d).state
unfolding radio.scan_responded
response-off c s at a d = go (eqb (radio.response_refusal c (length s) at (length d)) accepted) (ltb i c.reports.count)
  where
    i : ℕ
    i = place_of c.reports (key a)

    go : (x y : Bool)
        → Off c (pick x (pick y (radio.answered c s at d i) (radio.unchanged c s accepted)) (radio.unchanged c s (radio.response_refusal c (length s) at (length d)))).state
    go true true = record { counters = refl; queue = refl; running = refl; results = refl; bearer = refl; notifications = refl; options = refl }
    go true false = off c
    go false y = off c

pub response-below : (c : Central) (s : List ℕ) (at : Micros) (a : Address) (d : List ℕ) (b n : ℕ) → b + n ≤ report_at 0
    → bytes (radio.scan_responded c s at a d).store b n ≡ bytes s b n
unfolding radio.scan_responded
response-below c s at a d b n p = go (eqb (radio.response_refusal c (length s) at (length d)) accepted) (ltb i c.reports.count)
  where
    i : ℕ
    i = place_of c.reports (key a)

    go : (x y : Bool)
        → bytes (pick x (pick y (radio.answered c s at d i) (radio.unchanged c s accepted)) (radio.unchanged c s (radio.response_refusal c (length s) at (length d)))).store b n
        ≡ bytes s b n
    go true true = bytes_below s (response_at i) d 0 (length d) b n (omega (arith, p))
    go true false = refl
    go false y = refl

-- what a refusal of 0 has shown of an advertisement
pub shown : (c : Central) (n : ℕ) (v : radio.Adv) → radio.refusal c n v ≡ 0 → radio-laws.Passed c n v.at (length v.bytes)
unfolding radio.refusal
shown c n v e = radio-laws.passed c n v.at (length v.bytes) (go (radio.then_data (gate_quiet c n v.at) (length v.bytes)) (radio.due c v && eqb c.keys.count most_keys) e)
  where
    go : (why : ℕ) (y : Bool) → pick (eqb why accepted) (pick y keys_full accepted) why ≡ 0 → why ≡ 0
    go why y h = by (eqb why accepted) refl h
      where
        by : (x : Bool) → eqb why accepted ≡ x → ◌≡◌ {A = ℕ} (pick x (pick y keys_full accepted) why) 0 → why ≡ 0
        by true ex k = eqb-true why 0 ex
        by false ex k = k

-- ---- every call

length-blank : length blank ≡ output_size
unfolding blank
length-blank = length-replicate {A = ℕ} output_size 0

begins-quiet : (h : Held) → length h.store ≡ store_size → Fit h.state → Sound 65 (begins h (reads timer_us))
begins-quiet h s f = begins-sound h blank s (omega (arith, length-blank)) (of-fit h.state f)

still-radio : (h : Held) (x : radio.Outcome) → Off h.state x.state → radio-keeps.Sound (length h.store) x
    → ((a n : ℕ) → a + n ≤ held_at → bytes x.store a n ≡ bytes h.store a n)
    → Still h (record { state = x.state; store = x.store })
still-radio h x o s v =
    record {
      counters = o.counters;
      queue = o.queue;
      running = o.running;
      results = o.results;
      link = ap (λ b. b.link) o.bearer;
      present = ap (λ b. b.present) o.bearer;
      notifications = o.notifications;
      below = v;
      store = s.store;
      nearly = of-fit x.state s.fit;
      sizes = λ z.
          record {
            queue = ap (λ q. length q.kept) o.queue ∙ z.queue;
            results = ap (λ r. length r.kept) o.results ∙ z.results;
            reports = s.whole;
            keys = s.keys;
          };
    }

steadily-off : {h g : Held} → Off h.state g.state → Steadily h g
steadily-off o = record { closed = ap (λ b. b.closed) o.bearer; options = o.options }

pub good : (h : Held) (c : Call) → done? h c ≡ true → Sizes h.state → Good h c
good h (batch out at b values) e z =
    let p = passed-batch h.state (length h.store) (length out) at b (length values) (eqb-true (gate_of h (batch out at b values)) 0 e) in
    of-hops (pushed-sound h.state h.store out at b values p) (onward-hops (begins h (batch out at b values)) at p.shared.time)
good h (timer out at) e z =
    let p = may-begin h.state h.store out at (eqb-true (gate_of h (timer out at)) 0 e) in
    let x = timer-hops (begins h (timer out at)) at p.1 p.0.nearly in
    record { sound = p.0; hops = x.hops; times = x.times; steady = λ f. absurd (false≢true (sym f)) }
good h (connected out handle at) e z =
    let p = may-connect h.state h.store out at (eqb-true (gate_of h (connected out handle at)) 0 e) in
    of-hops p.0 (connected-hops (begins h (connected out handle at)) handle at p.1 p.2)
good h (disconnected at) e z =
    let p = passed-quiet h.state (length h.store) at (eqb-true (gate_of h (disconnected at)) 0 e) in
    of-hops (begins-quiet h p.store p.fit) (disconnected-hops (begins h (disconnected at)) at p.time)
good h (advertising v) e z =
    let q = shown h.state (length h.store) v (eqb-true (gate_of h (advertising v)) 0 e) in
    let x = radio.advertised h.state h.store v in
    of-hops (begins-quiet h q.gate.store q.gate.fit)
    (hop
    (still (begins h (advertising v)) (record { state = x.state; store = x.store })
    (still-radio h x (radio-off h.state h.store v) (radio-keeps.advertised-sound h.state h.store q.gate.fit z.reports z.keys v) (λ a n p. radio-below h.state h.store v a n (omega (arith, p)))))
    tt (steadily-off (radio-off h.state h.store v)) stop)
good h (scan_response at a d) e z =
    let q = radio-laws.passed h.state (length h.store) at (length d) (eqb-true (gate_of h (scan_response at a d)) 0 e) in
    let x = radio.scan_responded h.state h.store at a d in
    of-hops (begins-quiet h q.gate.store q.gate.fit)
    (hop
    (still (begins h (scan_response at a d)) (record { state = x.state; store = x.store })
    (still-radio h x (response-off h.state h.store at a d) (radio-keeps.responded-sound h.state h.store q.gate.fit z.reports z.keys at a d) (λ b n p. response-below h.state h.store at a d b n (omega (arith, p)))))
    tt (steadily-off (response-off h.state h.store at a d)) stop)
good h (fragment out at start piece) e z =
    let p = passed-fragment h.state (length h.store) (length out) at start (length piece) (eqb-true (gate_of h (fragment out at start piece)) 0 e) in
    of-hops (sound h out at start piece p) (fragment-hops h out at start piece p)
good h (reads r) e z =
    let p = passed-reader h.state (length h.store) (eqb-true (gate_of h (reads r)) 0 e) in
    of-hops (begins-quiet h p.store p.fit) stop
