-- More edits of what a promise says, tried under must-fail: each makes a promise false, as in Untrue.antt.
use Rattle.std.specs.Prelude.{ℕ, suc, ◌+◌, ◌≤◌, ◌<◌, ◌≡◌, refl, Bool, true, false, not, ◌&&◌, List, [], ◌∷◌, ◌++◌, Option, None, Some, Ok, reverse, length, drop, replicate, get_or, eqb, leb}
use Rattle.std.proofs.Common.{sym, ap, ◌∙◌, subst, arith}
use Rattle.std.proofs.lemmas.Bool.{false≢true}
use Rattle.bytes_base.specs.Choice.{pick}
use Rattle.state_places.specs.Sizes.{store_size, most_results}
use Rattle.lists.specs.Queue.{all}
use Rattle.time.specs.declared.Micros.{Micros}
use Rattle.state.specs.declared.Queued.{Queued}
use Rattle.state.specs.declared.Running.{Running}
use Rattle.gatt_services.specs.declared.Services.{Services}
use Rattle.state.specs.declared.Target.TheVariants.{Any}
use Rattle.state.specs.declared.Step.{Step}
use Rattle.state.specs.declared.Step.TheVariants.{Scan, Connect, ExchangeMtu, DiscoverServices, DiscoverCharacteristics, Subscribe, Write, Read, WaitNotification, Wait, Disconnect, Capture, CaptureSecrets}
use Rattle.state_rules.specs.Refusals.{accepted, long_frame}
use Rattle.script_rules.specs.World.{Held}
use Rattle.script_rules.specs.Waiting.{waiting}
use Rattle.script_rules.specs.Timed.{narrow}
use Rattle.script_rules.specs.Events.{is_connect}
use Rattle.state_readers.specs.Readers as readers
use Rattle.state_readers.specs.Numbers.{eight, handle_words}
use Rattle.thm_trail.specs.Calls.{timer_us, connected_handle, result_of, Call, batch, timer, connected, disconnected, advertising, scan_response, fragment, reads, time_of, does, left, run}
use Rattle.thm_trail.specs.Trail.{News, link-came, link-went, came_on}
use Rattle.thm_trail.specs.Log.{no_valued, given_by, log, taken}
use Rattle.thm_counts.specs.Tally.{noticed}
use Rattle.thm_wire.specs.Wire.{channel_of}
use Rattle.thm_requests.specs.Events.{Event, came, asked, result}
use Rattle.thm_requests.specs.Turn.{OfItsStep}
use Rattle.thm_heard.specs.Heard as heard
use Rattle.thm_heard.specs.Heard.{Air, silence, link, whole}
use Rattle.thm_heard.specs.Events.{events}
use Rattle.thm_links.specs.Keeps.{Keeps}
use Rattle.thm_readers.specs.Said.{said, nothing, link_by, refusals, Shows}
use Rattle.promises.specs.Fitness.{Typed}
use Rattle.promises_shown.specs.Sequences.{fresh, store, out, at, ms, placed, step, both, linked, asking, known}
use Rattle.promises_shown.specs.Known.{knowing, known_store, knows, from-there}
use Rattle.promises_shown.specs.Opened.{opened}

-- ---- what comes in (thm_heard/specs/Heard.antt), by rules of which each edit has another

pub record Rules : Type 0 where
  pub dropped : List ℕ → Bool → Bool
  pub joined : List ℕ → Bool → List ℕ → List ℕ
  pub payload_of : List ℕ → List ℕ
  -- what refusal 7 leaves
  pub emptied : Air → Air

abbrev pub as_promised : Rules
as_promised = record { dropped = heard.dropped; joined = heard.joined; payload_of = heard.payload_of; emptied = heard.emptied }

abbrev pub holds : Rules → Air → Bool → List ℕ → Air
holds r silence start piece = silence
holds r (link handle partial) start piece = link handle (pick (r.dropped partial start) partial (heard.held_of (r.joined partial start piece)))

abbrev pub frame_of : Rules → List ℕ → List News
frame_of r b = pick (whole b) (came_on (channel_of b) (r.payload_of b)) []

abbrev pub hears : Rules → Air → Bool → List ℕ → List News
hears r silence start piece = []
hears r (link handle partial) start piece = pick (r.dropped partial start) [] (frame_of r (r.joined partial start piece))

abbrev pub after : Rules → Air → Call → ℕ → Air
after r a (batch out at b values) why = a
after r a (timer out at) why = a
after r a (connected out handle at) why = pick (eqb why accepted) (link handle []) a
after r a (disconnected at) why = pick (eqb why accepted) silence a
after r a (advertising v) why = a
after r a (scan_response at x d) why = a
after r a (fragment out at start piece) why = pick (eqb why accepted) (holds r a start piece) (pick (eqb why long_frame) (r.emptied a) a)
after r a (reads x) why = a

abbrev pub news : Rules → Air → Call → ℕ → List News
news r a (batch out at b values) why = []
news r a (timer out at) why = []
news r a (connected out handle at) why = pick (eqb why accepted) (link-came handle ∷ []) []
news r a (disconnected at) why = pick (eqb why accepted) (link-went ∷ []) []
news r a (advertising v) why = []
news r a (scan_response at x d) why = []
news r a (fragment out at start piece) why = pick (eqb why accepted) (hears r a start piece) []
news r a (reads x) why = []

abbrev pub heard_by : Rules → Air → Held → List Call → List News
heard_by r a h [] = []
heard_by r a h (c ∷ cs) = news r a c (does h c).refusal ++ heard_by r (after r a c (does h c).refusal) (left (does h c)) cs

-- by the rules that are promised it is what is promised
news-same : (a : Air) (c : Call) (why : ℕ) → news as_promised a c why ≡ heard.news a c why
news-same a (batch out at b values) why = refl
news-same a (timer out at) why = refl
news-same a (connected out handle at) why = refl
news-same a (disconnected at) why = refl
news-same a (advertising v) why = refl
news-same a (scan_response at x d) why = refl
news-same silence (fragment out at start piece) why = refl
news-same (link handle partial) (fragment out at start piece) why = refl
news-same a (reads x) why = refl

after_same : (a : Air) (c : Call) (why : ℕ) → after as_promised a c why ≡ heard.after a c why
after_same a (batch out at b values) why = refl
after_same a (timer out at) why = refl
after_same a (connected out handle at) why = refl
after_same a (disconnected at) why = refl
after_same a (advertising v) why = refl
after_same a (scan_response at x d) why = refl
after_same silence (fragment out at start piece) why = refl
after_same (link handle partial) (fragment out at start piece) why = refl
after_same a (reads x) why = refl

pub heard-same : (a : Air) (h : Held) (cs : List Call) → heard_by as_promised a h cs ≡ heard.heard a h cs
heard-same a h [] = refl
heard-same a h (c ∷ cs) =
    let why = (does h c).refusal in
    let g = left (does h c) in
    ap (λ (l : List News). l ++ heard_by as_promised (after as_promised a c why) g cs) (news-same a c why)
    ∙ ap (λ (b : Air). heard.news a c why ++ heard_by as_promised b g cs) (after_same a c why)
    ∙ ap (λ (l : List News). heard.news a c why ++ l) (heard-same (heard.after a c why) g cs)

-- `notified` counts what is heard by these rules
abbrev pub Counted : Rules → Type 0
Counted r = (store : List ℕ) (cs : List Call) → (run (fresh store) cs).state.counters.notified ≡ noticed (heard_by r silence (fresh store) cs)

-- at these calls it does not
record Miscounted (r : Rules) (cs : List Call) (said heard : ℕ) : Type 0 where
  said-is : (run (fresh store) cs).state.counters.notified ≡ said
  heard-is : noticed (heard_by r silence (fresh store) cs) ≡ heard

none-of-one : (r : Rules) (cs : List Call) → Miscounted r cs 1 0 → Counted r → ⊥
none-of-one r cs m p = omega (arith, sym m.said-is ∙ p store cs ∙ m.heard-is)

one-of-none : (r : Rules) (cs : List Call) → Miscounted r cs 0 1 → Counted r → ⊥
one-of-none r cs m p = omega (arith, sym m.said-is ∙ p store cs ∙ m.heard-is)

-- a notification of the handle 3 with the value A5, and its two parts
abbrev start : List ℕ
start = 0x04 ∷ 0x00 ∷ 0x04 ∷ 0x00 ∷ 0x1B ∷ []

abbrev rest : List ℕ
rest = 0x03 ∷ 0x00 ∷ 0xA5 ∷ []

abbrev starts : List ℕ → Call
starts bytes = fragment out (at 2) true bytes

abbrev continues : List ℕ → Call
continues bytes = fragment out (at 3) false bytes

-- in one fragment
abbrev start_reversed : Rules
start_reversed =
    record { dropped = heard.dropped; joined = λ partial start piece. pick start (reverse piece) (partial ++ piece); payload_of = heard.payload_of; emptied = heard.emptied }

in_one : Miscounted start_reversed (linked ++ (starts (start ++ rest) ∷ [])) 1 0
unfolding opened
in_one = record { said-is = refl; heard-is = refl }

pub piece-in-reverse-order : Counted start_reversed → ⊥
piece-in-reverse-order p = none-of-one start_reversed (linked ++ (starts (start ++ rest) ∷ [])) in_one p

-- in two
abbrev placed_before : Rules
placed_before = record { dropped = heard.dropped; joined = λ partial start piece. pick start piece (piece ++ partial); payload_of = heard.payload_of; emptied = heard.emptied }

in_two : Miscounted placed_before (linked ++ (starts start ∷ continues rest ∷ [])) 1 0
unfolding opened
in_two = record { said-is = refl; heard-is = refl }

pub pieces-in-reverse-order : Counted placed_before → ⊥
pieces-in-reverse-order p = none-of-one placed_before (linked ++ (starts start ∷ continues rest ∷ [])) in_two p

-- two bytes, which have no whole handle, and a byte too much
abbrev surplus_kept : Rules
surplus_kept = record { dropped = heard.dropped; joined = heard.joined; payload_of = λ b. drop 4 b; emptied = heard.emptied }

abbrev surplus : List Call
surplus = linked ++ (starts (0x02 ∷ 0x00 ∷ 0x04 ∷ 0x00 ∷ 0x1B ∷ 0x03 ∷ 0x00 ∷ []) ∷ [])

too_much : Miscounted surplus_kept surplus 0 1
unfolding opened
too_much = record { said-is = refl; heard-is = refl }

pub surplus-is-not-dropped : Counted surplus_kept → ⊥
surplus-is-not-dropped p = one-of-none surplus_kept surplus too_much p

-- the whole of it as a continuation
abbrev nothing_dropped : Rules
nothing_dropped = record { dropped = λ partial start. not start && start; joined = heard.joined; payload_of = heard.payload_of; emptied = heard.emptied }

on-nothing : Miscounted nothing_dropped (linked ++ (continues (start ++ rest) ∷ [])) 0 1
unfolding opened
on-nothing = record { said-is = refl; heard-is = refl }

pub continuation-on-nothing-is-kept : Counted nothing_dropped → ⊥
continuation-on-nothing-is-kept p = one-of-none nothing_dropped (linked ++ (continues (start ++ rest) ∷ [])) on-nothing p

-- in two, and between them a continuation that makes 252 bytes
abbrev seven_keeps : Rules
seven_keeps = record { dropped = heard.dropped; joined = heard.joined; payload_of = heard.payload_of; emptied = λ a. a }

abbrev too_long : List Call
too_long = linked ++ (starts start ∷ continues (replicate 247 0) ∷ continues rest ∷ [])

past-seven : Miscounted seven_keeps too_long 0 1
unfolding opened
past-seven = record { said-is = refl; heard-is = refl }

pub refusal-7-keeps-what-is-held : Counted seven_keeps → ⊥
refusal-7-keeps-what-is-held p = one-of-none seven_keeps too_long past-seven p

-- ---- the time of a result

-- a step that is done at once, in the second call
record DoneSecond : Type 0 where
  given_is : length (given_by (run (fresh store) linked) (step 2 (Capture true))) ≡ 1
  at-is : (get_or (given_by (run (fresh store) linked) (step 2 (Capture true))) 0 no_valued).entry.at.0 ≡ 2

done-second : DoneSecond
unfolding opened
done-second = record { given_is = refl; at-is = refl }

pub result-time-of-the-first-call :
    ((store : List ℕ) (cs : List Call) (c : Call) (i : ℕ) → let given = given_by (run (fresh store) cs) c in i < length given
    → (get_or given i no_valued).entry.at ≡ time_of (get_or cs 0 c)) → ⊥
result-time-of-the-first-call p =
    let there : 0 < length (given_by (run (fresh store) linked) (step 2 (Capture true))) = subst (λ (n : ℕ). 0 < n) (sym done-second.given_is) (omega arith) in
    omega (arith, sym done-second.at-is ∙ ap (λ (t : Micros). t.0) (p store linked (step 2 (Capture true)) 0 there))

abbrev pub time_but_lost : Call → Micros
time_but_lost (batch out at b values) = at
time_but_lost (timer out at) = at
time_but_lost (connected out handle at) = at
time_but_lost (disconnected at) = record { 0 = 0 }
time_but_lost (advertising v) = v.at
time_but_lost (scan_response at a d) = at
time_but_lost (fragment out at start bytes) = at
time_but_lost (reads r) = record { 0 = 0 }

-- the link is lost while an answer is awaited
record Cut : Type 0 where
  given_is : length (given_by (run (fresh store) asking) (disconnected (at 3))) ≡ 1
  at-is : (get_or (given_by (run (fresh store) asking) (disconnected (at 3))) 0 no_valued).entry.at.0 ≡ 3

cut : Cut
unfolding opened
cut = record { given_is = refl; at-is = refl }

pub time-of-a-lost-link-is-zero :
    ((store : List ℕ) (cs : List Call) (c : Call) (i : ℕ) → let given = given_by (run (fresh store) cs) c in i < length given
    → (get_or given i no_valued).entry.at ≡ time_but_lost c) → ⊥
time-of-a-lost-link-is-zero p =
    let there : 0 < length (given_by (run (fresh store) asking) (disconnected (at 3))) = subst (λ (n : ℕ). 0 < n) (sym cut.given_is) (omega arith) in
    omega (arith, sym cut.at-is ∙ ap (λ (t : Micros). t.0) (p store asking (disconnected (at 3)) 0 there))

-- ---- the number of a request

abbrev pub InTurnHigher : List Queued → ℕ → List Event → Type 0
InTurnHigher q k [] = Unit {0}
InTurnHigher q k (came x ∷ es) = InTurnHigher q k es
InTurnHigher q k (asked i op ∷ es) = OfItsStep q (suc k) i × InTurnHigher q k es
InTurnHigher q k (result x ∷ es) = (x.entry.index ≡ k) × InTurnHigher q (suc k) es

-- the first step asks for an MTU
asked-first : events silence (fresh store) asking ≡ came (link-came 64) ∷ asked 0 0x02 ∷ []
unfolding opened
asked-first = refl

pub request-numbered-one-higher : ((store : List ℕ) (cs : List Call) → InTurnHigher (taken (fresh store) cs) 0 (events silence (fresh store) cs)) → ⊥
request-numbered-one-higher p = beyond (subst (λ (es : List Event). InTurnHigher (taken (fresh store) asking) 0 es) asked-first (p store asking)).0.turn
  where
    beyond : ◌≡◌ {A = ℕ} 0 1 → ⊥
    beyond e = omega (arith, e)

-- ---- what a link keeps (thm_links/specs/Keeps.antt)

-- one notification was heard when the link is lost
abbrev notified_once : List Call
notified_once = linked ++ (starts (start ++ rest) ∷ [])

record Lost : Type 0 where
  notified-is : (run (fresh store) notified_once).state.counters.notified ≡ 1
  from_is : (left (does (run (fresh store) notified_once) (disconnected (at 3)))).state.counters.wait_from ≡ 0

lost : Lost
unfolding opened
lost = record { notified-is = refl; from_is = refl }

pub lost-link-moves-wait-from :
    ((store : List ℕ) (cs : List Call) (at : Micros) → let h = run (fresh store) cs in
    (left (does h (disconnected at))).state.counters.wait_from ≡ h.state.counters.notified) → ⊥
lost-link-moves-wait-from p = omega (arith, sym lost.from_is ∙ p store notified_once (at 3) ∙ lost.notified-is)

-- a link comes
record Came : Type 0 where
  accepted-is : (does (run (fresh store) []) (connected out 64 (at 1))).refusal ≡ accepted
  before-is : (run (fresh store) []).state.counters.links ≡ 0
  after_is : (left (does (run (fresh store) []) (connected out 64 (at 1)))).state.counters.links ≡ 1

one-came : Came
unfolding opened
one-came = record { accepted-is = refl; before-is = refl; after_is = refl }

pub new-link-is-not-counted :
    ((store : List ℕ) (cs : List Call) (out : List ℕ) (handle : ℕ) (at : Micros) → let h = run (fresh store) cs in
    (does h (connected out handle at)).refusal ≡ accepted → (left (does h (connected out handle at))).state.counters.links ≡ h.state.counters.links) → ⊥
new-link-is-not-counted p = omega (arith, sym one-came.after_is ∙ p store [] out 64 (at 1) one-came.accepted-is ∙ one-came.before-is)

-- the battery service is known; the link is lost, a Connect runs, and a DiscoverServices waits
abbrev seeks : List Call
seeks = disconnected (at 6) ∷ both 7 (placed (Connect Any 24 0 400 (ms 1000)) 0) (placed DiscoverServices 0) [] ∷ []

abbrev meets : Call
meets = connected out 64 (at 8)

abbrev pub starts_quietly_too : Step → Bool
starts_quietly_too (Scan ms) = true
starts_quietly_too (Connect target interval latency timeout ms) = true
starts_quietly_too (ExchangeMtu mtu) = true
starts_quietly_too DiscoverServices = true
starts_quietly_too (DiscoverCharacteristics service) = true
starts_quietly_too (Subscribe characteristic indicate) = true
starts_quietly_too (Write characteristic response) = true
starts_quietly_too (Read characteristic) = true
starts_quietly_too (WaitNotification characteristic ms age) = false
starts_quietly_too (Wait ms) = true
starts_quietly_too Disconnect = true
starts_quietly_too (Capture enabled) = true
starts_quietly_too (CaptureSecrets secrets) = true

record Meets (h : Held) : Type 0 where
  accepted-is : (does h meets).refusal ≡ accepted
  runs : h.state.running.active ≡ true
  connects : is_connect h.state.running.step ≡ true
  quiet : all (λ q. starts_quietly_too q.step) (waiting h.state.queue) ≡ true
  services-before : h.state.services.count ≡ 1
  services-after : (left (does h meets)).state.services.count ≡ 0

meets-there : Meets (run knows seeks)
unfolding opened knowing known_store
meets-there = record { accepted-is = refl; runs = refl; connects = refl; quiet = refl; services-before = refl; services-after = refl }

meets-so : Meets (run (fresh store) (known ++ seeks))
meets-so = subst Meets (sym (from-there seeks)) meets-there

forgot : (h : Held) → Meets h → Keeps h (left (does h meets)) → ⊥
forgot h m k = omega (arith, sym m.services-after ∙ ap (λ (s : Services). s.count) k.services ∙ m.services-before)

pub running-connect-starts-nothing :
    ((store : List ℕ) (cs : List Call) (out : List ℕ) (handle : ℕ) (at : Micros) → let h = run (fresh store) cs in
    (does h (connected out handle at)).refusal ≡ accepted → h.state.running.active ≡ true → is_connect h.state.running.step ≡ true
    → Keeps h (left (does h (connected out handle at)))) → ⊥
running-connect-starts-nothing p =
    forgot _ meets-so (p store (known ++ seeks) out 64 (at 8) meets-so.accepted-is meets-so.runs meets-so.connects)

pub start-of-discovery-keeps-the-tables :
    ((store : List ℕ) (cs : List Call) (out : List ℕ) (handle : ℕ) (at : Micros) → let h = run (fresh store) cs in
    (does h (connected out handle at)).refusal ≡ accepted → all (λ q. starts_quietly_too q.step) (waiting h.state.queue) ≡ true
    → Keeps h (left (does h (connected out handle at)))) → ⊥
start-of-discovery-keeps-the-tables p = forgot _ meets-so (p store (known ++ seeks) out 64 (at 8) meets-so.accepted-is meets-so.quiet)

-- ---- what the readers say (thm_readers/specs/Said.antt)

store-sized : length store ≡ store_size
store-sized = refl

-- a wait of a millisecond from 1 on: its deadline is 1001
abbrev waits : List Call
waits = step 1 (Wait (ms 1)) ∷ []

-- it is over
abbrev waited : List Call
waited = waits ++ (timer out (at 1001) ∷ [])

abbrev pub deadline_of_any : Running → List ℕ
deadline_of_any r = pick r.dated (eight 0 1 r.deadline.0 0 0 0 0 0) nothing

record Waited : Type 0 where
  said-is : said (run (fresh store) waited) timer_us ≡ nothing
  edited-is : deadline_of_any (run (fresh store) waited).state.running ≡ eight 0 1 1001 0 0 0 0 0

waited-so : Waited
unfolding opened readers.timer
waited-so = record { said-is = refl; edited-is = refl }

waited-typed : Typed waited
unfolding all narrow
waited-typed = (refl, (refl, tt))

-- the second number
abbrev second : List ℕ → ℕ
second l = get_or l 1 0

pub deadline-of-a-step-that-is-over :
    ((store : List ℕ) (cs : List Call) → Typed cs → length store ≡ store_size
    → let h = run (fresh store) cs in said h timer_us ≡ deadline_of_any h.state.running) → ⊥
deadline-of-a-step-that-is-over p =
    omega (arith, ap second (sym waited-so.said-is ∙ p store waited waited-typed store-sized ∙ waited-so.edited-is))

-- a timer call at the deadline
abbrev pub over_later : List ℕ → Micros → Bool
over_later numbers at = eqb (get_or numbers 1 0) 1 && leb (get_or numbers 2 0 + 1) at.0

record Due : Type 0 where
  accepted-is : (does (run (fresh store) waits) (timer out (at 1001))).refusal ≡ accepted
  later-is : over_later (said (run (fresh store) waits) timer_us) (at 1001) ≡ false
  before-is : (run (fresh store) waits).state.running.active ≡ true
  after_is : (left (does (run (fresh store) waits) (timer out (at 1001)))).state.running.active ≡ false

due-so : Due
unfolding opened readers.timer
due-so = record { accepted-is = refl; later-is = refl; before-is = refl; after_is = refl }

pub timer-call-one-late :
    ((store : List ℕ) (cs : List Call) (out : List ℕ) (at : Micros) → let h = run (fresh store) cs in (does h (timer out at)).refusal ≡ accepted
    → over_later (said h timer_us) at ≡ false → left (does h (timer out at)) ≡ h) → ⊥
timer-call-one-late p =
    false≢true
    (sym due-so.after_is ∙ ap (λ (h : Held). h.state.running.active) (p store waits out (at 1001) due-so.accepted-is due-so.later-is) ∙ due-so.before-is)

-- a link that is lost
abbrev pub link_by_kept : Call → Option ℕ → Option ℕ
link_by_kept (batch out at b values) x = x
link_by_kept (timer out at) x = x
link_by_kept (connected out handle at) x = Some handle
link_by_kept (disconnected at) x = x
link_by_kept (advertising v) x = x
link_by_kept (scan_response at a d) x = x
link_by_kept (fragment out at start bytes) x = x
link_by_kept (reads r) x = x

abbrev pub link_after_kept : Option ℕ → List Call → List ℕ → Option ℕ
link_after_kept x [] rs = x
link_after_kept x (c ∷ cs) [] = x
link_after_kept x (c ∷ cs) (r ∷ rs) = link_after_kept (pick (eqb r accepted) (link_by_kept c x) x) cs rs

abbrev parts : List Call
parts = linked ++ (disconnected (at 2) ∷ [])

record Parted : Type 0 where
  said-is : said (run (fresh store) parts) connected_handle ≡ nothing
  edited-is : handle_words (Ok (link_after_kept None parts (refusals (fresh store) parts))) ≡ eight 0 1 64 0 0 0 0 0

parted-so : Parted
unfolding opened readers.handle
parted-so = record { said-is = refl; edited-is = refl }

pub lost-link-still-said :
    ((store : List ℕ) (cs : List Call) → Typed cs → length store ≡ store_size
    → said (run (fresh store) cs) connected_handle ≡ handle_words (Ok (link_after_kept None cs (refusals (fresh store) cs)))) → ⊥
lost-link-still-said p = omega (arith, ap second (sym parted-so.said-is ∙ p store parts (refl, (refl, tt)) store-sized ∙ parted-so.edited-is))

-- a link whose call is refused: no output is lent
abbrev pub link_after_any : Option ℕ → List Call → List ℕ → Option ℕ
link_after_any x [] rs = x
link_after_any x (c ∷ cs) [] = x
link_after_any x (c ∷ cs) (r ∷ rs) = link_after_any (link_by c x) cs rs

abbrev unmet : List Call
unmet = connected [] 64 (at 1) ∷ []

record Unmet : Type 0 where
  said-is : said (run (fresh store) unmet) connected_handle ≡ nothing
  edited-is : handle_words (Ok (link_after_any None unmet (refusals (fresh store) unmet))) ≡ eight 0 1 64 0 0 0 0 0

unmet-so : Unmet
unfolding opened readers.handle
unmet-so = record { said-is = refl; edited-is = refl }

pub refused-link-said :
    ((store : List ℕ) (cs : List Call) → Typed cs → length store ≡ store_size
    → said (run (fresh store) cs) connected_handle ≡ handle_words (Ok (link_after_any None cs (refusals (fresh store) cs)))) → ⊥
refused-link-said p = omega (arith, ap second (sym unmet-so.said-is ∙ p store unmet (refl, tt) store-sized ∙ unmet-so.edited-is))

-- two steps, done at 1 and at 2
abbrev two_done : List Call
two_done = step 1 (Capture true) ∷ step 2 (Capture true) ∷ []

record TwoDone : Type 0 where
  log_is : length (log (fresh store) two_done) ≡ 2
  first-is : (get_or (log (fresh store) two_done) 0 no_valued).entry.at.0 ≡ 1
  said-is : get_or (said (run (fresh store) two_done) (result_of 1)) 2 0 ≡ 2

two-done : TwoDone
unfolding opened readers.result_answer readers.given
two-done = record { log_is = refl; first-is = refl; said-is = refl }

two_typed : Typed two_done
unfolding all narrow
two_typed = (refl, (refl, tt))

pub result-of-the-first-given :
    ((store : List ℕ) (cs : List Call) → Typed cs → length store ≡ store_size → let h = run (fresh store) cs in let l = log (fresh store) cs in
    (i : ℕ) → i < length l → length l ≤ i + most_results → Shows h (get_or l 0 no_valued) (said h (result_of i))) → ⊥
result-of-the-first-given p =
    let there : 1 < length (log (fresh store) two_done) = subst (λ (n : ℕ). 1 < n) (sym two-done.log_is) (omega arith) in
    let among : length (log (fresh store) two_done) ≤ 1 + most_results = subst (λ (n : ℕ). n ≤ 1 + most_results) (sym two-done.log_is) (omega arith) in
    let s = p store two_done two_typed store-sized 1 there among in
    omega (arith, sym two-done.said-is ∙ ap (λ (l : List ℕ). get_or l 2 0) s.numbers-are ∙ two-done.first-is)

pub newest-result-not-said :
    ((store : List ℕ) (cs : List Call) → Typed cs → length store ≡ store_size → let h = run (fresh store) cs in let l = log (fresh store) cs in
    (i : ℕ) → length l ≤ i + 1 → said h (result_of i) ≡ nothing) → ⊥
newest-result-not-said p =
    let last : length (log (fresh store) two_done) ≤ 1 + 1 = subst (λ (n : ℕ). n ≤ 1 + 1) (sym two-done.log_is) (omega arith) in
    omega (arith, sym two-done.said-is ∙ ap (λ (l : List ℕ). get_or l 2 0) (p store two_done two_typed store-sized 1 last))
