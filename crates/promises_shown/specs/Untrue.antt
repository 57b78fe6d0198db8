-- Each edit of what a promise says, tried under must-fail, makes it false: here the edited statement, under the edit's name, is shown to fail
-- at a list of calls. What the list comes to is computed.
use Rattle.std.specs.Prelude.{ℕ, suc, ◌+◌, ◌≤◌, ◌<◌, ◌≡◌, refl, Bool, true, false, ◌&&◌, List, [], ◌∷◌, ◌++◌, length, take, drop, replicate, get_or, eqb, leb}
use Rattle.std.proofs.Common.{sym, ap, ◌∙◌, subst, arith}
use Rattle.std.proofs.lemmas.Bool.{false≢true}
use Rattle.bytes_base.specs.Choice.{pick, among}
use Rattle.lists.specs.Queue.{newest}
use Rattle.lists.specs.Blocks.{Valued}
use Rattle.uuid_value.specs.declared.Uuid.{Uuid}
use Rattle.att_pdu.specs.Numbers.{op_read_req, op_read_rsp, op_handle_value_ntf, op_handle_value_ind}
use Rattle.state.specs.Central.{Central}
use Rattle.state.specs.Fresh.{no_queued}
use Rattle.state.specs.declared.StepResult.{StepResult}
use Rattle.state.specs.declared.Step.TheVariants.{Read, Wait, Capture}
use Rattle.state.specs.declared.StepStatus.TheVariants.{Ok}
use Rattle.state_rules.specs.Fit.{awaits, fits}
use Rattle.script_rules.specs.World.{Held, World}
use Rattle.thm_trail.specs.Calls.{Call, batch, timer, disconnected, does, left, run, done?}
use Rattle.thm_trail.specs.Trail.{News, link-came, link-went, att-heard, Pass, begins, goes}
use Rattle.thm_trail.specs.Log.{kept_results, no_valued, gave, log, taken}
use Rattle.thm_accounting.specs.InLine.{in_line}
use Rattle.thm_counts.specs.Tally.{handed}
use Rattle.thm_wire.specs.Wire.{Sent, sent_in, sent_by, Within}
use Rattle.thm_requests.specs.Events.{Event, came, asked, result, asked_in, news_of, results_of, Calm, Awaited}
use Rattle.thm_heard.specs.Heard.{Air, silence, after, news, heard}
use Rattle.thm_heard.specs.Events.{events}
use Rattle.promises.specs.Fitness.{Typed}
use Rattle.promises_shown.specs.Sequences.{fresh, store, out, at, ms, placed, only, step, sixty_four, linked, asking, asking_second, told, level, known, reading, fills, indication, widens, command}
use Rattle.promises_shown.specs.Refusals.{refuses}
use Rattle.promises_shown.specs.Known.{knowing, known_store, knows, from-there}
use Rattle.promises_shown.specs.Reading.{read_taken, read-logged, happened}
use Rattle.promises_shown.specs.Opened.{opened}

-- ---- one step runs, and none has a result

record Asking : Type 0 where
  taken_is : length (taken (fresh store) asking) ≡ 1
  log_is : length (log (fresh store) asking) ≡ 0
  line-is : length (in_line (run (fresh store) asking).state) ≡ 1
  first-is : length (in_line (run (fresh store) (take 1 asking)).state) ≡ 0
  behind-is : length (drop (suc (length (log (fresh store) asking))) (taken (fresh store) asking)) ≡ 0

one-runs : Asking
unfolding opened
one-runs = record { taken_is = refl; log_is = refl; line-is = refl; first-is = refl; behind-is = refl }

unequal : (a b c : ℕ) → a ≡ 1 → b ≡ 0 → c ≡ 0 → a ≡ b + c → ⊥
unequal a b c p q r e = omega (arith, p, q, r, e)

pub accounted-without-what-waits : ((store : List ℕ) (cs : List Call) → length (taken (fresh store) cs) ≡ length (log (fresh store) cs)) → ⊥
accounted-without-what-waits p = omega (arith, sym one-runs.taken_is ∙ p store asking ∙ one-runs.log_is)

pub accounted-of-the-first-call-alone :
    ((store : List ℕ) (cs : List Call) → length (taken (fresh store) cs) ≡ length (log (fresh store) cs) + length (in_line (run (fresh store) (take 1 cs)).state)) → ⊥
accounted-of-the-first-call-alone p = unequal _ _ _ one-runs.taken_is one-runs.log_is one-runs.first-is (p store asking)

pub in-order-without-the-next :
    ((store : List ℕ) (cs : List Call) → in_line (run (fresh store) cs).state ≡ drop (suc (length (log (fresh store) cs))) (taken (fresh store) cs)) → ⊥
in-order-without-the-next p = omega (arith, sym one-runs.line-is ∙ ap length (p store asking) ∙ one-runs.behind-is)

-- ---- a step that is done at once, and 64 of them

abbrev one : List Call
one = step 1 (Capture true) ∷ []

abbrev many : List Call
many = sixty_four 1 (Capture true) ∷ []

record Done : Type 0 where
  log_is : length (log (fresh store) one) ≡ 1
  number_is : (get_or (log (fresh store) one) 0 no_valued).entry.index ≡ 0

one-done : Done
unfolding opened
one-done = record { log_is = refl; number_is = refl }

pub numbered-from-one :
    ((store : List ℕ) (cs : List Call) (i : ℕ) → i < length (log (fresh store) cs) → (get_or (log (fresh store) cs) i no_valued).entry.index ≡ suc i) → ⊥
numbered-from-one p = omega (arith, sym one-done.number_is ∙ p store one 0 (subst (λ (n : ℕ). 0 < n) (sym one-done.log_is) (omega arith)))

kept-is : length (kept_results (run (fresh store) many)) ≡ 64
unfolding opened
kept-is = refl

newest-is : length (newest 63 (log (fresh store) many)) ≡ 63
unfolding opened
newest-is = refl

pub kept-one-fewer : ((store : List ℕ) (cs : List Call) → kept_results (run (fresh store) cs) ≡ newest 63 (log (fresh store) cs)) → ⊥
kept-one-fewer p = omega (arith, sym kept-is ∙ ap length (p store many) ∙ newest-is)

-- ---- 10^16 milliseconds end past 2^63 microseconds

abbrev long : List Call
long = step 1 (Wait (ms 10000000000000000)) ∷ []

long-is : fits (run (fresh store) long).state ≡ false
unfolding opened
long-is = refl

pub fit-stays-of-any-milliseconds : ((store : List ℕ) (cs : List Call) → Unit {0} → fits (run (fresh store) cs).state ≡ true) → ⊥
fit-stays-of-any-milliseconds p = false≢true (sym long-is ∙ p store long tt)

-- ---- an output that is too short

pub never-refused-for-size : ((store : List ℕ) (cs : List Call) → Typed cs → (c : Call) → (does (run (fresh store) cs) c).refusal ≡ 2 → ⊥) → ⊥
never-refused-for-size p = p store [] tt (timer (replicate 16314 0) (at 1)) refuses.two_out

-- ---- frames

-- a timer call sends none
none-sent : (does (run (fresh store) []) (timer out (at 1))).sent.frames ≡ 0
unfolding opened
none-sent = refl

pub frames-one-invented : ((store : List ℕ) (cs : List Call) (c : Call) → (does (run (fresh store) cs) c).sent.frames ≡ suc (length (sent_by (run (fresh store) cs) c))) → ⊥
frames-one-invented p = invented _ _ none-sent (p store [] (timer out (at 1)))
  where
    invented : (a b : ℕ) → a ≡ 0 → a ≡ suc b → ⊥
    invented a b q e = omega (arith, q, e)

sent-65 : (does (run knows fills) indication).sent.frames ≡ 65
unfolding opened knowing known_store
sent-65 = refl

pub most-64 : ((store : List ℕ) (cs : List Call) (c : Call) → (does (run (fresh store) cs) c).sent.frames ≤ 64) → ⊥
most-64 p = beyond _ (ap (λ (h : Held). (does h indication).sent.frames) (from-there fills) ∙ sent-65) (p store (known ++ fills) indication)
  where
    beyond : (a : ℕ) → a ≡ 65 → a ≤ 64 → ⊥
    beyond a q e = omega (arith, q, e)

-- the MTU of a link is taken for that of a new one
abbrev pub as_new : List Sent → List Sent
as_new [] = []
as_new (x ∷ xs) = record { frame = x.frame; mtu = 23 } ∷ as_new xs

-- a command with 21 bytes
sent-24 : sent_by (run knows widens) command ≡ record { frame = record { channel = 4; payload = 0x52 ∷ 0xFF ∷ 0xFF ∷ replicate 21 0 }; mtu = 247 } ∷ []
unfolding opened knowing known_store
sent-24 = refl

pub mtu-of-a-new-link : ((store : List ℕ) (cs : List Call) (c : Call) → Within (as_new (sent_by (run (fresh store) cs) c))) → ⊥
mtu-of-a-new-link p =
    let e = ap (λ (h : Held). sent_by h command) (from-there widens) ∙ sent-24 in
    beyond ((subst (λ (l : List Sent). Within (as_new l)) e (p store (known ++ widens) command)).0 refl)
  where
    beyond : 24 ≤ 23 → ⊥
    beyond e = omega arith

-- ---- counts

-- the steps of every batch, refused or not
abbrev pub handed_all : List Call → ℕ
handed_all [] = 0
handed_all (c ∷ cs) = handed c + handed_all cs

-- a batch with no output
abbrev unlent : List Call
unlent = batch [] (at 1) (only (placed (Wait (ms 1)) 0)) [] ∷ []

record Unlent : Type 0 where
  refused-is : (run (fresh store) unlent).state.counters.refused_steps ≡ 0
  taken_is : length (taken (fresh store) unlent) ≡ 0

none-taken : Unlent
unfolding opened
none-taken = record { refused-is = refl; taken_is = refl }

pub handed-in-by-refused-calls :
    ((store : List ℕ) (cs : List Call) → (run (fresh store) cs).state.counters.refused_steps + length (taken (fresh store) cs) ≡ handed_all cs) → ⊥
handed-in-by-refused-calls p = unequal 1 _ _ refl none-taken.refused-is none-taken.taken_is (sym (p store unlent))

-- notifications and indications of two bytes or more
abbrev pub is_brief : List ℕ → Bool
is_brief p = among (get_or p 0 0) (op_handle_value_ntf ∷ op_handle_value_ind ∷ []) && leb 2 (length p)

abbrev pub briefs : List News → ℕ
briefs [] = 0
briefs (link-came handle ∷ l) = briefs l
briefs (link-went ∷ l) = briefs l
briefs (att-heard p ∷ l) = pick (is_brief p) 1 0 + briefs l

record Told : Type 0 where
  notified-is : (run (fresh store) told).state.counters.notified ≡ 0
  briefs-is : briefs (heard silence (fresh store) told) ≡ 1

one-brief : Told
unfolding opened
one-brief = record { notified-is = refl; briefs-is = refl }

pub notices-of-two-bytes : ((store : List ℕ) (cs : List Call) → (run (fresh store) cs).state.counters.notified ≡ briefs (heard silence (fresh store) cs)) → ⊥
notices-of-two-bytes p = omega (arith, sym one-brief.notified-is ∙ p store told ∙ one-brief.briefs-is)

-- links that came, and links that went
abbrev pub comings_and_goings : List News → ℕ
comings_and_goings [] = 0
comings_and_goings (link-came handle ∷ l) = 1 + comings_and_goings l
comings_and_goings (link-went ∷ l) = 1 + comings_and_goings l
comings_and_goings (att-heard p ∷ l) = comings_and_goings l

abbrev parted : List Call
parted = linked ++ (disconnected (at 2) ∷ [])

record Parted : Type 0 where
  links-is : (run (fresh store) parted).state.counters.links ≡ 1
  both_is : comings_and_goings (heard silence (fresh store) parted) ≡ 2

one-parted : Parted
unfolding opened
one-parted = record { links-is = refl; both_is = refl }

pub lost-links-are-counted-too : ((store : List ℕ) (cs : List Call) → (run (fresh store) cs).state.counters.links ≡ comings_and_goings (heard silence (fresh store) cs)) → ⊥
lost-links-are-counted-too p = omega (arith, sym one-parted.links-is ∙ p store parted ∙ one-parted.both_is)

-- ---- requests: an event that must be there is not

abbrev total : (Event → ℕ) → List Event → ℕ
total f [] = 0
total f (e ∷ es) = f e + total f es

from : (f : Event → ℕ) (a b : List Event) → total f b ≤ total f (a ++ b)
from f [] b = omega arith
from f (e ∷ a) b = omega (arith, from f a b)

-- events with the number of the step that ran before
abbrev pub done_along : World → List Pass → List Event
done_along w [] = []
done_along w (p ∷ ps) = (asked_in w.held.state.running.index (sent_in w p.to) ++ results_of (gave w.held p.to.held)) ++ done_along p.to ps

abbrev pub events_before : Air → Held → List Call → List Event
events_before a h [] = []
events_before a h (c ∷ cs) =
    (news_of (news a c (does h c).refusal) ++ pick (done? h c) (done_along (begins h c) (goes h c)) []) ++ events_before (after a c (does h c).refusal) (left (does h c)) cs

-- the number of a step that asks
abbrev number : Event → ℕ
number (came n) = 0
number (asked i op) = i
number (result x) = 0

record Second : Type 0 where
  awaits-is : awaits (run (fresh store) asking_second).state.bearer ≡ true
  index_is : (run (fresh store) asking_second).state.running.index ≡ 1
  numbers-are : total number (events_before silence (fresh store) asking_second) ≡ 0

second-asks : Second
unfolding opened
second-asks = record { awaits-is = refl; index_is = refl; numbers-are = refl }

pub awaited-by-the-step-before :
    ((store : List ℕ) (cs : List Call) → awaits (run (fresh store) cs).state.bearer ≡ true → Awaited (events_before silence (fresh store) cs) (run (fresh store) cs).state) → ⊥
awaited-by-the-step-before p = missing _ _ (p store asking_second second-asks.awaits-is) second-asks.index_is second-asks.numbers-are
  where
    missing : (es : List Event) (c : Central) → Awaited es c → c.running.index ≡ 1 → total number es ≡ 0 → ⊥
    missing es c a i e =
        let t = from number a.before (asked c.running.index c.bearer.link.pending ∷ a.after) in
        omega (arith, i, sym (ap (total number) a.split) ∙ e, t)

-- a read's value is the whole response
pub record AnsweredWhole (es : List Event) (x : Valued StepResult) : Type 0 where
  pub before : List Event
  pub between : List Event
  pub after : List Event
  pub payload : List ℕ
  pub split : es ≡ before ++ (asked x.entry.index op_read_req ∷ (between ++ (came (att-heard payload) ∷ result x ∷ after)))
  pub calm : Calm between
  pub opcode : get_or payload 0 0 ≡ op_read_rsp
  pub value : x.value ≡ payload

-- a payload of one byte comes
abbrev single : Event → ℕ
single (came (link-came handle)) = 0
single (came link-went) = 0
single (came (att-heard p)) = pick (eqb (length p) 1) 1 0
single (asked i op) = 0
single (result x) = 0

pub value-with-the-opcode :
    ((store : List ℕ) (cs : List Call) (i : ℕ) → i < length (log (fresh store) cs) → (u : Uuid) → (get_or (taken (fresh store) cs) i no_queued).step ≡ Read u
    → (get_or (log (fresh store) cs) i no_valued).entry.status ≡ Ok → AnsweredWhole (events silence (fresh store) cs) (get_or (log (fresh store) cs) i no_valued)) → ⊥
value-with-the-opcode p =
    missing
    _
    _
    (p store (known ++ reading) 1 (subst (λ (l : List (Valued StepResult)). 1 < length l) (sym read-logged) (omega arith)) level read_taken
    (ap (λ (l : List (Valued StepResult)). (get_or l 1 no_valued).entry.status) read-logged))
    (ap (λ (l : List (Valued StepResult)). length (get_or l 1 no_valued).value) read-logged)
    (ap (total single) happened)
  where
    missing : (es : List Event) (x : Valued StepResult) → AnsweredWhole es x → length x.value ≡ 1 → total single es ≡ 0 → ⊥
    missing es x a n e =
        let rest = came (att-heard a.payload) ∷ result x ∷ a.after in
        let t = from single a.before (asked x.entry.index op_read_req ∷ (a.between ++ rest)) in
        let u = from single a.between rest in
        let l : single (came (att-heard a.payload)) ≡ 1 = ap (λ (k : ℕ). pick (eqb k 1) 1 0) (sym (ap length a.value) ∙ n) in
        omega (arith, l, sym (ap (total single) a.split) ∙ e, t, u)
