-- A request has the number of the step that runs: as many results were given before it.
use Prim.Native.Nat.{ℕ, suc, ◌+◌}
use mathlib.Core.Path.{◌≡◌, refl, sym, ap, ◌∙◌, subst}
use mathlib.Core.Bool.{Bool, true, false, not, ◌&&◌, false≢true}
use mathlib.Core.List.{List, [], ◌∷◌, ◌++◌, append-nil, append_assoc}
use native.Mathlib.Omega.{arith}
use lib.ListN.{length, drop, get_or, length-append, length-drop, get_or-append}
use lib.Seq.{drop_at}
use lib.Dec.{eqb}
use borrow.Author.Tests.{eqb-true}
use Rattle.bytes_base.specs.Choice.{pick}
use Rattle.lists.specs.Blocks.{Valued}
use Rattle.time.specs.declared.Micros.{Micros}
use Rattle.state.specs.Fresh.{no_queued}
use Rattle.state.specs.Central.{Central}
use Rattle.state.specs.declared.Bearer.{Bearer}
use Rattle.state.specs.declared.Options.{Options}
use Rattle.state.specs.declared.Queued.{Queued}
use Rattle.state.specs.declared.StepResult.{StepResult}
use Rattle.state_rules.specs.Fit.{awaits, is_request}
use Rattle.state_rules.specs.Steps.{att_step}
use Rattle.script_rules.specs.World.{Held, World, on_held}
use Rattle.script_rules.specs.Ready.{Ready}
use Rattle.script_rules.specs.Waiting.{take_step, waiting}
use Rattle.script_rules.specs.Start.{ends, start}
use Rattle.script_rules.specs.Sound.{Sound}
use Rattle.script_rules.specs.Script.{can_go, step_once}
use Rattle.script_rules.specs.Unlinked.{step_unlinked}
use Rattle.script_rules.proofs.UnlinkedLaws.{step-unlinked}
use Rattle.script_rules.proofs.AdvanceLaws.{GoesOn, goes_on_lem}
use Rattle.link_rules.specs.Channel.{on_channel}
use Rattle.thm_trail.specs.Calls.{Call, does, left, fresh, done?}
use Rattle.thm_trail.specs.Trail.{News, Pass, met, parted, begins, goes}
use Rattle.thm_trail.specs.Log.{gave, given_in, given_by, room_for, takes_in, taken}
use Rattle.thm_trail.proofs.Hops.{Hop, ended, began, meets, parts, still, acted, Hops, none, more}
use Rattle.thm_trail.proofs.Goes.{good}
use Rattle.thm_wire.specs.Wire.{Sent, sent_in}
use Rattle.thm_accounting.proofs.Numbered.{Numbered, numbered-rest}
use Rattle.thm_accounting.proofs.Gives.{Gives, nothing, one, Whole}
use Rattle.thm_accounting.proofs.Starts.{gives-start}
use Rattle.thm_accounting.proofs.Channels.{gives-channel}
use Rattle.thm_accounting.proofs.Books.{Books, none-gave, kept-take, whole_take, whole, sound-hop, books-hop}
use Rattle.thm_accounting.proofs.Accounting.{books-fresh, books-begins, books-call}
use Rattle.thm_requests.specs.Events.{Event, came, asked, result, asks_for, asked_in, news_of, results_of}
use Rattle.thm_requests.specs.Turn.{OfItsStep, InTurn}
use Rattle.thm_requests.proofs.Along.{events_in, events_along, events_by, events}
use Rattle.thm_requests.proofs.Asks.{itself, Voice, Asks, calm, none as unawaited, asks}
use Rattle.thm_requests.proofs.Starts.{asks-start}
use Rattle.thm_requests.proofs.Channels.{asks-channel}
use Rattle.thm_requests.proofs.Watch.{sent-none, hushed-none, runs_on}
use Rattle.thm_requests.proofs.Good.{head-is}

-- ---- lists of events

-- the results among them
abbrev given : List Event → ℕ
given [] = 0
given (came x ∷ es) = given es
given (asked i op ∷ es) = given es
given (result x ∷ es) = suc (given es)

turn-append : (q : List Queued) (k : ℕ) (a b : List Event) → InTurn q k a → InTurn q (k + given a) b → InTurn q k (a ++ b)
turn-append q k [] b x y = let e : k + 0 ≡ k = omega arith in subst (λ (n : ℕ). InTurn q n b) e y
turn-append q k (came z ∷ a) b x y = turn-append q k a b x y
turn-append q k (asked i op ∷ a) b x y = (x.0, turn-append q k a b x.1 y)
turn-append q k (result z ∷ a) b x y =
    let e : k + suc (given a) ≡ suc k + given a = omega arith in
    (x.0, turn-append q (suc k) a b x.1 (subst (λ (n : ℕ). InTurn q n b) e y))

-- more is taken in
turn-taken : (q r : List Queued) (k : ℕ) (a : List Event) → InTurn q k a → InTurn (q ++ r) k a
turn-taken q r k [] x = tt
turn-taken q r k (came z ∷ a) x = turn-taken q r k a x
turn-taken q r k (asked i op ∷ a) x =
    let y = x.0 in (
      record {
        turn = y.turn;
        place = omega (arith, y.place, length-append q r);
        att = ap (λ (c : Queued). att_step c.step) (get_or-append q r no_queued i y.place) ∙ y.att;
      },
      turn-taken q r k a x.1,
    )
turn-taken q r k (result z ∷ a) x = (x.0, turn-taken q r (suc k) a x.1)

given-append : (a b : List Event) → given (a ++ b) ≡ given a + given b
given-append [] b = omega arith
given-append (came z ∷ a) b = given-append a b
given-append (asked i op ∷ a) b = given-append a b
given-append (result z ∷ a) b = omega (arith, given-append a b)

-- news give nothing
turn-news : (q : List Queued) (k : ℕ) (l : List News) (es : List Event) → InTurn q k es → InTurn q k (news_of l ++ es)
turn-news q k [] es t = t
turn-news q k (x ∷ l) es t = turn-news q k l es t

given-news : (l : List News) (es : List Event) → given (news_of l ++ es) ≡ given es
given-news [] es = refl
given-news (x ∷ l) es = given-news l es

-- nor do requests
turn-asked : (q : List Queued) (k : ℕ) (l : List Sent) (es : List Event) → OfItsStep q k k → InTurn q k es → InTurn q k (asked_in k l ++ es)
turn-asked q k [] es o t = t
turn-asked q k (x ∷ l) es o t = go (asks_for x.frame.channel x.frame.payload) (turn-asked q k l es o t)
  where
    go : (b : Bool) → InTurn q k (asked_in k l ++ es) → InTurn q k ((pick b (asked k (get_or x.frame.payload 0 0) ∷ []) [] ++ asked_in k l) ++ es)
    go true ih = (o, ih)
    go false ih = ih

given-asked : (i : ℕ) (l : List Sent) (es : List Event) → given (asked_in i l ++ es) ≡ given es
given-asked i [] es = refl
given-asked i (x ∷ l) es = go (asks_for x.frame.channel x.frame.payload) (given-asked i l es)
  where
    go : (b : Bool) → given (asked_in i l ++ es) ≡ given es → given ((pick b (asked i (get_or x.frame.payload 0 0) ∷ []) [] ++ asked_in i l) ++ es) ≡ given es
    go true ih = ih
    go false ih = ih

turn-results : (q : List Queued) (k : ℕ) (l : List (Valued StepResult)) → Numbered k l → InTurn q k (results_of l)
turn-results q k [] n = tt
turn-results q k (x ∷ l) n = (n.0, turn-results q (suc k) l n.1)

given-results : (l : List (Valued StepResult)) → given (results_of l) ≡ length l
given-results [] = refl
given-results (x ∷ l) = ap suc (given-results l)

-- ---- hops

-- nothing is asked between two worlds, or by the step that has number k
data Asked (q : List Queued) (k : ℕ) (w v : World) : Type 0 where
  nothing-asked : ((i : ℕ) → asked_in i (sent_in w v) ≡ []) → Asked q k w v
  by-step : v.held.state.running.index ≡ k → OfItsStep q k k → Asked q k w v

turn-events : (q : List Queued) (k : ℕ) (w : World) (p : Pass) → Asked q k w p.to → Numbered k (gave w.held p.to.held) → InTurn q k (events_in w p)
turn-events q k w p a n = turn-news q k p.came _ (go a)
  where
    m : List (Valued StepResult)
    m = gave w.held p.to.held

    i : ℕ
    i = p.to.held.state.running.index

    go : Asked q k w p.to → InTurn q k (asked_in i (sent_in w p.to) ++ results_of m)
    go (nothing-asked e) = subst (λ (t : List Event). InTurn q k (t ++ results_of m)) (sym (e i)) (turn-results q k m n)
    go (by-step e o) =
        subst (λ (j : ℕ). InTurn q k (asked_in j (sent_in w p.to) ++ results_of m)) (sym e) (turn-asked q k (sent_in w p.to) (results_of m) o (turn-results q k m n))

given-events : (w : World) (p : Pass) → given (events_in w p) ≡ length (gave w.held p.to.held)
given-events w p =
    let m = gave w.held p.to.held in
    given-news p.came _ ∙ given-asked p.to.held.state.running.index (sent_in w p.to) (results_of m) ∙ given-results m

-- a request is awaited where it went out on a link
not-zero : (n : ℕ) → is_request n ≡ true → not (eqb n 0) ≡ true
not-zero n e = go (eqb n 0) refl
  where
    go : (b : Bool) → eqb n 0 ≡ b → not b ≡ true
    go true f = absurd (false≢true (subst (λ (k : ℕ). is_request k ≡ true) (eqb-true n 0 f) e))
    go false f = refl

is-awaited : (b : Bearer) (op : ℕ) → b.present ≡ true → b.link.pending ≡ op → is_request op ≡ true → awaits b ≡ true
is-awaited b op p e r =
    ap (λ (x : Bool). x && not (eqb b.link.pending 0)) p ∙ ap (λ (n : ℕ). not (eqb n 0)) e ∙ not-zero op r

-- the step that runs then is the next of those taken in
of-step : (l m : List (Valued StepResult)) (q : List Queued) (v : World) → m ≡ [] → Books (l ++ m) q v.held → v.held.state.running.active ≡ true → awaits v.held.state.bearer ≡ true → Sound 65 v
    → OfItsStep q (length l) (length l)
of-step l m q v e b a p s =
    record {
      turn = refl;
      place = omega (arith, ap length front, length-drop (length l) q);
      att = ap (λ (c : Queued). att_step c.step) (head-is (length l) q x (waiting c.queue) front) ∙ s.nearly.asks.att p;
    }
  where
    c : Central
    c = v.held.state

    x : Queued
    x = record { step = c.running.step; len = c.running.len }

    front : x ∷ waiting c.queue ≡ drop (length l) q
    front =
        sym (ap (λ (y : Bool). pick y (x ∷ []) [] ++ waiting c.queue) a)
        ∙ b.line
        ∙ ap (λ (t : List (Valued StepResult)). drop (length (l ++ t)) q) e
        ∙ ap (λ (t : List (Valued StepResult)). drop (length t) q) (append-nil l)

next-number : (l m : List (Valued StepResult)) (q : List Queued) (h : Held) → m ≡ [] → Books (l ++ m) q h → h.state.running.active ≡ true → h.state.running.index ≡ length l
next-number l m q h e b a = b.number a ∙ ap (λ (t : List (Valued StepResult)). length (l ++ t)) e ∙ ap length (append-nil l)

-- from a world u that has sent what w has
asked-any : (l : List (Valued StepResult)) (q : List Queued) (w u v : World) → u.told ≡ w.told → Ready 64 w → Sound 65 v → v.held.state.bearer.present ≡ true
    → Books (l ++ gave w.held v.held) q v.held → (v.held.state.running.active ≡ true → gave w.held v.held ≡ []) → Asks u v → Asked q (length l) w v
asked-any l q w u v e r s p b g (calm c) = nothing-asked (λ i. hushed-none i w v r (subst (λ t. Voice t v.told) e c.voice))
asked-any l q w u v e r s p b g (unawaited n y) = nothing-asked (λ i. hushed-none i w v r (subst (λ t. Voice t v.told) e y))
asked-any l q w u v e r s p b g (asks a) =
    let m = gave w.held v.held in
    by-step (next-number l m q v.held (g a.active) b a.active)
    (of-step l m q v (g a.active) b a.active (is-awaited v.held.state.bearer (get_or a.pdu 0 0) p a.opcode a.request) s)

hushed-hop : (q : List Queued) (k : ℕ) (w : World) (g : Held) → Asked q k w (on_held w g)
hushed-hop q k w g = nothing-asked (λ i. ap (asked_in i) (sent-none w (on_held w g) (itself w.told)))

present-still : {at : Micros} {h g : Held} → Gives at h g → g.state.bearer.present ≡ h.state.bearer.present
present-still (nothing r) = r.same.present
present-still (one e) = e.same.present

asked-began : (l : List (Valued StepResult)) (q : List Queued) (w : World) (at : Micros) → can_go w.held.state ≡ true → Sound 65 w → Sound 65 (step_once w at) → Books l q w.held
    → Books (l ++ gave w.held (step_once w at).held) q (step_once w at).held → Asked q (length l) w (step_once w at)
unfolding take_step
asked-began l q w at g s s' b b' = go w.held.state.bearer.present refl
  where
    u : World
    u = on_held w (take_step w.held)

    k : Whole w.held
    k = whole w s b.sizes

    o : GoesOn w.held.state
    o = goes_on_lem w.held.state g

    x : Gives at u.held (start u at).held
    x = gives-start u at (whole_take w.held k)

    go : (p : Bool) → w.held.state.bearer.present ≡ p → Asked q (length l) w (step_once w at)
    go true e =
        asked-any l q w u (start u at) refl
        (record { store = s.ready.store; out = s.ready.out; results = s.ready.results; frames = omega (arith, s.budget, o.some); bytes = s.ready.bytes }) s' (present-still x ∙ e) b'
        (λ f. none-gave l q w.held (start u at).held b (runs_on x f ∙ kept-take w.held k s.nearly.waits.few))
        (asks-start u at refl s.nearly.linked.mtu_high)
    go false e = subst (λ (v : World). Asked q (length l) w v) (sym (step-unlinked w at e)) (hushed-hop q (length l) w (step_unlinked w.held at))

asked-hop : (l : List (Valued StepResult)) (q : List Queued) {w : World} {p : Pass} (x : Hop w p) → Sound 65 w → Sound 65 p.to → Books l q w.held
    → Books (l ++ gave w.held p.to.held) q p.to.held → Asked q (length l) w p.to
asked-hop l q (ended w at st n) s s' b b' = hushed-hop q (length l) w (ends w.held at st)
asked-hop l q (began w at t g) s s' b b' = asked-began l q w at g s s' b b'
asked-hop l q (meets w handle few) s s' b b' = hushed-hop q (length l) w (met w handle).held
asked-hop l q (parts w) s s' b b' = hushed-hop q (length l) w (parted w).held
asked-hop l q (still w g t) s s' b b' = hushed-hop q (length l) w g
asked-hop l q (acted w at channel n o t) s s' b b' =
    let v = on_channel w at channel n in
    let x : Gives at w.held v.held = gives-channel w at channel n o.short (whole w s b.sizes) in
    asked-any l q w w v refl
    (record { store = s.ready.store; out = s.ready.out; results = s.ready.results; frames = omega (arith, o.unsent); bytes = s.ready.bytes }) s' (present-still x ∙ o.present) b'
    (λ e. none-gave l q w.held v.held b (runs_on x e)) (asks-channel w at channel n)

-- ---- the invariant: es happened, l was given, q was taken in

record Turns (q : List Queued) (es : List Event) (l : List (Valued StepResult)) : Type 0 where
  turn : InTurn q 0 es
  count : given es ≡ length l

-- what a hop gives is numbered from there on
pub numbered-on : (l m : List (Valued StepResult)) (q : List Queued) (h : Held) → Books (l ++ m) q h → Numbered (length l) m
numbered-on l m q h b = subst (λ (z : List (Valued StepResult)). Numbered (length l) z) (drop_at l m (length l) refl) (numbered-rest (length l) (l ++ m) b.order)

turns-hop : (es : List Event) (l : List (Valued StepResult)) (q : List Queued) {w : World} {p : Pass} (x : Hop w p) → Sound 65 w → Books l q w.held → Turns q es l
    → Turns q (es ++ events_in w p) (l ++ gave w.held p.to.held)
turns-hop es l q {w} {p} x s b t =
    let m = gave w.held p.to.held in
    let b' = books-hop l q x s b in
    let n = numbered-on l m q p.to.held b' in
    let e : length l ≡ 0 + given es = omega (arith, t.count) in
    record {
      turn = turn-append q 0 es (events_in w p) t.turn (subst (λ (k : ℕ). InTurn q k (events_in w p)) e (turn-events q (length l) w p (asked-hop l q x s (sound-hop x s) b b') n));
      count = given-append es (events_in w p) ∙ omega (arith, t.count, given-events w p, length-append l m);
    }

-- nothing more
turns_same : (q : List Queued) (es : List Event) (l : List (Valued StepResult)) → Turns q es l → Turns q (es ++ []) (l ++ [])
turns_same q es l t = subst (λ (z : List Event). Turns q z (l ++ [])) (sym (append-nil es)) (subst (λ (z : List (Valued StepResult)). Turns q es z) (sym (append-nil l)) t)

turns-hops : (es : List Event) (l : List (Valued StepResult)) (q : List Queued) {w : World} {ps : List Pass} → Hops w ps → Sound 65 w → Books l q w.held → Turns q es l
    → Turns q (es ++ events_along w ps) (l ++ given_in w ps)
turns-hops es l q (none {w}) s b t = turns_same q es l t
turns-hops es l q (more {w} {p} {ps} x xs) s b t =
    let new = events_in w p in
    let m = gave w.held p.to.held in
    subst (λ (z : List Event). Turns q z (l ++ given_in w (p ∷ ps))) (append_assoc es new (events_along p.to ps))
    (subst (λ (z : List (Valued StepResult)). Turns q ((es ++ new) ++ events_along p.to ps) z) (append_assoc l m (given_in p.to ps))
    (turns-hops (es ++ new) (l ++ m) q xs (sound-hop x s) (books-hop l q x s b) (turns-hop es l q x s b t)))

turns-taken : (q r : List Queued) (es : List Event) (l : List (Valued StepResult)) → Turns q es l → Turns (q ++ r) es l
turns-taken q r es l t = record { turn = turn-taken q r 0 es t.turn; count = t.count }

turns-call : (es : List Event) (l : List (Valued StepResult)) (q : List Queued) (h : Held) (c : Call) → Books l q h → Turns q es l → Turns (q ++ takes_in h c) (es ++ events_by h c) (l ++ given_by h c)
turns-call es l q h c b t = go (done? h c) refl
  where
    go : (x : Bool) → done? h c ≡ x → Turns (q ++ pick x (room_for h c) []) (es ++ pick x (events_along (begins h c) (goes h c)) []) (l ++ pick x (given_in (begins h c) (goes h c)) [])
    go true e =
        let g = good h c e b.sizes in
        turns-hops es l (q ++ room_for h c) g.hops g.sound (books-begins l q h c e b) (turns-taken q (room_for h c) es l t)
    go false e = turns_same (q ++ []) es l (turns-taken q [] es l t)

turns-run : (es : List Event) (l : List (Valued StepResult)) (q : List Queued) (h : Held) (cs : List Call) → Books l q h → Turns q es l → InTurn (q ++ taken h cs) 0 (es ++ events h cs)
turns-run es l q h [] b t = (turns_same (q ++ []) es l (turns-taken q [] es l t)).turn
turns-run es l q h (c ∷ cs) b t =
    let g = left (does h c) in
    subst (λ (z : List Event). InTurn (q ++ taken h (c ∷ cs)) 0 z) (append_assoc es (events_by h c) (events g cs))
    (subst (λ (z : List Queued). InTurn z 0 ((es ++ events_by h c) ++ events g cs)) (append_assoc q (takes_in h c) (taken g cs))
    (turns-run (es ++ events_by h c) (l ++ given_by h c) (q ++ takes_in h c) g cs (books-call l q h c b) (turns-call es l q h c b t)))

pub in-turn : (options : Options) (store : List ℕ) (cs : List Call) → InTurn (taken (fresh options store) cs) 0 (events (fresh options store) cs)
in-turn options store cs = turns-run [] [] [] (fresh options store) cs (books-fresh options store) (record { turn = tt; count = refl })
