-- Over every sequence of calls from a fresh state, with any store, refused calls included.
use Prim.Native.Nat.{ℕ, ◌≤◌, ◌<◌}
use mathlib.Core.Path.{◌≡◌, refl, sym, ap, ◌∙◌, subst}
use mathlib.Core.Bool.{Bool, true, false, false≢true}
use mathlib.Core.List.{List, [], ◌∷◌, ◌++◌, append-nil, append_assoc}
use native.Mathlib.Omega.{arith}
use lib.ListN.{length, get_or-append}
use lib.Dec.{eqb}
use borrow.Author.Tests.{eqb-true}
use Rattle.bytes_base.specs.Choice.{pick}
use Rattle.lists.specs.Blocks.{Valued}
use Rattle.state.specs.Fresh.{no_queued, fresh_central}
use Rattle.state.specs.declared.Bearer.{Bearer}
use Rattle.state.specs.declared.Options.{Options}
use Rattle.state.specs.declared.Queued.{Queued}
use Rattle.state.specs.declared.Running.{Running}
use Rattle.state.specs.declared.StepResult.{StepResult}
use Rattle.state_rules.specs.Fit.{awaits}
use Rattle.state_rules.specs.Refusals.{long_frame}
use Rattle.script_rules.specs.World.{Held, World}
use Rattle.script_rules.specs.BatchSteps.{steps}
use Rattle.script_rules.specs.Waiting.{push_all}
use Rattle.script_rules.specs.Sound.{Sound}
use Rattle.script_rules.proofs.KeepTurns.{of-fit}
use Rattle.script_rules.specs.Outcome.{Outcome, done}
use Rattle.script_rules.proofs.CallLaws.{passed-batch}
use Rattle.link_rules.specs.Fragment as link
use Rattle.thm_trail.specs.Calls.{Call, batch, timer, connected, disconnected, advertising, scan_response, fragment, reads, does, left, fresh, run, gate_of, done?}
use Rattle.thm_trail.specs.Trail.{Pass, begins, goes, final}
use Rattle.thm_trail.specs.Log.{gave, given_in, given_by, log, room_for, takes_in, taken}
use Rattle.thm_trail.proofs.Ends.{refused_of, does-law}
use Rattle.thm_trail.proofs.Hops.{Hops, none, more}
use Rattle.thm_trail.proofs.Goes.{good}
use Rattle.thm_accounting.proofs.Books.{Books, sound-hop, books-hop}
use Rattle.thm_accounting.proofs.Accounting.{books-fresh, books-begins, books-refused, books-same, put_all}
use Rattle.thm_requests.specs.Events.{Event, asked}
use Rattle.thm_requests.proofs.Along.{events_in, events_along, events_by, events}
use Rattle.thm_requests.proofs.Watch.{Waits, waits-hop}
use Rattle.thm_requests.proofs.Good.{Good, good-hop}

-- es happened, l was given, q was taken in
pub record All (es : List Event) (l : List (Valued StepResult)) (q : List Queued) (h : Held) : Type 0 where
  pub books : Books l q h
  pub waits : Waits es h
  pub reads : Good es l q

all-hops : (es : List Event) (l : List (Valued StepResult)) (q : List Queued) {w : World} {ps : List Pass} → Hops w ps → Sound 65 w → All es l q w.held
    → All (es ++ events_along w ps) (l ++ given_in w ps) q (final w ps).held
all-hops es l q (none {w}) s a =
    subst (λ (t : List Event). All t (l ++ []) q w.held) (sym (append-nil es)) (subst (λ (t : List (Valued StepResult)). All es t q w.held) (sym (append-nil l)) a)
all-hops es l q (more {w} {p} {ps} x xs) s a =
    let new = events_in w p in
    let m = gave w.held p.to.held in
    subst (λ (t : List Event). All t (l ++ given_in w (p ∷ ps)) q (final p.to ps).held) (append_assoc es new (events_along p.to ps))
    (subst (λ (t : List (Valued StepResult)). All ((es ++ new) ++ events_along p.to ps) t q (final p.to ps).held) (append_assoc l m (given_in p.to ps))
    (all-hops (es ++ new) (l ++ m) q xs (sound-hop x s)
    (record { books = books-hop l q x s a.books; waits = waits-hop es l q x s a.books a.waits; reads = good-hop es l q x s a.books a.waits a.reads })))

-- ---- calls

-- the same link and the same running step
waits-same : (es : List Event) (h g : Held) → g.state.bearer.link ≡ h.state.bearer.link → g.state.bearer.present ≡ h.state.bearer.present → g.state.running ≡ h.state.running
    → Waits es h → Waits es g
waits-same es h g l p r i e =
    let a = i (sym (same g.state.bearer h.state.bearer l p) ∙ e) in
    record {
      runs = ap (λ (x : Running). x.active) r ∙ a.runs;
      before = a.before;
      after = a.after;
      split = a.split ∙ sym (two a.before a.after (ap (λ (x : Running). x.index) r) (ap (λ x. x.pending) l));
      calm = a.calm;
    }
  where
    same : (b d : Bearer) → b.link ≡ d.link → b.present ≡ d.present → awaits b ≡ awaits d
    same b d x y = rw (x, y)

    two : (b c : List Event) {i j k m : ℕ} → i ≡ j → k ≡ m → b ++ (asked i k ∷ c) ≡ b ++ (asked j m ∷ c)
    two b c x y = rw (x, y)

good-taken : (es : List Event) (l : List (Valued StepResult)) (q r : List Queued) → length l ≤ length q → Good es l q → Good es l (q ++ r)
good-taken es l q r k g i p u e f =
    let p' : i < length q = omega (arith, p, k) in
    g i p u (ap (λ (x : Queued). x.step) (sym (get_or-append q r no_queued i p')) ∙ e) f

waits-begins : (es : List Event) (l : List (Valued StepResult)) (q : List Queued) (h : Held) (c : Call) → done? h c ≡ true → Books l q h → Waits es h → Waits es (begins h c).held
waits-begins es l q h (batch out at b values) e k i =
    let p = passed-batch h.state (length h.store) (length out) at b (length values) (eqb-true (gate_of h (batch out at b values)) 0 e) in
    let x = put_all (length values) h values (steps b) p.fit k.sizes.queue (of-fit h.state p.shared.fit).waits.few in
    waits-same es h (push_all h values (steps b)) (ap (λ (b : Bearer). b.link) x.bearer) (ap (λ (b : Bearer). b.present) x.bearer) x.running i
waits-begins es l q h (timer out at) e k i = i
waits-begins es l q h (connected out handle at) e k i = i
waits-begins es l q h (disconnected at) e k i = i
waits-begins es l q h (advertising v) e k i = i
waits-begins es l q h (scan_response at a d) e k i = i
waits-begins es l q h (fragment out at start piece) e k i = i
waits-begins es l q h (reads r) e k i = i

waits-refused : (es : List Event) (h : Held) (c : Call) → Waits es h → Waits es (left (refused_of h c))
waits-refused es h (batch out at b values) i = i
waits-refused es h (timer out at) i = i
waits-refused es h (connected out handle at) i = i
waits-refused es h (disconnected at) i = i
waits-refused es h (advertising v) i = i
waits-refused es h (scan_response at a d) i = i
waits-refused es h (fragment out at start piece) i = go (eqb (gate_of h (fragment out at start piece)) long_frame)
  where
    go : (b : Bool) → Waits es (record { state = pick b (link.with_held h.state 0) h.state; store = h.store })
    go true = waits-same es h (record { state = link.with_held h.state 0; store = h.store }) refl refl refl i
    go false = i
waits-refused es h (reads r) i = i

all-call : (es : List Event) (l : List (Valued StepResult)) (q : List Queued) (h : Held) (c : Call) → All es l q h
    → All (es ++ events_by h c) (l ++ given_by h c) (q ++ takes_in h c) (left (does h c))
all-call es l q h c a = subst (λ (x : Outcome). All (es ++ events_by h c) (l ++ given_by h c) (q ++ takes_in h c) (left x)) (sym (does-law h c)) (go (done? h c) refl)
  where
    go : (x : Bool) → done? h c ≡ x
        → All (es ++ pick x (events_along (begins h c) (goes h c)) []) (l ++ pick x (given_in (begins h c) (goes h c)) []) (q ++ pick x (room_for h c) [])
        (left (pick x (done (final (begins h c) (goes h c))) (refused_of h c)))
    go true e =
        let g = good h c e a.books.sizes in
        all-hops es l (q ++ room_for h c) g.hops g.sound
        (record {
          books = books-begins l q h c e a.books;
          waits = waits-begins es l q h c e a.books a.waits;
          reads = good-taken es l q (room_for h c) a.books.fewer a.reads;
        })
    go false e =
        subst (λ (t : List Event). All t (l ++ []) (q ++ []) (left (refused_of h c))) (sym (append-nil es))
        (subst (λ (t : List (Valued StepResult)). All es t (q ++ []) (left (refused_of h c))) (sym (append-nil l))
        (record {
          books = books-same l q (left (refused_of h c)) (books-refused l q h c a.books);
          waits = waits-refused es h c a.waits;
          reads = good-taken es l q [] a.books.fewer a.reads;
        }))

all-run : (es : List Event) (l : List (Valued StepResult)) (q : List Queued) (h : Held) (cs : List Call) → All es l q h
    → All (es ++ events h cs) (l ++ log h cs) (q ++ taken h cs) (run h cs)
all-run es l q h [] a =
    subst (λ (t : List Event). All t (l ++ []) (q ++ []) h) (sym (append-nil es))
    (subst (λ (t : List (Valued StepResult)). All es t (q ++ []) h) (sym (append-nil l)) (subst (λ (t : List Queued). All es l t h) (sym (append-nil q)) a))
all-run es l q h (c ∷ cs) a =
    let g = left (does h c) in
    subst (λ (t : List Event). All t (l ++ log h (c ∷ cs)) (q ++ taken h (c ∷ cs)) (run g cs)) (append_assoc es (events_by h c) (events g cs))
    (subst (λ (t : List (Valued StepResult)). All ((es ++ events_by h c) ++ events g cs) t (q ++ taken h (c ∷ cs)) (run g cs)) (append_assoc l (given_by h c) (log g cs))
    (subst (λ (t : List Queued). All ((es ++ events_by h c) ++ events g cs) ((l ++ given_by h c) ++ log g cs) t (run g cs)) (append_assoc q (takes_in h c) (taken g cs))
    (all-run (es ++ events_by h c) (l ++ given_by h c) (q ++ takes_in h c) g cs (all-call es l q h c a))))

-- ---- from a fresh state

pub all : (options : Options) (store : List ℕ) (cs : List Call) → let h = fresh options store in All (events h cs) (log h cs) (taken h cs) (run h cs)
unfolding fresh_central
all options store cs =
    all-run [] [] [] (fresh options store) cs
    (record { books = books-fresh options store; waits = λ e. absurd (false≢true e); reads = λ (i : ℕ). λ (p : i < 0). absurd (omega arith) })
