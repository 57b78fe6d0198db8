-- The handle reader says the handle of the last accepted connected call, while no accepted disconnected call came since.
use Prim.Native.Nat.{ℕ, zero, suc}
use mathlib.Core.Path.{◌≡◌, refl, sym, ap, ◌∙◌}
use mathlib.Core.Bool.{Bool, true, false}
use mathlib.Core.List.{List, [], ◌∷◌, ◌++◌}
use lib.ListN.{length}
use lib.Dec.{eqb}
use borrow.Author.Tests.{eqb-true, eq-eqb}
use Rattle.bytes_base.specs.Choice.{pick}
use Rattle.state_places.specs.Sizes.{store_size}
use Rattle.lists.specs.Blocks.{Valued}
use Rattle.time.specs.declared.Micros.{Micros}
use Rattle.state.specs.declared.Bearer.{Bearer}
use Rattle.state.specs.declared.Options.{Options}
use Rattle.state.specs.declared.Queued.{Queued}
use Rattle.state.specs.declared.StepResult.{StepResult}
use Rattle.state.specs.Fresh.{fresh_central}
use Rattle.state_rules.specs.Fit.{fits}
use Rattle.state_rules.specs.Refusals.{accepted, long_frame}
use Rattle.state_rules.specs.Gate.{gate_reader}
use Rattle.state_rules.proofs.GateLaws.{opens}
use Rattle.script_rules.specs.World.{Held, World, on_held, on_state}
use Rattle.script_rules.specs.BatchSteps.{steps}
use Rattle.script_rules.specs.Waiting.{take_step}
use Rattle.script_rules.specs.Start.{start}
use Rattle.script_rules.specs.Sound.{Sound}
use Rattle.script_rules.specs.Script.{can_go, step_once}
use Rattle.script_rules.specs.Outcome.{Outcome, done}
use Rattle.script_rules.specs.Events.{due, is_connect, goes_on}
use Rattle.script_rules.proofs.KeepTurns.{of-fit}
use Rattle.script_rules.proofs.CallLaws.{passed-batch}
use Rattle.l2cap.specs.Numbers.{cid_att}
use Rattle.link_rules.specs.Payload.{payload}
use Rattle.link_rules.specs.Channel.{on_channel}
use Rattle.link_rules.specs.Fragment.{dropped, gathered, frame_length, frame_channel, whole as whole-frame, with_held}
use Rattle.std.specs.Prelude.{Option, None, Some, Ok}
use Rattle.state_refusals.specs.Refused.{refused}
use Rattle.state_readers.specs.Readers.{handle_of, handle}
use Rattle.state_readers.specs.Numbers.{handle_words}
use Rattle.thm_trail.specs.Calls.{connected_handle, Call, batch, timer, connected, disconnected, advertising, scan_response, fragment, reads, does, left, fresh, run, gate_of, done?}
use Rattle.thm_trail.specs.Trail.{News, link-came, link-went, att-heard, Pass, pass, final, onwards, onward, then_onward, timer_trail, connected_trail, disconnected_trail, fragment_trail, came_on, begins, goes}
use Rattle.thm_trail.specs.Log.{gave, given_by, room_for, takes_in}
use Rattle.thm_trail.proofs.Ends.{refused_of, does-law, refusal_is}
use Rattle.thm_trail.proofs.Hops.{Hop, ended, began, meets, parts, still, acted, Hops, none, more}
use Rattle.thm_trail.proofs.Goes.{good}
use Rattle.thm_accounting.proofs.Gives.{Same, Gives, nothing, one}
use Rattle.thm_accounting.proofs.Starts.{gives-ends, gives-start}
use Rattle.thm_accounting.proofs.Channels.{gives-channel}
use Rattle.thm_accounting.proofs.Books.{Books, whole, whole_take, sound-hop, books-hop, after-hops}
use Rattle.thm_accounting.proofs.Accounting.{books-fresh, books-begins, books-call, put_all}
use Rattle.thm_readers.specs.Said.{said, link_by, refusals, link_after}

abbrev link_of : Held → Option ℕ
link_of h = handle_of h.state.bearer

same-link : (b d : Bearer) → b.present ≡ d.present → b.link.handle ≡ d.link.handle → handle_of b ≡ handle_of d
same-link b d e f = rw (e, f)

-- ---- what came in decides

abbrev by_news : List News → Option ℕ → Option ℕ
by_news [] x = x
by_news (link-came n ∷ ns) x = by_news ns (Some n)
by_news (link-went ∷ ns) x = by_news ns None
by_news (att-heard p ∷ ns) x = by_news ns x

abbrev by_trail : List Pass → Option ℕ → Option ℕ
by_trail [] x = x
by_trail (p ∷ ps) x = by_trail ps (by_news p.came x)

gives-link : {at : Micros} (h g : Held) → Gives at h g → link_of g ≡ link_of h
gives-link h g x = go (same x)
  where
    same : {at : Micros} → Gives at h g → Same h g
    same (nothing r) = r.same
    same (one e) = e.same

    go : Same h g → link_of g ≡ link_of h
    go s = same-link g.state.bearer h.state.bearer s.present s.handle

payload-news : (channel : ℕ) (p : List ℕ) (x : Option ℕ) → by_news (came_on channel p) x ≡ x
payload-news channel p x = go (eqb channel cid_att)
  where
    go : (b : Bool) → by_news (pick b (att-heard p ∷ []) []) x ≡ x
    go true = refl
    go false = refl

link-hop : (l : List (Valued StepResult)) (q : List Queued) {w : World} {p : Pass} → Hop w p → Sound 65 w → Books l q w.held → link_of p.to.held ≡ by_news p.came (link_of w.held)
unfolding take_step
link-hop l q (ended w at st n) s b = gives-link w.held _ (gives-ends w.held at st (whole w s b.sizes))
link-hop l q (began w at t g) s b =
    let u = on_held w (take_step w.held) in
    gives-link u.held (start u at).held (gives-start u at (whole_take w.held (whole w s b.sizes)))
link-hop l q (meets w handle few) s b = refl
link-hop l q (parts w) s b = refl
link-hop l q (still w g t) s b = same-link g.state.bearer w.held.state.bearer t.present (ap (λ k. k.handle) t.link)
link-hop l q (acted w at channel n o t) s b =
    gives-link w.held (on_channel w at channel n).held (gives-channel w at channel n o.short (whole w s b.sizes)) ∙ sym (payload-news channel _ (link_of w.held))

link-hops : (l : List (Valued StepResult)) (q : List Queued) {w : World} {ps : List Pass} → Hops w ps → Sound 65 w → Books l q w.held → link_of (final w ps).held ≡ by_trail ps (link_of w.held)
link-hops l q none s b = refl
link-hops l q (more {w} {p} {ps} x xs) s b =
    link-hops (l ++ gave w.held p.to.held) q xs (sound-hop x s) (books-hop l q x s b) ∙ ap (by_trail ps) (link-hop l q x s b)

-- ---- the trails

onwards-news : (n : ℕ) (w : World) (at : Micros) (x : Option ℕ) → by_trail (onwards n w at) x ≡ x
unfolding onwards
onwards-news zero w at x = refl
onwards-news (suc n) w at x = go (can_go w.held.state) (onwards-news n (step_once w at) at x)
  where
    go : (b : Bool) → by_trail (onwards n (step_once w at) at) x ≡ x → by_trail (pick b (pass (step_once w at) ∷ onwards n (step_once w at) at) []) x ≡ x
    go true ih = ih
    go false ih = refl

onward-news : (w : World) (at : Micros) (x : Option ℕ) → by_trail (onward w at) x ≡ x
onward-news w at x = onwards-news w.held.state.queue.count w at x

timer-news : (w : World) (at : Micros) (x : Option ℕ) → by_trail (timer_trail w at) x ≡ x
unfolding timer_trail
timer-news w at x = go (due w.held.state.running at) _ _
  where
    go : (b : Bool) (u v : World) → by_trail (pick b (pass u ∷ then_onward v at) []) x ≡ x
    go true u v = onward-news v at x
    go false u v = refl

connected-news : (w : World) (handle : ℕ) (at : Micros) (x : Option ℕ) → by_trail (connected_trail w handle at) x ≡ Some handle
unfolding connected_trail
connected-news w handle at x = go (is_connect w.held.state.running.step) _ _
  where
    go : (b : Bool) (v u : World) → by_trail (pick b (then_onward v at) (onward u at)) (Some handle) ≡ Some handle
    go true v u = onward-news v at (Some handle)
    go false v u = onward-news u at (Some handle)

disconnected-news : (w : World) (at : Micros) (x : Option ℕ) → by_trail (disconnected_trail w at) x ≡ None
unfolding disconnected_trail
disconnected-news w at x = go (goes_on w.held.state.running.step) _ _
  where
    go : (b : Bool) (u v : World) → by_trail (pick b (onward u at) (then_onward v at)) None ≡ None
    go true u v = onward-news u at None
    go false u v = onward-news v at None

fragment-news : (w : World) (at : Micros) (start : Bool) (piece : List ℕ) (x : Option ℕ) → by_trail (fragment_trail w at start piece) x ≡ x
unfolding fragment_trail
fragment-news w at start piece x = go (dropped w.held.state.bearer start) (whole-frame v.held)
  where
    v : World
    v = on_held w (gathered w.held start piece)

    u : World
    u = on_held v (on_state v.held (with_held v.held.state 0))

    channel : ℕ
    channel = frame_channel v.held

    p : List ℕ
    p = payload u.held (frame_length v.held)

    y : World
    y = on_channel u at channel (frame_length v.held)

    go : (a b : Bool) → by_trail (pick a [] (pass v ∷ pick b (pass u ∷ record { came = came_on channel p; to = y } ∷ onward y at) [])) x ≡ x
    go true b = refl
    go false true = onward-news y at (by_news (came_on channel p) x) ∙ payload-news channel p x
    go false false = refl

call-news : (h : Held) (c : Call) (x : Option ℕ) → by_trail (goes h c) x ≡ link_by c x
call-news h (batch out at b values) x = onward-news (begins h (batch out at b values)) at x
call-news h (timer out at) x = timer-news (begins h (timer out at)) at x
call-news h (connected out handle at) x = connected-news (begins h (connected out handle at)) handle at x
call-news h (disconnected at) x = disconnected-news (begins h (disconnected at)) at x
call-news h (advertising v) x = refl
call-news h (scan_response at a d) x = refl
call-news h (fragment out at start piece) x = fragment-news (begins h (fragment out at start piece)) at start piece x
call-news h (reads r) x = refl

-- ---- calls

link-begins : (l : List (Valued StepResult)) (q : List Queued) (h : Held) (c : Call) → done? h c ≡ true → Books l q h → link_of (begins h c).held ≡ link_of h
link-begins l q h (batch out at b values) e k =
    let p = passed-batch h.state (length h.store) (length out) at b (length values) (eqb-true (gate_of h (batch out at b values)) 0 e) in
    ap handle_of (put_all (length values) h values (steps b) p.fit k.sizes.queue (of-fit h.state p.shared.fit).waits.few).bearer
link-begins l q h (timer out at) e k = refl
link-begins l q h (connected out handle at) e k = refl
link-begins l q h (disconnected at) e k = refl
link-begins l q h (advertising v) e k = refl
link-begins l q h (scan_response at a d) e k = refl
link-begins l q h (fragment out at start piece) e k = refl
link-begins l q h (reads r) e k = refl

link-refused : (h : Held) (c : Call) → link_of (left (refused_of h c)) ≡ link_of h
link-refused h (batch out at b values) = refl
link-refused h (timer out at) = refl
link-refused h (connected out handle at) = refl
link-refused h (disconnected at) = refl
link-refused h (advertising v) = refl
link-refused h (scan_response at a d) = refl
link-refused h (fragment out at start piece) = go (eqb (gate_of h (fragment out at start piece)) long_frame)
  where
    go : (b : Bool) → handle_of (pick b (with_held h.state 0) h.state).bearer ≡ link_of h
    go true = refl
    go false = refl
link-refused h (reads r) = refl

-- a refused call leaves the store
store-refused : (h : Held) (c : Call) → (refused_of h c).store ≡ h.store
store-refused h (batch out at b values) = refl
store-refused h (timer out at) = refl
store-refused h (connected out handle at) = refl
store-refused h (disconnected at) = refl
store-refused h (advertising v) = refl
store-refused h (scan_response at a d) = refl
store-refused h (fragment out at start piece) = refl
store-refused h (reads r) = refl

link-call : (l : List (Valued StepResult)) (q : List Queued) (h : Held) (c : Call) → Books l q h → link_of (left (does h c)) ≡ pick (eqb (does h c).refusal accepted) (link_by c (link_of h)) (link_of h)
link-call l q h c b =
    ap (λ (x : Outcome). link_of (left x)) (does-law h c) ∙ go (done? h c) refl ∙ ap (λ (n : ℕ). pick (eqb n accepted) (link_by c (link_of h)) (link_of h)) (sym (refusal_is h c))
  where
    go : (x : Bool) → done? h c ≡ x → link_of (left (pick x (done (final (begins h c) (goes h c))) (refused_of h c))) ≡ pick x (link_by c (link_of h)) (link_of h)
    go true e =
        let g = good h c e b.sizes in
        link-hops l (q ++ room_for h c) g.hops g.sound (books-begins l q h c e b)
        ∙ call-news h c (link_of (begins h c).held)
        ∙ ap (link_by c) (link-begins l q h c e b)
    go false e = link-refused h c

-- the store keeps its size
sized-call : (l : List (Valued StepResult)) (q : List Queued) (h : Held) (c : Call) → Books l q h → length h.store ≡ store_size → length (left (does h c)).store ≡ store_size
sized-call l q h c b z = ap (λ (x : Outcome). length x.store) (does-law h c) ∙ go (done? h c) refl
  where
    go : (x : Bool) → done? h c ≡ x → length (pick x (done (final (begins h c) (goes h c))) (refused_of h c)).store ≡ store_size
    go true e =
        let g = good h c e b.sizes in
        (after-hops l (q ++ room_for h c) g.hops (record { sound = g.sound; books = books-begins l q h c e b })).sound.ready.store
    go false e = ap length (store-refused h c) ∙ z

-- ---- sequences

link-run : (l : List (Valued StepResult)) (q : List Queued) (h : Held) (cs : List Call) → Books l q h → link_of (run h cs) ≡ link_after (link_of h) cs (refusals h cs)
link-run l q h [] b = refl
link-run l q h (c ∷ cs) b =
    link-run (l ++ given_by h c) (q ++ takes_in h c) (left (does h c)) cs (books-call l q h c b)
    ∙ ap (λ (x : Option ℕ). link_after x cs (refusals (left (does h c)) cs)) (link-call l q h c b)

sized-run : (l : List (Valued StepResult)) (q : List Queued) (h : Held) (cs : List Call) → Books l q h → length h.store ≡ store_size → length (run h cs).store ≡ store_size
sized-run l q h [] b z = z
sized-run l q h (c ∷ cs) b z = sized-run (l ++ given_by h c) (q ++ takes_in h c) (left (does h c)) cs (books-call l q h c b) (sized-call l q h c b z)

-- a fit state and a store of its size: a reader answers
pub answers : (options : Options) (store : List ℕ) (cs : List Call) → let h = run (fresh options store) cs in fits h.state ≡ true → length store ≡ store_size → gate_reader h.state (length h.store) ≡ 0
answers options store cs f z =
    let h = run (fresh options store) cs in
    opens (fits h.state) (eqb (length h.store) store_size) true f (eq-eqb (length h.store) store_size (sized-run [] [] (fresh options store) cs (books-fresh options store) z)) refl

pub handle-said : (options : Options) (store : List ℕ) (cs : List Call) → let h = run (fresh options store) cs in gate_reader h.state (length h.store) ≡ 0
    → said h connected_handle ≡ handle_words (Ok (link_after None cs (refusals (fresh options store) cs)))
unfolding handle fresh_central
handle-said options store cs e =
    let h = run (fresh options store) cs in
    ap (λ (b : Bool). handle_words (pick b (Ok (link_of h)) (refused (gate_reader h.state (length h.store))))) (eq-eqb (gate_reader h.state (length h.store)) 0 e)
    ∙ ap (λ (x : Option ℕ). handle_words (Ok x)) (link-run [] [] (fresh options store) cs (books-fresh options store))
