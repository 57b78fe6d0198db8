-- What each call gives, and what it leaves of all that waits go by.
use Prim.Native.Nat.{ℕ, suc, ◌+◌, ◌-◌, ◌≤◌, ◌<◌}
use mathlib.Core.Path.{◌≡◌, refl, sym, ap, ◌∙◌, subst}
use mathlib.Core.Bool.{Bool, true, false, ◌||◌}
use mathlib.Core.List.{List, [], ◌∷◌, ◌++◌, append-nil}
use native.Mathlib.Omega.{arith}
use lib.ListN.{length, take}
use lib.Seq.{drop-append-le}
use lib.Dec.{ltb}
use borrow.Author.Tests.{eqb-true, ltb-true}
use Rattle.bytes_base.specs.Choice.{pick}
use Rattle.bytes_base.specs.Splice.{splice}
use Rattle.lists.specs.Queue.{all}
use Rattle.lists.proofs.ScanLaws.{all_head, all_tail}
use Rattle.lists.specs.Blocks.{Valued}
use Rattle.lists.proofs.BlockLaws.{drop_past}
use Rattle.state_places.specs.Sizes.{most_steps, value_size, waiting_at, notification_at, frame_size}
use Rattle.time.specs.declared.Micros.{Micros}
use Rattle.time.specs.Clock.{latest}
use Rattle.notifications.specs.declared.Notification.{Notification}
use Rattle.state.specs.Central.{with_queue, with_counters}
use Rattle.state.specs.declared.Queued.{Queued}
use Rattle.state.specs.declared.StepResult.{StepResult}
use Rattle.state.specs.declared.StepStatus.TheVariants.{Ok}
use Rattle.state_rules.specs.Refusals.{accepted}
use Rattle.state_rules.proofs.GateLaws.{passed, passed-quiet}
use Rattle.script_rules.specs.World.{Held, World, on_held, on_state}
use Rattle.script_rules.specs.declared.Placed.{Placed}
use Rattle.script_rules.specs.Start.{ends}
use Rattle.script_rules.specs.BatchSteps.{value_len, queued, steps}
use Rattle.script_rules.specs.Batch.{placed_fits}
use Rattle.script_rules.specs.Waiting.{waiting, queueing, refusing, push_one, push_all}
use Rattle.script_rules.specs.Sound.{Sound}
use Rattle.script_rules.specs.Events.{timed_out, due, given_up, is_connect, goes_on, cut_status}
use Rattle.script_rules.proofs.KeepTurns.{Stays, of-fit}
use Rattle.script_rules.proofs.CallLaws.{passed-batch}
use Rattle.script_rules.proofs.CallBeginLaws.{passed-connected}
use Rattle.radio_rules.proofs.HearingLaws as radio-laws
use Rattle.link_rules.specs.Payload.{payload}
use Rattle.link_rules.specs.Channel.{on_channel}
use Rattle.link_rules.specs.Fragment as rules
use Rattle.link_rules.proofs.FragmentLaws.{PassedFragment, passed-fragment}
use Rattle.link_rules.proofs.KeepFrames.{stays-gathered, stays-held, comes-linked, whole-short}
use Rattle.link_rules.proofs.KeepChannel.{sound-channel}
use Rattle.thm_trail.specs.Calls.{Call, batch, timer, connected, disconnected, advertising, scan_response, fragment, reads, time_of, gate_of, done?}
use Rattle.thm_trail.specs.Trail.{News, link-came, link-went, Pass, pass, final, begins, goes, met, parted, onward, then_onward, came_on, timer_trail, connected_trail, disconnected_trail, fragment_trail}
use Rattle.thm_trail.specs.Log.{gave, given_in, queued_all, room_for}
use Rattle.thm_trail.proofs.Hops.{Still, still-values, Open, Hop, still, Hops, more, AllAt, onward-hops}
use Rattle.thm_trail.proofs.Goes.{good, shown, still-gathered, still-emptied}
use Rattle.thm_accounting.proofs.Gives.{kept-values}
use Rattle.thm_accounting.proofs.Books.{Books, whole, none-gave, sound-hop, books-hop}
use Rattle.thm_accounting.proofs.Accounting.{short-value, books-begins}
use Rattle.thm_heard.proofs.Tied.{Tied}
use Rattle.thm_heard.proofs.Brings.{Quiet, news_along, brings-quiet, quiet-onward}
use Rattle.thm_heard.proofs.Calls.{hearing}
use Rattle.thm_waits.specs.Notices.{notices_in, Brought, brings}
use Rattle.thm_waits.specs.Waits.{passed_in, values_at, values_for}
use Rattle.thm_waits.proofs.Counting.{Each, each_append}
use Rattle.thm_waits.proofs.Ears.{Ear, ear-same}
use Rattle.thm_waits.proofs.Line.{Small, small-drop, Line, push-all, small-queued}
use Rattle.thm_waits.proofs.Trails.{Going, Went, went-quiet, went-acted, went_then, went-hops}

-- ---- a batch goes in: the values of steps stand below the notifications

module _ {F : ℕ} {L : List (Valued Notification)} {N : ℕ} {P b : Bool} where
  ear-push : (h : Held) (values : List ℕ) (p : Placed) → value_len p ≤ value_size → Ear F L N P b h → Ear F L N P b (push_one h values p)
  unfolding push_one
  ear-push h values p m x = go (ltb n most_steps) refl
    where
      n : ℕ
      n = h.state.queue.count

      go : (y : Bool) → ltb n most_steps ≡ y
          → Ear F L N P b
          (pick y
          (record {
            state = with_queue h.state (queueing h.state.queue (waiting h.state.queue ++ (queued p ∷ [])));
            store = splice h.store (waiting_at n) values p.place (value_len p);
          })
          (record { state = with_counters h.state (refusing h.state.counters); store = h.store }))
      go true e =
          let r : n < most_steps = ltb-true n most_steps e in
          ear-same x refl refl refl refl refl (drop_past h.store (waiting_at n) values p.place (value_len p) (notification_at 0) (omega (arith, r, m)))
      go false e = ear-same x refl refl refl refl refl refl

  ear-pushes : (size : ℕ) (h : Held) (values : List ℕ) (ps : List Placed) → all (placed_fits size) ps ≡ true → Ear F L N P b h → Ear F L N P b (push_all h values ps)
  unfolding push_all
  ear-pushes size h values [] f x = x
  ear-pushes size h values (p ∷ ps) f x =
      ear-pushes size (push_one h values p) values ps (all_tail (placed_fits size) p ps f) (ear-push h values p (short-value size p (all_head (placed_fits size) p ps f)) x)

-- ---- where a call begins

-- what holds between calls: B was brought, a wait counts from F on, l was given, q was taken in, with the values vs
pub record Between (B : Brought) (F : ℕ) (P : Bool) (l : List (Valued StepResult)) (q : List Queued) (vs : List (List ℕ)) (h : Held) : Type 0 where
  pub books : Books l q h
  pub tied : Tied B.air h
  pub ear : Ear F B.notices B.links P false h
  pub line : Line vs l h
  pub small : Small q
  pub many : length vs ≡ length q

many-values : (values : List ℕ) (ps : List Placed) → length (values_at values ps) ≡ length (queued_all ps)
many-values values [] = refl
many-values values (p ∷ ps) = ap suc (many-values values ps)

pub many-for : (h : Held) (c : Call) → length (values_for h c) ≡ length (room_for h c)
many-for h (batch out at b values) = many-values values (take (most_steps - h.state.queue.count) (steps b))
many-for h (timer out at) = refl
many-for h (connected out handle at) = refl
many-for h (disconnected at) = refl
many-for h (advertising v) = refl
many-for h (scan_response at a d) = refl
many-for h (fragment out at start piece) = refl
many-for h (reads r) = refl

pub small-more : (q : List Queued) (h : Held) (c : Call) → done? h c ≡ true → Small q → Small (q ++ room_for h c)
small-more q h (batch out at b values) e s =
    let p = passed-batch h.state (length h.store) (length out) at b (length values) (eqb-true (gate_of h (batch out at b values)) 0 e) in
    each_append (λ (x : Queued). x.len ≤ value_size) q (room_for h (batch out at b values)) s (small-queued (length values) (most_steps - h.state.queue.count) (steps b) p.fit)
small-more q h (timer out at) e s = each_append (λ (x : Queued). x.len ≤ value_size) q [] s tt
small-more q h (connected out handle at) e s = each_append (λ (x : Queued). x.len ≤ value_size) q [] s tt
small-more q h (disconnected at) e s = each_append (λ (x : Queued). x.len ≤ value_size) q [] s tt
small-more q h (advertising v) e s = each_append (λ (x : Queued). x.len ≤ value_size) q [] s tt
small-more q h (scan_response at a d) e s = each_append (λ (x : Queued). x.len ≤ value_size) q [] s tt
small-more q h (fragment out at start piece) e s = each_append (λ (x : Queued). x.len ≤ value_size) q [] s tt
small-more q h (reads r) e s = each_append (λ (x : Queued). x.len ≤ value_size) q [] s tt

-- a call that takes in nothing
line-nil : (vs : List (List ℕ)) (l : List (Valued StepResult)) (h : Held) → Line vs l h → Line (vs ++ []) l h
line-nil vs l h e = subst (λ (t : List (List ℕ)). Line t l h) (sym (append-nil vs)) e

module _ (B : Brought) (F : ℕ) (P : Bool) (l : List (Valued StepResult)) (q : List Queued) (vs : List (List ℕ)) (h : Held) (i : Between B F P l q vs h) where
  ear-begins : (c : Call) → done? h c ≡ true → Ear F B.notices B.links P false (begins h c).held
  ear-begins (batch out at b values) e =
      let p = passed-batch h.state (length h.store) (length out) at b (length values) (eqb-true (gate_of h (batch out at b values)) 0 e) in
      ear-pushes (length values) h values (steps b) p.fit i.ear
  ear-begins (timer out at) e = i.ear
  ear-begins (connected out handle at) e = i.ear
  ear-begins (disconnected at) e = i.ear
  ear-begins (advertising v) e = i.ear
  ear-begins (scan_response at a d) e = i.ear
  ear-begins (fragment out at start piece) e = i.ear
  ear-begins (reads r) e = i.ear

  line-begins : (c : Call) → done? h c ≡ true → Line (vs ++ values_for h c) l (begins h c).held
  line-begins (batch out at b values) e =
      let p = passed-batch h.state (length h.store) (length out) at b (length values) (eqb-true (gate_of h (batch out at b values)) 0 e) in
      let new = values_for h (batch out at b values) in
      push-all h values (steps b) p.fit p.shared.store i.books.sizes.queue (of-fit h.state p.shared.fit).waits.few
      (subst Small (sym i.books.line) (small-drop (length l) q i.small))
      ∙ ap (λ (t : List (List ℕ)). t ++ new) i.line
      ∙ sym (drop-append-le (length l) vs new (omega (arith, i.books.fewer, i.many)))
  line-begins (timer out at) e = line-nil vs l h i.line
  line-begins (connected out handle at) e = line-nil vs l h i.line
  line-begins (disconnected at) e = line-nil vs l h i.line
  line-begins (advertising v) e = line-nil vs l h i.line
  line-begins (scan_response at a d) e = line-nil vs l h i.line
  line-begins (fragment out at start piece) e = line-nil vs l h i.line
  line-begins (reads r) e = line-nil vs l h i.line

  going-begins : (c : Call) (e : done? h c ≡ true) → Going F B.notices B.links P false l (q ++ room_for h c) (vs ++ values_for h c) (begins h c)
  going-begins c e = record { sound = (good h c e i.books.sizes).sound; books = books-begins l q h c e i.books; ear = ear-begins c e; line = line-begins c e }

-- the time of a call that is done
in-time : (h : Held) (c : Call) → done? h c ≡ true → (time_of c).0 ≤ latest
in-time h (batch out at b values) e = (passed-batch h.state (length h.store) (length out) at b (length values) (eqb-true (gate_of h (batch out at b values)) 0 e)).shared.time
in-time h (timer out at) e = (passed h.state (length h.store) (length out) at (eqb-true (gate_of h (timer out at)) 0 e)).time
in-time h (connected out handle at) e = (passed-connected h.state (length h.store) (length out) at (eqb-true (gate_of h (connected out handle at)) 0 e)).shared.time
in-time h (disconnected at) e = (passed-quiet h.state (length h.store) at (eqb-true (gate_of h (disconnected at)) 0 e)).time
in-time h (advertising v) e = (shown h.state (length h.store) v (eqb-true (gate_of h (advertising v)) 0 e)).gate.time
in-time h (scan_response at a d) e = (radio-laws.passed h.state (length h.store) at (length d) (eqb-true (gate_of h (scan_response at a d)) 0 e)).gate.time
in-time h (fragment out at start piece) e = (passed-fragment h.state (length h.store) (length out) at start (length piece) (eqb-true (gate_of h (fragment out at start piece)) 0 e)).shared.time
in-time h (reads r) e = omega arith

-- ---- a call that is done

-- new was given up to v: B is brought now
pub record Did (W : Held → Type 0) (B : Brought) (F : ℕ) (at : Micros) (l : List (Valued StepResult)) (q : List Queued) (vs : List (List ℕ)) (v : World)
    (new : List (Valued StepResult)) : Type 0 where
  pub P : Bool
  pub went : Went W F B.notices B.links P false at l q vs v new

-- a link comes or goes first: the same books
books-first : (l : List (Valued StepResult)) (q : List Queued) {w : World} {p : Pass} (x : Hop w p) → Sound 65 w → Books l q w.held → gave w.held p.to.held ≡ [] → Books l q p.to.held
books-first l q {w} {p} x s b e =
    subst (λ (t : List (Valued StepResult)). Books t q p.to.held) (ap (λ (t : List (Valued StepResult)). l ++ t) e ∙ append-nil l) (books-hop l q x s b)

quiet-timer : (w : World) (at : Micros) → Quiet (timer_trail w at)
unfolding timer_trail
quiet-timer w at = go (due w.held.state.running at)
  where
    u : World
    u = on_held w (given_up w.held)

    v : World
    v = on_held u (ends u.held at (timed_out w.held.state.running.step))

    go : (b : Bool) → Quiet (pick b (pass u ∷ then_onward v at) [])
    go true = (refl, (refl, quiet-onward v at))
    go false = tt

module _ (W : Held → Type 0) {F : ℕ} {L : List (Valued Notification)} {N : ℕ} {P : Bool} (at : Micros) (time : at.0 ≤ latest) (l : List (Valued StepResult)) (q : List Queued)
    (vs : List (List ℕ)) (small : Small q) (w : World) (g : Going F L N P false l q vs w) where
  -- the first hop gives nothing
  after_first : {v : World} {n : ℕ} {r : Bool} (p : Pass) (ps : List Pass) → gave w.held p.to.held ≡ [] → Went W F L n r false at l q vs v (given_in p.to ps)
      → Went W F L n r false at l q vs v (given_in w (p ∷ ps))
  after_first {v} {n} {r} p ps e x = subst (λ (t : List (Valued StepResult)). Went W F L n r false at l q vs v (t ++ given_in p.to ps)) (sym e) x

  went-connected : (handle : ℕ) (xs : Hops w (connected_trail w handle at)) → AllAt at xs → Each (λ (y : Pass). W y.to.held) (connected_trail w handle at)
      → Went W F L (N + 1) true false at l q vs (final w (connected_trail w handle at)) (given_in w (connected_trail w handle at))
  unfolding connected_trail
  went-connected handle xs t k = go (is_connect u.held.state.running.step) xs t k
    where
      u : World
      u = met w handle

      v : World
      v = on_held u (ends u.held at Ok)

      p : Pass
      p = record { came = link-came handle ∷ []; to = u }

      none-given : gave w.held u.held ≡ []
      none-given = none-gave l q w.held u.held g.books refl

      ear : Ear F L (N + 1) true false u.held
      ear = record { cells = g.ear.cells; table = g.ear.table; many = g.ear.many; from = g.ear.from; links = ap (λ (k : ℕ). k + 1) g.ear.links; present = refl }

      rest : (ps : List Pass) → Quiet ps → (ys : Hops w (p ∷ ps)) → AllAt at ys → Each (λ (y : Pass). W y.to.held) ps → Went W F L (N + 1) true false at l q vs (final u ps) (given_in w (p ∷ ps))
      rest ps c (more x ys) z k =
          after_first p ps none-given
          (went-hops W at time q vs small l ys z.1 c k
          (record { sound = sound-hop x g.sound; books = books-first l q x g.sound g.books none-given; ear = ear; line = g.line }))

      go : (b : Bool) (ys : Hops w (p ∷ pick b (then_onward v at) (onward u at))) → AllAt at ys → Each (λ (y : Pass). W y.to.held) (p ∷ pick b (then_onward v at) (onward u at))
          → Went W F L (N + 1) true false at l q vs (final u (pick b (then_onward v at) (onward u at))) (given_in w (p ∷ pick b (then_onward v at) (onward u at)))
      go true ys z k = rest (then_onward v at) (refl, quiet-onward v at) ys z k.1
      go false ys z k = rest (onward u at) (quiet-onward u at) ys z k.1

  went-disconnected : (xs : Hops w (disconnected_trail w at)) → AllAt at xs → Each (λ (y : Pass). W y.to.held) (disconnected_trail w at)
      → Went W F L N false false at l q vs (final w (disconnected_trail w at)) (given_in w (disconnected_trail w at))
  unfolding disconnected_trail
  went-disconnected xs t k = go (goes_on u.held.state.running.step) xs t k
    where
      u : World
      u = parted w

      v : World
      v = on_held u (ends u.held at (cut_status u.held.state.running.step))

      p : Pass
      p = record { came = link-went ∷ []; to = u }

      none-given : gave w.held u.held ≡ []
      none-given = none-gave l q w.held u.held g.books refl

      ear : Ear F L N false false u.held
      ear = record { cells = g.ear.cells; table = g.ear.table; many = g.ear.many; from = g.ear.from; links = g.ear.links; present = refl }

      rest : (ps : List Pass) → Quiet ps → (ys : Hops w (p ∷ ps)) → AllAt at ys → Each (λ (y : Pass). W y.to.held) ps → Went W F L N false false at l q vs (final u ps) (given_in w (p ∷ ps))
      rest ps c (more x ys) z k =
          after_first p ps none-given
          (went-hops W at time q vs small l ys z.1 c k
          (record { sound = sound-hop x g.sound; books = books-first l q x g.sound g.books none-given; ear = ear; line = g.line }))

      go : (b : Bool) (ys : Hops w (p ∷ pick b (onward u at) (then_onward v at))) → AllAt at ys → Each (λ (y : Pass). W y.to.held) (p ∷ pick b (onward u at) (then_onward v at))
          → Went W F L N false false at l q vs (final u (pick b (onward u at) (then_onward v at))) (given_in w (p ∷ pick b (onward u at) (then_onward v at)))
      go true ys z k = rest (onward u at) (quiet-onward u at) ys z k.1
      go false ys z k = rest (then_onward v at) (refl, quiet-onward v at) ys z k.1

  -- the script stands still
  going-still : (i : Held) → Still w.held i → W i → (gave w.held i ≡ []) × Going F L N P false l q vs (on_held w i)
  going-still i t there =
      let none-given = none-gave l q w.held i g.books (kept-values w.held i (whole w g.sound g.books.sizes) t.results (still-values t)) in
      let y = went-quiet W at time l q vs small (still w i t) tt refl there g in
      (none-given, same none-given y.going)
    where
      same : gave w.held i ≡ [] → Going F L N P (false || passed_in q (gave w.held i)) (l ++ gave w.held i) q vs (on_held w i) → Going F L N P false l q vs (on_held w i)
      same e x =
          subst (λ (t : List (Valued StepResult)). Going F L N P false t q vs (on_held w i)) (append-nil l)
          (subst (λ (t : List (Valued StepResult)). Going F L N P (passed_in q t) (l ++ t) q vs (on_held w i)) e x)

-- ---- a fragment

module _ (W : Held → Type 0) {F : ℕ} {L : List (Valued Notification)} {N : ℕ} {P : Bool} (l : List (Valued StepResult)) (q : List Queued) (vs : List (List ℕ)) (small : Small q) (h : Held)
    (out : List ℕ) (at : Micros) (start : Bool) (piece : List ℕ)
    (pf : PassedFragment h.state (length h.store) (length out) at start (length piece)) (g : Going F L N P false l q vs (begins h (fragment out at start piece))) where
  abbrev w : World
  w = begins h (fragment out at start piece)

  abbrev v : World
  v = on_held w (rules.gathered h start piece)

  abbrev u : World
  u = on_held v (on_state v.held (rules.with_held v.held.state 0))

  abbrev n : ℕ
  n = rules.frame_length v.held

  abbrev channel : ℕ
  channel = rules.frame_channel v.held

  abbrev x : World
  x = on_channel u at channel n

  abbrev read : Pass
  read = record { came = came_on channel (payload u.held n); to = x }

  abbrev trail : Bool → Bool → List Pass
  trail d f = pick d [] (pass v ∷ pick f (pass u ∷ read ∷ onward x at) [])

  module _ (kept : rules.dropped h.state.bearer start ≡ false) (through-v : W v.held) where
    few : rules.held_before h.state.bearer start + length piece ≤ frame_size
    few = pf.room kept

    first : Stays h v.held
    first = stays-gathered h start piece few g.sound.nearly

    second : Stays v.held u.held
    second = stays-held v.held 0 v.held.store (omega arith) refl first.nearly

    at-v : (gave w.held v.held ≡ []) × Going F L N P false l q vs v
    at-v = going-still W at pf.shared.time l q vs small w g v.held (still-gathered h start piece first) through-v

    at-u : W u.held → (gave v.held u.held ≡ []) × Going F L N P false l q vs u
    at-u k = going-still W at pf.shared.time l q vs small v at-v.1 u.held (still-emptied v.held second) k

    opened : W u.held → rules.whole v.held ≡ true → Open at n u
    unfolding rules.gathered
    opened k f =
        record {
          sound = (at-u k).1.sound;
          unsent = refl;
          present = comes-linked h.state.bearer start kept;
          short = whole-short v.held few f;
          notified = pf.notified;
          time = pf.shared.time;
        }

    went-held : Went W F (L ++ notices_in at N (news_along (trail false false))) N P false at l q vs v (given_in w (trail false false))
    went-held =
        subst (λ (t : List (Valued Notification)). Went W F t N P false at l q vs v (given_in w (trail false false))) (sym (append-nil L))
        (subst (λ (t : List (Valued StepResult)). Went W F L N P false at l q vs v (t ++ [])) (sym at-v.0)
        (record { going = subst (λ (t : List (Valued StepResult)). Going F L N P false t q vs v) (sym (append-nil l)) at-v.1; each = tt }))

    went-read : rules.whole v.held ≡ true → W u.held → W x.held → Each (λ (y : Pass). W y.to.held) (onward x at)
        → Went W F (L ++ notices_in at N (news_along (trail false true))) N P false at l q vs (final x (onward x at)) (given_in w (trail false true))
    went-read f through-u through-x after =
        subst (λ (t : List News). Went W F (L ++ notices_in at N t) N P false at l q vs (final x (onward x at)) (given_in w (trail false true))) (sym came-is)
        (subst (λ (t : List (Valued StepResult)). Went W F heard N P false at l q vs (final x (onward x at)) (t ++ (gave v.held u.held ++ later))) (sym at-v.0)
        (subst (λ (t : List (Valued StepResult)). Went W F heard N P false at l q vs (final x (onward x at)) (t ++ later)) (sym (at-u through-u).0) both))
      where
        o : Open at n u
        o = opened through-u f

        sound : Sound 65 x
        sound = sound-channel u at channel n o.time o.sound o.unsent o.present o.short o.notified

        heard : List (Valued Notification)
        heard = L ++ notices_in at N read.came

        later : List (Valued StepResult)
        later = gave u.held x.held ++ given_in x (onward x at)

        came-is : news_along (trail false true) ≡ read.came
        came-is = ap (λ (t : List News). read.came ++ t) (brings-quiet x (onward x at) (quiet-onward x at)).along ∙ append-nil read.came

        one : Went W F heard N P false at l q vs x (gave u.held x.held)
        one = went-acted W at o.time l q vs small u channel n o sound through-x (at-u through-u).1

        both : Went W F heard N P false at l q vs (final x (onward x at)) later
        both =
            let hops = onward-hops x at o.time in
            went_then W at o.time q vs small l (gave u.held x.held) (given_in x (onward x at)) x (final x (onward x at)) one
            (went-hops W at o.time q vs small (l ++ gave u.held x.held) hops.hops hops.times (quiet-onward x at) after one.going)

  went-fragment : let ps = goes h (fragment out at start piece) in Each (λ (y : Pass). W y.to.held) ps
      → Went W F (L ++ notices_in at N (news_along ps)) N P false at l q vs (final w ps) (given_in w ps)
  unfolding fragment_trail
  went-fragment k = go (rules.dropped h.state.bearer start) refl (rules.whole v.held) refl k
    where
      go : (d : Bool) → rules.dropped h.state.bearer start ≡ d → (f : Bool) → rules.whole v.held ≡ f → Each (λ (y : Pass). W y.to.held) (trail d f)
          → Went W F (L ++ notices_in at N (news_along (trail d f))) N P false at l q vs (final w (trail d f)) (given_in w (trail d f))
      go true e f z k =
          subst (λ (t : List (Valued Notification)). Went W F t N P false at l q vs w []) (sym (append-nil L))
          (record { going = subst (λ (t : List (Valued StepResult)). Going F L N P false t q vs w) (sym (append-nil l)) g; each = tt })
      go false e true z k = went-read e k.0 z k.1.0 k.1.1.0 k.1.1.1
      go false e false z k = went-held e k.0

-- ---- the states that a trail passes through

pub record Moment (w : World) (ps : List Pass) (g : Held) : Type 0 where
  pub hops : ℕ
  pub is : (final w (take hops ps)).held ≡ g

each-moment : (w : World) (p : Pass) (ps qs : List Pass) → Each (λ (y : Pass). Moment p.to ps y.to.held) qs → Each (λ (y : Pass). Moment w (p ∷ ps) y.to.held) qs
each-moment w p ps [] e = tt
each-moment w p ps (y ∷ qs) e = (record { hops = suc e.0.hops; is = e.0.is }, each-moment w p ps qs e.1)

pub moments : (w : World) (ps : List Pass) → Each (λ (y : Pass). Moment w ps y.to.held) ps
moments w [] = tt
moments w (p ∷ ps) = (record { hops = 1; is = refl }, each-moment w p ps ps (moments p.to ps))

-- ---- every call that is done

module _ (B : Brought) (F : ℕ) (P : Bool) (l : List (Valued StepResult)) (q : List Queued) (vs : List (List ℕ)) (h : Held) (i : Between B F P l q vs h) where
  -- the states that a call passes through
  abbrev Passes : Call → Held → Type 0
  Passes c g = Moment (begins h c) (goes h c) g

  abbrev Done : Call → Type 0
  Done c = Did (Passes c) (brings B c accepted) F (time_of c) l (q ++ room_for h c) (vs ++ values_for h c) (final (begins h c) (goes h c)) (given_in (begins h c) (goes h c))

  -- nothing comes in
  quietly : (c : Call) → done? h c ≡ true → Quiet (goes h c)
      → Went (Passes c) F (B.notices ++ []) B.links P false (time_of c) l (q ++ room_for h c) (vs ++ values_for h c) (final (begins h c) (goes h c)) (given_in (begins h c) (goes h c))
  quietly c e k =
      let g = good h c e i.books.sizes in
      subst (λ (t : List (Valued Notification)). Went (Passes c) F t B.links P false (time_of c) l (q ++ room_for h c) (vs ++ values_for h c) (final (begins h c) (goes h c))
      (given_in (begins h c) (goes h c))) (sym (append-nil B.notices))
      (went-hops (Passes c) (time_of c) (in-time h c e) (q ++ room_for h c) (vs ++ values_for h c) (small-more q h c e i.small) l g.hops g.times k (moments (begins h c) (goes h c))
      (going-begins B F P l q vs h i c e))

  pub did : (c : Call) → done? h c ≡ true → Done c
  did (batch out at b values) e = record { P = P; went = quietly (batch out at b values) e (quiet-onward (begins h (batch out at b values)) at) }
  did (timer out at) e = record { P = P; went = quietly (timer out at) e (quiet-timer (begins h (timer out at)) at) }
  did (connected out handle at) e =
      let c = connected out handle at in
      let g = good h c e i.books.sizes in
      record {
        P = true;
        went =
            subst (λ (t : List (Valued Notification)). Went (Passes c) F t (B.links + 1) true false at l (q ++ []) (vs ++ []) (final (begins h c) (goes h c)) (given_in (begins h c) (goes h c)))
            (sym (append-nil B.notices))
            (went-connected (Passes c) at (in-time h c e) l (q ++ []) (vs ++ []) (small-more q h c e i.small) (begins h c) (going-begins B F P l q vs h i c e) handle g.hops g.times
            (moments (begins h c) (goes h c)));
      }
  did (disconnected at) e =
      let c = disconnected at in
      let g = good h c e i.books.sizes in
      record {
        P = false;
        went =
            subst (λ (t : List (Valued Notification)). Went (Passes c) F t B.links false false at l (q ++ []) (vs ++ []) (final (begins h c) (goes h c)) (given_in (begins h c) (goes h c)))
            (sym (append-nil B.notices))
            (went-disconnected (Passes c) at (in-time h c e) l (q ++ []) (vs ++ []) (small-more q h c e i.small) (begins h c) (going-begins B F P l q vs h i c e) g.hops g.times
            (moments (begins h c) (goes h c)));
      }
  did (advertising v) e = record { P = P; went = quietly (advertising v) e (refl, tt) }
  did (scan_response at a d) e = record { P = P; went = quietly (scan_response at a d) e (refl, tt) }
  did (fragment out at start piece) e =
      let c = fragment out at start piece in
      let p = passed-fragment h.state (length h.store) (length out) at start (length piece) (eqb-true (gate_of h c) 0 e) in
      let k = hearing B.air l q h c e i.books i.tied in
      record {
        P = P;
        went =
            subst (λ (t : List News). Went (Passes c) F (B.notices ++ notices_in at B.links t) B.links P false at l (q ++ []) (vs ++ []) (final (begins h c) (goes h c))
            (given_in (begins h c) (goes h c))) k.brings.along
            (went-fragment (Passes c) l (q ++ []) (vs ++ []) (small-more q h c e i.small) h out at start piece p (going-begins B F P l q vs h i c e) (moments (begins h c) (goes h c)));
      }
  did (reads r) e = record { P = P; went = quietly (reads r) e tt }
