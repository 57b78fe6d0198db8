-- What a step that joins the waiting ones, and the first of them that begins, keep.
use Prim.Native.Nat.{ℕ, zero, suc, ◌+◌, ◌-◌, ◌*◌, ◌≤◌, ◌<◌}
use mathlib.Core.Path.{◌≡◌, refl, sym, ap, ◌∙◌}
use mathlib.Core.Bool.{Bool, true, false, ◌&&◌, false≢true}
use mathlib.Core.List.{List, [], ◌∷◌, ◌++◌}
use native.Mathlib.Omega.{arith}
use lib.ListN.{length, take, drop, get_or, length-take, length-drop, length-append}
use lib.Dec.{ltb, leb}
use borrow.Author.Tests.{ltb-true}
use Rattle.bytes_base.specs.Choice.{pick}
use Rattle.bytes_base.specs.Splice.{splice}
use Rattle.bytes_base.proofs.SpliceLaws.{length-splice, length_moved}
use Rattle.state_places.specs.Sizes.{most_steps, value_size, running_at, waiting_at}
use Rattle.lists.specs.Queue.{all}
use Rattle.lists.proofs.QueueLaws.{take-onto}
use Rattle.lists.proofs.ScanLaws.{all_head, all_tail, all_cons, all_append, all_drop}
use Rattle.state.specs.Central.{with_counters, with_queue}
use Rattle.state.specs.Fresh.{no_queued}
use Rattle.state.specs.declared.Queue.{Queue}
use Rattle.state.specs.declared.Queued.{Queued}
use Rattle.state_rules.specs.Steps.{implies, most_mtu, carries, mtu_named, step_fits}
use Rattle.state_rules.specs.Fit.{most_refused, last_index}
use Rattle.state_rules.specs.Facts.{Fit}
use Rattle.script_rules.specs.World.{Held}
use Rattle.script_rules.specs.declared.Placed.{Placed}
use Rattle.script_rules.specs.BatchSteps.{value_len, queued}
use Rattle.script_rules.specs.Waiting.{waiting, queueing, refusing, push_one, push_all, take_step}
use Rattle.script_rules.specs.Nearly.{Nearly}
use Rattle.script_rules.specs.Timed.{narrow, Timed}
use Rattle.script_rules.proofs.KeepTurns.{fit_of}

-- ---- lists in the queue

short : {A : Type 0} (n : ℕ) (l : List A) → length (take n l) ≤ n
short n l = omega (arith, length-take n l)

-- what holds of a list holds of the queue that has it
queueing-all : (f : Queued → Bool) (q : Queue) (l : List Queued) → all f l ≡ true → all f (waiting (queueing q l)) ≡ true
queueing-all f q l e = ap (all f) (take-onto q.kept l) ∙ e

-- what holds of all that wait holds of the first, and of what stands for it where there is none
first_of : (f : Queued → Bool) (a : List Queued) (n : ℕ) (z : Queued) → 0 < n → f z ≡ true → all f (take n a) ≡ true → f (get_or a 0 z) ≡ true
first_of f a zero z h e g = absurd (omega arith)
first_of f [] (suc n) z h e g = e
first_of f (x ∷ a) (suc n) z h e g = all_head f x (take n a) g

-- ---- the first begins

pub record Took (h g : Held) : Type 0 where
  pub nearly : Nearly g.state
  pub store : length g.store ≡ length h.store
  pub fewer : g.state.queue.count + 1 ≤ h.state.queue.count
  pub active : g.state.running.active ≡ true
  pub undated : g.state.running.dated ≡ false
  pub timed : Timed h.state → Timed g.state

module _ (h : Held) (f : Nearly h.state) (some : 0 < h.state.queue.count) (idle : h.state.running.active ≡ false) where
  abbrev q : Queue
  q = h.state.queue

  abbrev rest : List Queued
  rest = drop 1 (waiting q)

  fewer : length rest + 1 ≤ q.count
  fewer = omega (arith, length-drop 1 (waiting q), short q.count q.kept)

  pub take-keeps : Took h (take_step h)
  unfolding take_step step_fits narrow
  take-keeps =
      record {
        nearly = record {
          waits = record { few = omega (arith, fewer, f.waits.few); fit = queueing-all (λ x. step_fits x.step x.len) q rest (all_drop (λ x. step_fits x.step x.len) 1 (waiting q) f.waits.fit) };
          keys = omega arith;
          results = f.results;
          peer = f.peer;
          heard = f.heard;
          tally = record { kept = f.tally.kept; notified = f.tally.notified; from = f.tally.from; refused = f.tally.refused; index = omega (arith, fewer, f.tally.index) };
          linked = f.linked;
          runs = record { step = λ p. first_of (λ x. step_fits x.step x.len) q.kept q.count no_queued some refl f.waits.fit; phase = λ p. omega arith };
          asks = record { request = f.asks.request; asking = λ p. refl; att = λ p. absurd (false≢true (sym idle ∙ f.asks.asking p)) };
        };
        store = length_moved h.store running_at (waiting_at 0) (value_size * q.count);
        fewer = fewer;
        active = refl;
        undated = refl;
        timed = λ t. record {
          running = λ p. first_of (λ x. narrow x.step) q.kept q.count no_queued some refl t.waiting;
          waiting = queueing-all (λ x. narrow x.step) q rest (all_drop (λ x. narrow x.step) 1 (waiting q) t.waiting);
          deadline = λ p e. absurd (false≢true e);
        };
      }

  -- all of fit holds as it begins
  pub take-fit : Fit (take_step h).state
  take-fit =
      let t = take-keeps in
      fit_of (take_step h).state t.nearly (λ e. absurd (false≢true (sym e ∙ t.active))) (λ p e. absurd (false≢true (sym t.undated ∙ e)))

-- ---- one more, and a batch of them

pub record Pushed (n : ℕ) (h g : Held) : Type 0 where
  pub nearly : Nearly g.state
  pub store : length g.store ≡ length h.store
  pub count : g.state.queue.count ≤ h.state.queue.count + n
  pub index : g.state.counters.next_index ≡ h.state.counters.next_index
  pub refused : g.state.counters.refused_steps ≤ h.state.counters.refused_steps + n

-- a step that a batch accepts is one that may wait
queued-fits : (p : Placed) → step_fits p.step p.len ≡ true → step_fits (queued p).step (queued p).len ≡ true
unfolding step_fits
queued-fits p e = go (carries p.step) e
  where
    go : (b : Bool) → (implies b (leb p.len value_size) && leb (mtu_named p.step) most_mtu) ≡ true
        → (implies b (leb (pick b p.len 0) value_size) && leb (mtu_named p.step) most_mtu) ≡ true
    go true e = e
    go false e = e

module _ (h : Held) (values : List ℕ) (p : Placed) where
  abbrev k : Queue
  k = h.state.queue

  abbrev more : List Queued
  more = waiting k ++ (queued p ∷ [])

  longer : length more ≤ k.count + 1
  longer = omega (arith, length-append (waiting k) (queued p ∷ []), short k.count k.kept)

  abbrev into : Held
  into =
      record {
        state = with_queue h.state (queueing k more);
        store = splice h.store (waiting_at k.count) values p.place (value_len p);
      }

  abbrev over : Held
  over = record { state = with_counters h.state (refusing h.state.counters); store = h.store }

  joined : (g : Queued → Bool) → all g (waiting k) ≡ true → g (queued p) ≡ true → all g (waiting (queueing k more)) ≡ true
  unfolding all
  joined g e x = queueing-all g k more (all_append g (waiting k) (queued p ∷ []) e (all_cons g (queued p) [] x refl))

  pub push-keeps : Nearly h.state → step_fits p.step p.len ≡ true
      → h.state.counters.next_index + k.count + 1 ≤ last_index → h.state.counters.refused_steps + 1 ≤ most_refused
      → Pushed 1 h (push_one h values p)
  unfolding push_one
  push-keeps f e i r = go (ltb k.count most_steps) refl
    where
      go : (b : Bool) → ltb k.count most_steps ≡ b → Pushed 1 h (push_one h values p)
      go true z =
          rw z
          (record {
            nearly = record {
              waits = record { few = omega (arith, longer, ltb-true k.count most_steps z); fit = joined (λ x. step_fits x.step x.len) f.waits.fit (queued-fits p e) };
              keys = f.keys;
              results = f.results;
              peer = f.peer;
              heard = f.heard;
              tally = record { kept = f.tally.kept; notified = f.tally.notified; from = f.tally.from; refused = f.tally.refused; index = omega (arith, longer) };
              linked = f.linked;
              runs = f.runs;
              asks = f.asks;
            };
            store = length-splice h.store (waiting_at k.count) values p.place (value_len p);
            count = longer;
            index = refl;
            refused = omega arith;
          })
      go false z =
          rw z
          (record {
            nearly = record {
              waits = f.waits;
              keys = f.keys;
              results = f.results;
              peer = f.peer;
              heard = f.heard;
              tally = record { kept = f.tally.kept; notified = f.tally.notified; from = f.tally.from; refused = r; index = f.tally.index };
              linked = f.linked;
              runs = f.runs;
              asks = f.asks;
            };
            store = refl;
            count = omega arith;
            index = refl;
            refused = omega arith;
          })

  pub push-timed : narrow p.step ≡ true → Timed h.state → Timed (push_one h values p).state
  unfolding push_one
  push-timed e t = go (ltb k.count most_steps)
    where
      go : (b : Bool) → Timed (pick {A = Held} b into over).state
      go true = record { running = t.running; waiting = joined (λ x. narrow x.step) t.waiting e; deadline = t.deadline }
      go false = record { running = t.running; waiting = t.waiting; deadline = t.deadline }

pub push-all-keeps : (h : Held) (values : List ℕ) (ps : List Placed) → Nearly h.state → all (λ p. step_fits p.step p.len) ps ≡ true
    → h.state.counters.next_index + h.state.queue.count + length ps ≤ last_index → h.state.counters.refused_steps + length ps ≤ most_refused
    → Pushed (length ps) h (push_all h values ps)
unfolding push_all
push-all-keeps h values [] f e i r = record { nearly = f; store = refl; count = omega arith; index = refl; refused = omega arith }
push-all-keeps h values (p ∷ ps) f e i r =
    let g = push_one h values p in
    let a : Pushed 1 h g = push-keeps h values p f (all_head (λ p. step_fits p.step p.len) p ps e) (omega arith) (omega arith) in
    let b = push-all-keeps g values ps a.nearly (all_tail (λ p. step_fits p.step p.len) p ps e) (omega (arith, a.count, a.index)) (omega (arith, a.refused)) in
    record {
      nearly = b.nearly;
      store = b.store ∙ a.store;
      count = omega (arith, b.count, a.count);
      index = b.index ∙ a.index;
      refused = omega (arith, b.refused, a.refused);
    }

pub push-all-timed : (h : Held) (values : List ℕ) (ps : List Placed) → all (λ p. narrow p.step) ps ≡ true → Timed h.state → Timed (push_all h values ps).state
unfolding push_all
push-all-timed h values [] e t = t
push-all-timed h values (p ∷ ps) e t =
    push-all-timed (push_one h values p) values ps (all_tail (λ p. narrow p.step) p ps e) (push-timed h values p (all_head (λ p. narrow p.step) p ps e) t)
