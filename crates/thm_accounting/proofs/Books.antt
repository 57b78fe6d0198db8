-- The books of a sequence of calls: what was given, what was taken in, and what is still in line.
use Prim.Native.Nat.{ℕ, zero, suc, ◌+◌, ◌-◌, ◌*◌, ◌≤◌, ◌<◌}
use mathlib.Core.Path.{◌≡◌, refl, sym, ap, ◌∙◌, subst}
use mathlib.Core.Bool.{Bool, true, false, false≢true}
use mathlib.Core.List.{List, [], ◌∷◌, ◌++◌, append-nil, append_assoc}
use native.Mathlib.Omega.{arith}
use lib.ListN.{length, take, drop, get_or, length-append, length-drop}
use lib.Seq.{drop-drop, length-take-le}
use Rattle.bytes_base.specs.Choice.{pick}
use Rattle.bytes_base.specs.Splice.{splice}
use Rattle.bytes_base.proofs.SpliceLaws.{length_moved, moved_down}
use Rattle.state_places.specs.Sizes.{most_steps, most_results, result_size, result_at, value_size, running_at, waiting_at}
use Rattle.lists.specs.Queue.{newest, pushed, onto}
use Rattle.lists.proofs.QueueLaws.{pushed-newest, take-onto, length-onto}
use Rattle.lists.specs.Blocks.{Valued, bytes}
use Rattle.lists.proofs.BlockLaws.{drop_past}
use Rattle.time.specs.declared.Micros.{Micros}
use Rattle.state.specs.Fresh.{no_queued}
use Rattle.state.specs.Central.{with_bearer}
use Rattle.state.specs.declared.Queue.{Queue}
use Rattle.state.specs.declared.Keys.{Keys}
use Rattle.state.specs.declared.Reports.{Reports}
use Rattle.adv_reports.specs.Whole as reports
use Rattle.state.specs.declared.Queued.{Queued}
use Rattle.state.specs.declared.Running.{Running}
use Rattle.state.specs.declared.StepResult.{StepResult}
use Rattle.script_rules.specs.World.{Held, World, on_held, on_state}
use Rattle.script_rules.specs.Waiting.{waiting, queueing, take_step}
use Rattle.script_rules.specs.Start.{start}
use Rattle.script_rules.specs.Sound.{Sound}
use Rattle.script_rules.proofs.KeepTurns.{stays-absent}
use Rattle.script_rules.proofs.KeepStarts.{stays-ends}
use Rattle.script_rules.proofs.KeepEvents.{stays-new}
use Rattle.script_rules.specs.Script.{can_go, step_once}
use Rattle.script_rules.proofs.AdvanceLaws.{GoesOn, goes_on_lem, stepped}
use Rattle.script_rules.proofs.CallBeginLaws.{sound-stays}
use Rattle.script_rules.specs.Events.{with_new_link, unlinked}
use Rattle.link_rules.specs.Channel.{on_channel}
use Rattle.thm_trail.specs.Trail.{Pass, final, met, parted}
use Rattle.thm_trail.specs.Log.{kept_results, up_to, newer, gave, given_in}
use Rattle.thm_trail.proofs.Hops.{Sizes, Still, Hop, ended, began, meets, parts, still, acted, Hops, none, more, still-values}
use Rattle.thm_accounting.specs.InLine.{in_line}
use Rattle.thm_accounting.proofs.Numbered.{Numbered, numbered-snoc, gave-none, gave_one}
use Rattle.thm_accounting.proofs.Gives.{Whole, Same, Goes_on, Ends, Gives, nothing, one, kept-values}
use Rattle.thm_accounting.proofs.Starts.{gives-ends, gives-start}
use Rattle.thm_accounting.proofs.Channels.{gives-channel}

-- ---- the invariant: l was given, q was taken in

pub record Books (l : List (Valued StepResult)) (q : List Queued) (h : Held) : Type 0 where
  -- the table keeps the newest of what was given, with the values
  pub table : kept_results h ≡ newest most_results l
  -- numbered 0, 1, 2, …
  pub order : Numbered 0 l
  -- what is not done is what was taken in, but for as many as were given
  pub line : in_line h.state ≡ drop (length l) q
  pub fewer : length l ≤ length q
  -- the running step has the next number
  pub busy : h.state.running.active ≡ true → h.state.counters.next_index ≡ length l + 1
  pub number : h.state.running.active ≡ true → h.state.running.index ≡ length l
  pub idle : h.state.running.active ≡ false → h.state.counters.next_index ≡ length l
  pub sizes : Sizes h.state

pub whole : (w : World) → Sound 65 w → Sizes w.held.state → Whole w.held
whole w s z = record { store = s.ready.store; cells = z.results; few = s.nearly.results.few; fit = s.nearly.results.fit }

-- ---- what was given

-- nothing
pub none-gave : (l : List (Valued StepResult)) (q : List Queued) (h g : Held) → Books l q h → kept_results g ≡ kept_results h → gave h g ≡ []
none-gave l q h g b e =
    ap (λ (t : List (Valued StepResult)). newer (up_to t) (kept_results g)) b.table
    ∙ ap (λ (t : List (Valued StepResult)). newer (up_to (newest most_results l)) t) (e ∙ b.table)
    ∙ gave-none most_results l (omega arith) b.order

-- the running step's result
pub gave-pushed : (l : List (Valued StepResult)) (q : List Queued) (h g : Held) (x : Valued StepResult) → Books l q h → x.entry.index ≡ length l
    → kept_results g ≡ pushed most_results (kept_results h) x → gave h g ≡ x ∷ []
gave-pushed l q h g x b i e =
    ap (λ (t : List (Valued StepResult)). newer (up_to t) (kept_results g)) b.table
    ∙ ap (λ (t : List (Valued StepResult)). newer (up_to (newest most_results l)) t)
    (e ∙ ap (λ (t : List (Valued StepResult)). pushed most_results t x) b.table ∙ pushed-newest most_results l x)
    ∙ gave_one most_results l x (omega arith) b.order i

-- ---- nothing is given

record Rests (h g : Held) : Type 0 where
  results : kept_results g ≡ kept_results h
  queue : g.state.queue ≡ h.state.queue
  active : g.state.running.active ≡ h.state.running.active
  step : g.state.running.step ≡ h.state.running.step
  len : g.state.running.len ≡ h.state.running.len
  index : g.state.running.index ≡ h.state.running.index
  «next» : g.state.counters.next_index ≡ h.state.counters.next_index
  sizes : Sizes g.state

same_line : (a : Bool) (r : Running) (q : Queue) (b : Bool) (s : Running) (p : Queue) → b ≡ a → s.step ≡ r.step → s.len ≡ r.len → p ≡ q
    → pick b (record { step = s.step; len = s.len } ∷ []) [] ++ waiting p ≡ pick a (record { step = r.step; len = r.len } ∷ []) [] ++ waiting q
same_line a r q b s p e f g i = rw (e, f, g, i)

books-rest : (l : List (Valued StepResult)) (q : List Queued) (h g : Held) → Books l q h → Rests h g → Books (l ++ gave h g) q g
books-rest l q h g b r = subst (λ (t : List (Valued StepResult)). Books t q g) (sym none-given) here
  where
    kept : kept_results g ≡ newest most_results l
    kept = r.results ∙ b.table

    none-given : l ++ gave h g ≡ l
    none-given = ap (λ (t : List (Valued StepResult)). l ++ t) (none-gave l q h g b r.results) ∙ append-nil l

    here : Books l q g
    here =
        record {
          table = kept;
          order = b.order;
          line = same_line h.state.running.active h.state.running h.state.queue g.state.running.active g.state.running g.state.queue r.active r.step r.len r.queue ∙ b.line;
          fewer = b.fewer;
          busy = λ e. r.«next» ∙ b.busy (sym r.active ∙ e);
          number = λ e. r.index ∙ b.number (sym r.active ∙ e);
          idle = λ e. r.«next» ∙ b.idle (sym r.active ∙ e);
          sizes = r.sizes;
        }

-- ---- the running step's result is given

sizes-same : (h g : Held) → Same h g → Sizes h.state → Sizes g.state
sizes-same h g s z =
    record {
      queue = ap (λ (x : Queue). length x.kept) s.queue ∙ z.queue;
      results = s.cells ∙ z.results;
      reports = subst (λ (x : Reports). reports.Whole x) (sym s.reports) z.reports;
      keys = ap (λ (x : Keys). length x.kept) s.keys ∙ z.keys;
    }

-- a list that is not empty: its rest
one_less : (x : Queued) (t q : List Queued) (n : ℕ) → x ∷ t ≡ drop n q → (t ≡ drop (n + 1) q) × (n + 1 ≤ length q)
one_less x t q n e =
    let k : length (x ∷ t) ≡ length q - n = ap length e ∙ length-drop n q in
    (ap (λ (y : List Queued). drop 1 y) e ∙ drop-drop 1 n q, omega (arith, k))

books-one : {at : Micros} (l : List (Valued StepResult)) (q : List Queued) (h g : Held) → Books l q h → Ends at h g → Books (l ++ gave h g) q g
books-one l q h g b e = subst (λ (t : List (Valued StepResult)). Books (l ++ t) q g) (sym given) here
  where
    x : Valued StepResult
    x = e.new

    index : x.entry.index ≡ length l
    index = e.index ∙ b.number e.was

    kept : kept_results g ≡ newest most_results (l ++ (x ∷ []))
    kept = e.results ∙ ap (λ (t : List (Valued StepResult)). pushed most_results t x) b.table ∙ pushed-newest most_results l x

    given : gave h g ≡ x ∷ []
    given = gave-pushed l q h g x b index e.results

    more_given : length (l ++ (x ∷ [])) ≡ length l + 1
    more_given = length-append l (x ∷ [])

    front : record { step = h.state.running.step; len = h.state.running.len } ∷ waiting h.state.queue ≡ drop (length l) q
    front =
        sym (ap (λ (a : Bool). pick a (record { step = h.state.running.step; len = h.state.running.len } ∷ []) [] ++ waiting h.state.queue) e.was) ∙ b.line

    rest : (waiting h.state.queue ≡ drop (length l + 1) q) × (length l + 1 ≤ length q)
    rest = one_less (record { step = h.state.running.step; len = h.state.running.len }) (waiting h.state.queue) q (length l) front

    line : in_line g.state ≡ drop (length (l ++ (x ∷ []))) q
    line =
        ap (λ (a : Bool). pick a (record { step = g.state.running.step; len = g.state.running.len } ∷ []) [] ++ waiting g.state.queue) e.is
        ∙ ap (λ (p : Queue). waiting p) e.same.queue
        ∙ rest.0
        ∙ ap (λ (n : ℕ). drop n q) (sym more_given)

    here : Books (l ++ (x ∷ [])) q g
    here =
        record {
          table = kept;
          order = numbered-snoc 0 l x b.order (omega (arith, index));
          line = line;
          fewer = omega (arith, more_given, rest.1);
          busy = λ a. absurd (false≢true (sym e.is ∙ a));
          number = λ a. absurd (false≢true (sym e.is ∙ a));
          idle = λ a. e.same.«next» ∙ b.busy e.was ∙ sym more_given;
          sizes = sizes-same h g e.same b.sizes;
        }

books-goes-on : (l : List (Valued StepResult)) (q : List Queued) (h g : Held) → Books l q h → Goes_on h g → Books (l ++ gave h g) q g
books-goes-on l q h g b r =
    books-rest l q h g b
    (record {
      results = r.results;
      queue = r.same.queue;
      active = r.active;
      step = r.same.step;
      len = r.same.len;
      index = r.same.index;
      «next» = r.same.«next»;
      sizes = sizes-same h g r.same b.sizes;
    })

pub books-gives : {at : Micros} (l : List (Valued StepResult)) (q : List Queued) (h g : Held) → Books l q h → Gives at h g → Books (l ++ gave h g) q g
books-gives l q h g b (nothing r) = books-goes-on l q h g b r
books-gives l q h g b (one e) = books-one l q h g b e

-- ---- the first waiting step begins

-- those that wait, the first apart
live-first : (a : List Queued) (n : ℕ) → 0 < n → n ≤ length a → take n a ≡ get_or a 0 no_queued ∷ drop 1 (take n a)
live-first a zero h k = absurd (omega arith)
live-first [] (suc n) h k = absurd (omega arith)
live-first (x ∷ a) (suc n) h k = refl

-- a write below the results' values
pub bytes_past : (d : List ℕ) (at : ℕ) (s : List ℕ) (from m a n : ℕ) → at + m ≤ a → bytes (splice d at s from m) a n ≡ bytes d a n
bytes_past d at s from m a n h = ap (λ (t : List ℕ). take n t) (drop_past d at s from m a h)

take-values : (h : Held) → h.state.queue.count ≤ most_steps → (k : ℕ) → k < most_results → (n : ℕ) → n ≤ result_size
    → bytes (take_step h).store (result_at k) n ≡ bytes h.store (result_at k) n
unfolding take_step
take-values h few k p n m =
    let c = h.state.queue.count in
    ap (λ (t : List ℕ). bytes t (result_at k) n) (moved_down h.store running_at (waiting_at 0) (value_size * c) (omega arith))
    ∙ bytes_past h.store running_at h.store (waiting_at 0) (value_size * c) (result_at k) n (omega (arith, few))

pub kept-take : (h : Held) → Whole h → h.state.queue.count ≤ most_steps → kept_results (take_step h) ≡ kept_results h
unfolding take_step
kept-take h w few = kept-values h (take_step h) w refl (take-values h few)

pub books-take : (l : List (Valued StepResult)) (q : List Queued) (h : Held) → Whole h → h.state.queue.count ≤ most_steps → GoesOn h.state → Books l q h → Books l q (take_step h)
unfolding take_step
books-take l q h w few o b =
    record {
      table = kept-take h w few ∙ b.table;
      order = b.order;
      line = line;
      fewer = b.fewer;
      busy = λ e. omega (arith, b.idle o.idle);
      number = λ e. b.idle o.idle;
      idle = λ e. absurd (false≢true (sym e));
      sizes = record { queue = cells; results = b.sizes.results; reports = b.sizes.reports; keys = b.sizes.keys };
    }
  where
    p : Queue
    p = h.state.queue

    rest : List Queued
    rest = drop 1 (waiting p)

    short : length (waiting p) ≡ p.count
    short = length-take-le p.count p.kept (omega (arith, few, b.sizes.queue))

    cells : length (onto p.kept rest) ≡ most_steps
    cells = length-onto p.kept rest (omega (arith, length-drop 1 (waiting p), short, few, b.sizes.queue)) ∙ b.sizes.queue

    waits : waiting p ≡ drop (length l) q
    waits =
        sym (ap (λ (a : Bool). pick a (record { step = h.state.running.step; len = h.state.running.len } ∷ []) [] ++ waiting p) o.idle) ∙ b.line

    line : get_or p.kept 0 no_queued ∷ waiting (queueing p rest) ≡ drop (length l) q
    line =
        ap (λ (t : List Queued). get_or p.kept 0 no_queued ∷ t) (take-onto p.kept rest)
        ∙ sym (live-first p.kept p.count o.some (omega (arith, few, b.sizes.queue)))
        ∙ waits

pub whole_take : (h : Held) → Whole h → Whole (take_step h)
unfolding take_step
whole_take h w = record { store = length_moved h.store running_at (waiting_at 0) (value_size * h.state.queue.count) ∙ w.store; cells = w.cells; few = w.few; fit = w.fit }

books-began : (l : List (Valued StepResult)) (q : List Queued) (w : World) (at : Micros) → Sound 65 w → can_go w.held.state ≡ true → Books l q w.held
    → Books (l ++ gave w.held (step_once w at).held) q (step_once w at).held
books-began l q w at s g b =
    let k : Whole w.held = whole w s b.sizes in
    let u = on_held w (take_step w.held) in
    let few = s.nearly.waits.few in
    subst (λ (t : List (Valued StepResult)). Books (l ++ newer (up_to t) (kept_results (start u at).held)) q (start u at).held) (kept-take w.held k few)
    (books-gives l q u.held (start u at).held (books-take l q w.held k few (goes_on_lem w.held.state g) b) (gives-start u at (whole_take w.held k)))

-- ---- hops

rests-still : (h g : Held) → Whole h → Sizes h.state → Still h g → Rests h g
rests-still h g w z s =
    record {
      results = kept-values h g w s.results (still-values s);
      queue = s.queue;
      active = ap (λ (r : Running). r.active) s.running;
      step = ap (λ (r : Running). r.step) s.running;
      len = ap (λ (r : Running). r.len) s.running;
      index = ap (λ (r : Running). r.index) s.running;
      «next» = ap (λ k. k.next_index) s.counters;
      sizes = s.sizes z;
    }

-- a link comes
rests-new : (h : Held) (handle : ℕ) → Sizes h.state → Rests h (on_state h (with_new_link h.state handle))
rests-new h handle z =
    record { results = refl; queue = refl; active = refl; step = refl; len = refl; index = refl; «next» = refl; sizes = record { queue = z.queue; results = z.results; reports = z.reports; keys = z.keys } }

-- or goes
rests-gone : (h : Held) → Sizes h.state → Rests h (on_state h (with_bearer h.state (unlinked h.state.bearer)))
rests-gone h z =
    record { results = refl; queue = refl; active = refl; step = refl; len = refl; index = refl; «next» = refl; sizes = record { queue = z.queue; results = z.results; reports = z.reports; keys = z.keys } }

pub sound-hop : {w : World} {p : Pass} → Hop w p → Sound 65 w → Sound 65 p.to
sound-hop (ended w at st n) s = sound-stays 65 w _ s (stays-ends w.held at st s.nearly)
sound-hop (began w at t g) s = (stepped w at t s g).sound
sound-hop (meets w handle few) s = sound-stays 65 w _ s (stays-new w.held handle few s.nearly)
sound-hop (parts w) s = sound-stays 65 w _ s (stays-absent w.held (unlinked w.held.state.bearer) s.nearly refl)
sound-hop (still w g t) s =
    record {
      ready = record { store = t.store ∙ s.ready.store; out = s.ready.out; results = t.nearly.results.few; frames = s.ready.frames; bytes = s.ready.bytes };
      nearly = t.nearly;
      budget = omega (arith, s.budget, ap (λ (q : Queue). q.count) t.queue);
    }
sound-hop (acted w at channel n o t) s = t

pub books-hop : (l : List (Valued StepResult)) (q : List Queued) {w : World} {p : Pass} → Hop w p → Sound 65 w → Books l q w.held
    → Books (l ++ gave w.held p.to.held) q p.to.held
books-hop l q (ended w at st n) s b = books-gives l q w.held _ b (gives-ends w.held at st (whole w s b.sizes))
books-hop l q (began w at t g) s b = books-began l q w at s g b
books-hop l q (meets w handle few) s b = books-rest l q w.held (met w handle).held b (rests-new w.held handle b.sizes)
books-hop l q (parts w) s b = books-rest l q w.held (parted w).held b (rests-gone w.held b.sizes)
books-hop l q (still w g t) s b = books-rest l q w.held g b (rests-still w.held g (whole w s b.sizes) b.sizes t)
books-hop l q (acted w at channel n o t) s b = books-gives l q w.held (on_channel w at channel n).held b (gives-channel w at channel n o.short (whole w s b.sizes))

pub record After (l : List (Valued StepResult)) (q : List Queued) (w : World) : Type 0 where
  pub sound : Sound 65 w
  pub books : Books l q w.held

pub after-hops : (l : List (Valued StepResult)) (q : List Queued) {w : World} {ps : List Pass} → Hops w ps → After l q w → After (l ++ given_in w ps) q (final w ps)
after-hops l q (none {w}) a = subst (λ (t : List (Valued StepResult)). After t q w) (sym (append-nil l)) a
after-hops l q (more {w} {p} {ps} x xs) a =
    subst (λ (t : List (Valued StepResult)). After t q (final p.to ps)) (append_assoc l (gave w.held p.to.held) (given_in p.to ps))
    (after-hops (l ++ gave w.held p.to.held) q xs (record { sound = sound-hop x a.sound; books = books-hop l q x a.sound a.books }))
