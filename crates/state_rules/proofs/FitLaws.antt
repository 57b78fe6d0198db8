-- Fit as a test and as facts: each from the other. The fresh state is fit.
use Prim.Native.Nat.{ℕ, zero, suc, ◌+◌, ◌≤◌}
use mathlib.Core.Path.{◌≡◌, refl, sym, ◌∙◌}
use mathlib.Core.Bool.{Bool, true, false, ◌&&◌, ◌||◌, false≢true}
use mathlib.Core.List.{List, [], ◌∷◌}
use lib.ListN.{get_or}
use lib.Dec.{eqb, leb}
use borrow.Author.Tests.{le-leb, leb-true, eq-eqb, eqb-true}
use Rattle.bytes_base.specs.Choice.{within}
use Rattle.state_places.specs.Sizes.{most_steps, most_results, most_reports, most_notifications, most_services, most_characteristics, most_keys, frame_size, data_size}
use Rattle.lists.specs.Queue.{all}
use Rattle.notifications.specs.Kept.{live, values_fit, links_fit}
use Rattle.gatt_characteristics.specs.Characteristic.{known, rises, up_from}
use Rattle.state.specs.Central.{Central, with_reports, with_keys}
use Rattle.state.specs.Fresh.{fresh_central, fresh_with}
use Rattle.state.specs.declared.Counts.{Counts}
use Rattle.state.specs.declared.Counters.{Counters}
use Rattle.state.specs.declared.Bearer.{Bearer}
use Rattle.state.specs.declared.Options.{Options}
use Rattle.state.specs.declared.Running.{Running}
use Rattle.state.specs.declared.Reports.{Reports}
use Rattle.state.specs.declared.Keys.{Keys}
use Rattle.state_rules.specs.Steps.{implies, default_mtu, most_mtu, step_fits, att_step}
use Rattle.state_rules.specs.Fit.{counted, counts_fit, held_fits, kept, results_fit, data_lengths, response_lengths, no_response, lengths_fit, mtu_fits, running_fits, waiting, steps_fit, phase_fits, awaits, is_request, pending_fits, idle_fits, most_notified, notified_fits, wait_fits, most_refused, refused_fits, last_index, index_fits, last_deadline, deadline_fits, most_links, link_count_fits, fits}
use Rattle.state_rules.specs.Parts.{counters_fit, step_fit, bearer_fits, head_fits}
use Rattle.state_rules.specs.Facts.{Head, Fit}

-- ---- words of tests

pub if-true : (p x : Bool) → implies p x ≡ true → p ≡ true → x ≡ true
if-true true x e h = e
if-true false x e h = absurd (false≢true h)

pub true-if : (p x : Bool) → (p ≡ true → x ≡ true) → implies p x ≡ true
true-if true x f = f refl
true-if false x f = refl

pub join : (a b : Bool) → a ≡ true → b ≡ true → (a && b) ≡ true
join true b e f = f
join false b e f = e

pub both : (a b : Bool) → (a && b) ≡ true → (a ≡ true) × (b ≡ true)
both true b e = (refl, e)
both false b e = absurd (false≢true e)

rest-true : (p x : Bool) → (p || x) ≡ true → p ≡ false → x ≡ true
rest-true true x e h = absurd (false≢true (sym h))
rest-true false x e h = e

true-rest : (p x : Bool) → (p ≡ false → x ≡ true) → (p || x) ≡ true
true-rest true x f = refl
true-rest false x f = f refl

-- tests one after another, as `&&` joins them
every : Bool → List Bool → Bool
every b [] = b
every b (x ∷ l) = every (b && x) l

so_far : (b : Bool) (l : List Bool) → every b l ≡ true → b ≡ true
unfolding every
so_far b [] e = e
so_far b (x ∷ l) e = (both b x (so_far (b && x) l e)).0

every-at : (b : Bool) (l : List Bool) (i : ℕ) → every b l ≡ true → get_or l i true ≡ true
unfolding every
every-at b [] i e = refl
every-at b (x ∷ l) zero e = (both b x (so_far (b && x) l e)).1
every-at b (x ∷ l) (suc i) e = every-at (b && x) l i e

-- ---- the clauses of numbers

pub record Clauses (n : Counts) (k : Counters) (b : Bearer) (r : Running) (reports keys : ℕ) : Type 0 where
  pub counts : counts_fit n reports keys ≡ true
  pub held : held_fits b ≡ true
  pub mtu : mtu_fits b ≡ true
  pub step : running_fits r ≡ true
  pub phase : phase_fits r ≡ true
  pub pending : pending_fits b r ≡ true
  pub idle : idle_fits r n.waiting ≡ true
  pub notified : notified_fits k n.notifications ≡ true
  pub from : wait_fits k ≡ true
  pub refused : refused_fits k ≡ true
  pub index : index_fits k n.waiting ≡ true
  pub deadline : deadline_fits r ≡ true
  pub links : link_count_fits k ≡ true

module _ (n : Counts) (k : Counters) (b : Bearer) (r : Running) (reports keys : ℕ) where
  counts : List Bool
  counts =
      leb n.waiting most_steps
      ∷ leb n.results most_results
      ∷ leb n.services most_services
      ∷ leb n.characteristics most_characteristics
      ∷ leb n.notifications most_notifications
      ∷ leb reports most_reports
      ∷ leb keys most_keys
      ∷ []

  count_at : (i : ℕ) → counts_fit n reports keys ≡ true → get_or counts i true ≡ true
  unfolding counts_fit counts every
  count_at i e = every-at true counts i e

  pub facts : Clauses n k b r reports keys → Head n k b r reports keys
  unfolding counts
  facts f =
      record {
        waiting = leb-true n.waiting most_steps (count_at 0 f.counts);
        results = leb-true n.results most_results (count_at 1 f.counts);
        services = leb-true n.services most_services (count_at 2 f.counts);
        characteristics = leb-true n.characteristics most_characteristics (count_at 3 f.counts);
        notifications = leb-true n.notifications most_notifications (count_at 4 f.counts);
        reports = leb-true reports most_reports (count_at 5 f.counts);
        keys = leb-true keys most_keys (count_at 6 f.counts);
        held = λ p. leb-true b.held frame_size (if-true b.present (leb b.held frame_size) f.held p);
        mtu_low = λ p. leb-true default_mtu b.link.mtu (both (leb default_mtu b.link.mtu) (leb b.link.mtu most_mtu) (if-true b.present (within default_mtu most_mtu b.link.mtu) f.mtu p)).0;
        mtu_high = λ p. leb-true b.link.mtu most_mtu (both (leb default_mtu b.link.mtu) (leb b.link.mtu most_mtu) (if-true b.present (within default_mtu most_mtu b.link.mtu) f.mtu p)).1;
        step = λ p. if-true r.active (step_fits r.step r.len) f.step p;
        phase = λ p. leb-true r.phase 2 (if-true r.active (leb r.phase 2) f.phase p);
        request = λ p. (both (is_request b.link.pending) r.active (asks p).0).0;
        asking = λ p. (both (is_request b.link.pending) r.active (asks p).0).1;
        att = λ p. (asks p).1;
        idle = λ p. eqb-true n.waiting 0 (rest-true r.active (eqb n.waiting 0) f.idle p);
        kept = leb-true n.notifications k.notified (both (leb n.notifications k.notified) (leb k.notified most_notified) f.notified).0;
        notified = leb-true k.notified most_notified (both (leb n.notifications k.notified) (leb k.notified most_notified) f.notified).1;
        from = leb-true k.wait_from k.notified f.from;
        refused = leb-true k.refused_steps most_refused f.refused;
        index = leb-true (k.next_index + n.waiting) last_index f.index;
        deadline = λ p q. leb-true r.deadline.0 last_deadline (if-true (r.active && r.dated) (leb r.deadline.0 last_deadline) f.deadline (join r.active r.dated p q));
        links = leb-true k.links most_links f.links;
      }
    where
      asks : awaits b ≡ true → ((is_request b.link.pending && r.active) ≡ true) × (att_step r.step ≡ true)
      asks p = both (is_request b.link.pending && r.active) (att_step r.step) (if-true (awaits b) (is_request b.link.pending && r.active && att_step r.step) f.pending p)

  pub clauses : Head n k b r reports keys → Clauses n k b r reports keys
  unfolding counts_fit
  clauses h =
      record {
        counts = rw (le-leb _ _ h.waiting, le-leb _ _ h.results, le-leb _ _ h.services, le-leb _ _ h.characteristics, le-leb _ _ h.notifications, le-leb _ _ h.reports, le-leb _ _ h.keys);
        held = true-if b.present (leb b.held frame_size) (λ p. le-leb b.held frame_size (h.held p));
        mtu = true-if b.present (within default_mtu most_mtu b.link.mtu) (λ p. join (leb default_mtu b.link.mtu) (leb b.link.mtu most_mtu) (le-leb default_mtu b.link.mtu (h.mtu_low p)) (le-leb b.link.mtu most_mtu (h.mtu_high p)));
        step = true-if r.active (step_fits r.step r.len) h.step;
        phase = true-if r.active (leb r.phase 2) (λ p. le-leb r.phase 2 (h.phase p));
        pending = true-if (awaits b) (is_request b.link.pending && r.active && att_step r.step) (λ p. join (is_request b.link.pending && r.active) (att_step r.step) (join (is_request b.link.pending) r.active (h.request p) (h.asking p)) (h.att p));
        idle = true-rest r.active (eqb n.waiting 0) (λ p. eq-eqb n.waiting 0 (h.idle p));
        notified = join (leb n.notifications k.notified) (leb k.notified most_notified) (le-leb n.notifications k.notified h.kept) (le-leb k.notified most_notified h.notified);
        from = le-leb k.wait_from k.notified h.from;
        refused = le-leb k.refused_steps most_refused h.refused;
        index = le-leb (k.next_index + n.waiting) last_index h.index;
        deadline = true-if (r.active && r.dated) (leb r.deadline.0 last_deadline) (λ p. le-leb r.deadline.0 last_deadline (h.deadline (both r.active r.dated p).0 (both r.active r.dated p).1));
        links = le-leb k.links most_links h.links;
      }

  -- the code's test of them

  pub head_of : head_fits n k b r reports keys ≡ true → Head n k b r reports keys
  unfolding head_fits counters_fit step_fit bearer_fits
  head_of e =
      facts
      (record {
        counts = (both (counts_fit n reports keys) (counters_fit k n) front.0).0;
        held = (both (held_fits b) (mtu_fits b) bearer.0).0;
        mtu = (both (held_fits b) (mtu_fits b) bearer.0).1;
        step = (both (running_fits r) (phase_fits r) steps.0).0;
        phase = (both (running_fits r) (phase_fits r) steps.0).1;
        pending = bearer.1;
        idle = (both (running_fits r && phase_fits r) (idle_fits r n.waiting) run.0).1;
        notified = (both (notified_fits k n.notifications) (wait_fits k) tally.0).0;
        from = (both (notified_fits k n.notifications) (wait_fits k) tally.0).1;
        refused = tally.1;
        index = counters.1;
        deadline = run.1;
        links = numbers.1;
      })
    where
      ends : ((counts_fit n reports keys && counters_fit k n && step_fit r n.waiting) ≡ true) × (bearer_fits b r ≡ true)
      ends = both (counts_fit n reports keys && counters_fit k n && step_fit r n.waiting) (bearer_fits b r) e

      front : ((counts_fit n reports keys && counters_fit k n) ≡ true) × (step_fit r n.waiting ≡ true)
      front = both (counts_fit n reports keys && counters_fit k n) (step_fit r n.waiting) ends.0

      bearer : ((held_fits b && mtu_fits b) ≡ true) × (pending_fits b r ≡ true)
      bearer = both (held_fits b && mtu_fits b) (pending_fits b r) ends.1

      run : ((running_fits r && phase_fits r && idle_fits r n.waiting) ≡ true) × (deadline_fits r ≡ true)
      run = both (running_fits r && phase_fits r && idle_fits r n.waiting) (deadline_fits r) front.1

      steps : ((running_fits r && phase_fits r) ≡ true) × (idle_fits r n.waiting ≡ true)
      steps = both (running_fits r && phase_fits r) (idle_fits r n.waiting) run.0

      numbers : ((notified_fits k n.notifications && wait_fits k && refused_fits k && index_fits k n.waiting) ≡ true) × (link_count_fits k ≡ true)
      numbers = both (notified_fits k n.notifications && wait_fits k && refused_fits k && index_fits k n.waiting) (link_count_fits k) (both (counts_fit n reports keys) (counters_fit k n) front.0).1

      counters : ((notified_fits k n.notifications && wait_fits k && refused_fits k) ≡ true) × (index_fits k n.waiting ≡ true)
      counters = both (notified_fits k n.notifications && wait_fits k && refused_fits k) (index_fits k n.waiting) numbers.0

      tally : ((notified_fits k n.notifications && wait_fits k) ≡ true) × (refused_fits k ≡ true)
      tally = both (notified_fits k n.notifications && wait_fits k) (refused_fits k) counters.0

  pub of-head : Head n k b r reports keys → head_fits n k b r reports keys ≡ true
  unfolding head_fits counters_fit step_fit bearer_fits
  of-head h = let f = clauses h in rw (f.counts, f.notified, f.from, f.refused, f.index, f.links, f.step, f.phase, f.idle, f.deadline, f.held, f.mtu, f.pending)

-- ---- fit

abbrev Numbers : Central → Type 0
Numbers c = Clauses (counted c) c.counters c.bearer c.running c.reports.count c.keys.count

tests : Central → List Bool
tests c =
    counts_fit (counted c) c.reports.count c.keys.count
    ∷ held_fits c.bearer
    ∷ results_fit (kept c.results)
    ∷ values_fit (live c.notifications)
    ∷ lengths_fit data_size (data_lengths c.reports)
    ∷ lengths_fit no_response (response_lengths c.reports)
    ∷ mtu_fits c.bearer
    ∷ running_fits c.running
    ∷ steps_fit (waiting c.queue)
    ∷ phase_fits c.running
    ∷ pending_fits c.bearer c.running
    ∷ idle_fits c.running c.queue.count
    ∷ rises (known c.characteristics)
    ∷ notified_fits c.counters c.notifications.count
    ∷ wait_fits c.counters
    ∷ refused_fits c.counters
    ∷ index_fits c.counters c.queue.count
    ∷ deadline_fits c.running
    ∷ link_count_fits c.counters
    ∷ links_fit c.counters.links (live c.notifications)
    ∷ []

test_at : (c : Central) (i : ℕ) → fits c ≡ true → get_or (tests c) i true ≡ true
unfolding fits tests every
test_at c i e = every-at true (tests c) i e

pub fit_of : (c : Central) → fits c ≡ true → Fit c
unfolding tests
fit_of c e =
    record {
      head = facts (counted c) c.counters c.bearer c.running c.reports.count c.keys.count
          (record {
            counts = test_at c 0 e;
            held = test_at c 1 e;
            mtu = test_at c 6 e;
            step = test_at c 7 e;
            phase = test_at c 9 e;
            pending = test_at c 10 e;
            idle = test_at c 11 e;
            notified = test_at c 13 e;
            from = test_at c 14 e;
            refused = test_at c 15 e;
            index = test_at c 16 e;
            deadline = test_at c 17 e;
            links = test_at c 18 e;
          });
      results = test_at c 2 e;
      values = test_at c 3 e;
      lengths = test_at c 4 e;
      responses = test_at c 5 e;
      steps = test_at c 8 e;
      rising = test_at c 12 e;
      linked = test_at c 19 e;
    }

pub of-fit : (c : Central) → Fit c → fits c ≡ true
unfolding fits
of-fit c f =
    let k : Numbers c = clauses (counted c) c.counters c.bearer c.running c.reports.count c.keys.count f.head in
    rw (k.counts, k.held, f.results, f.values, f.lengths, f.responses, k.mtu, k.step, f.steps, k.phase, k.pending, k.idle, f.rising, k.notified, k.from, k.refused, k.index, k.deadline, k.links, f.linked)

-- a state of which something fails that fit has isn't fit
pub unfit : (c : Central) (x : Bool) → (Fit c → x ≡ true) → x ≡ false → fits c ≡ false
unfit c x f e = go (fits c) refl
  where
    go : (b : Bool) → fits c ≡ b → b ≡ false
    go true g = absurd (false≢true (sym e ∙ f (fit_of c g)))
    go false g = refl

-- ---- the tests in the code's order, over a state

-- a table with nothing in it

-- ---- other reports, other keys

recounted : (c : Central) (m n : ℕ) → m ≤ most_reports → n ≤ most_keys → Fit c → Head (counted c) c.counters c.bearer c.running m n
recounted c m n p q f =
    let h = f.head in
    record {
      waiting = h.waiting;
      results = h.results;
      services = h.services;
      characteristics = h.characteristics;
      notifications = h.notifications;
      reports = p;
      keys = q;
      held = h.held;
      mtu_low = h.mtu_low;
      mtu_high = h.mtu_high;
      step = h.step;
      phase = h.phase;
      request = h.request;
      asking = h.asking;
      att = h.att;
      idle = h.idle;
      kept = h.kept;
      notified = h.notified;
      from = h.from;
      refused = h.refused;
      index = h.index;
      deadline = h.deadline;
      links = h.links;
    }

pub fit-reports : (c : Central) (r : Reports) → Fit c → r.count ≤ most_reports → lengths_fit data_size (data_lengths r) ≡ true → lengths_fit no_response (response_lengths r) ≡ true → Fit (with_reports c r)
fit-reports c r f p d e =
    record {
      head = recounted c r.count c.keys.count p f.head.keys f;
      results = f.results;
      values = f.values;
      lengths = d;
      responses = e;
      steps = f.steps;
      rising = f.rising;
      linked = f.linked;
    }

pub fit-keys : (c : Central) (k : Keys) → Fit c → k.count ≤ most_keys → Fit (with_keys c k)
fit-keys c k f q =
    record {
      head = recounted c c.reports.count k.count f.head.reports q f;
      results = f.results;
      values = f.values;
      lengths = f.lengths;
      responses = f.responses;
      steps = f.steps;
      rising = f.rising;
      linked = f.linked;
    }

-- ---- the fresh state

pub fresh-fits : (o : Options) → fits (fresh_with o) ≡ true
unfolding fits fresh_central counts_fit all up_from step_fits
fresh-fits o = refl
