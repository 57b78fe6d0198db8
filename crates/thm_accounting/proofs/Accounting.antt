-- Over every sequence of calls from a fresh state, with any store, refused calls included: steps and results are accounted for.
use Prim.Native.Nat.{ℕ, zero, suc, ◌+◌, ◌-◌, ◌≤◌, ◌<◌}
use mathlib.Core.Path.{◌≡◌, refl, sym, ap, ◌∙◌, subst}
use mathlib.Core.Bool.{Bool, true, false, false≢true}
use mathlib.Core.List.{List, [], ◌∷◌, ◌++◌, append-nil, append_assoc}
use native.Mathlib.Omega.{arith}
use lib.ListN.{length, take, drop, length-append}
use lib.Seq.{length-take-le, drop-append-le}
use lib.Dec.{eqb, ltb, leb}
use borrow.Author.Tests.{eqb-true, ltb-true, ltb-false, leb-true}
use Rattle.bytes_base.specs.Choice.{pick}
use Rattle.bytes_base.specs.Splice.{splice}
use Rattle.state_places.specs.Sizes.{most_steps, most_results, result_size, result_at, value_size, waiting_at}
use Rattle.lists.specs.Queue.{newest, all}
use Rattle.lists.proofs.QueueLaws.{take-onto, length-onto}
use Rattle.lists.proofs.ScanLaws.{all_head, all_tail}
use Rattle.lists.specs.Blocks.{Valued, valued, bytes}
use Rattle.state.specs.Central.{with_queue, with_counters}
use Rattle.state.specs.Fresh.{fresh_central}
use Rattle.state.specs.declared.Options.{Options}
use Rattle.state.specs.declared.Queue.{Queue}
use Rattle.state.specs.declared.Running.{Running}
use Rattle.state.specs.declared.Keys.{Keys}
use Rattle.state.specs.declared.Reports.{Reports}
use Rattle.adv_reports.specs.Whole as reports
use Rattle.state_rules.specs.Refusals.{long_frame}
use Rattle.state.specs.declared.Queued.{Queued}
use Rattle.state.specs.declared.StepResult.{StepResult}
use Rattle.state_rules.specs.Steps.{implies, carries, step_fits}
use Rattle.state_rules.proofs.FitLaws.{both}
use Rattle.script_rules.specs.World.{Held, on_state}
use Rattle.script_rules.specs.declared.Placed.{Placed}
use Rattle.script_rules.specs.BatchSteps.{value_len, queued, steps}
use Rattle.script_rules.specs.Waiting.{waiting, queueing, refusing, push_one, push_all}
use Rattle.script_rules.proofs.KeepTurns.{of-fit}
use Rattle.script_rules.specs.Outcome.{Outcome, done}
use Rattle.script_rules.specs.Batch.{placed_fits}
use Rattle.script_rules.proofs.CallLaws.{passed-batch}
use Rattle.link_rules.specs.Fragment as link
use Rattle.thm_trail.specs.Calls.{Call, batch, timer, connected, disconnected, advertising, scan_response, fragment, reads, does, left, fresh, run, gate_of, done?}
use Rattle.thm_trail.specs.Trail.{begins, goes, final}
use Rattle.thm_trail.specs.Log.{given_in, given_by, log, queued_all, room_for, takes_in, taken}
use Rattle.thm_trail.proofs.Ends.{refused_of, does-law}
use Rattle.thm_trail.proofs.Goes.{good}
use Rattle.thm_accounting.specs.InLine.{running_one, in_line}
use Rattle.thm_accounting.proofs.Gives.{Whole, kept-values}
use Rattle.thm_accounting.proofs.Books.{Books, after-hops, bytes_past}

-- ---- a batch goes in

-- a step that a batch accepts has a value that fits its block
pub short-value : (size : ℕ) (p : Placed) → placed_fits size p ≡ true → value_len p ≤ value_size
unfolding step_fits
short-value size p e = go (carries p.step) refl
  where
    a : step_fits p.step p.len ≡ true
    a = (both (step_fits p.step p.len) (implies (carries p.step) (leb (p.place + p.len) size)) e).0

    b : implies (carries p.step) (leb p.len value_size) ≡ true
    b = (both (implies (carries p.step) (leb p.len value_size)) _ a).0

    go : (x : Bool) → carries p.step ≡ x → pick x p.len 0 ≤ value_size
    go true c = leb-true p.len value_size (subst (λ (x : Bool). implies x (leb p.len value_size) ≡ true) c b)
    go false c = omega arith

-- what waits after more, and what stays
pub record Put (h g : Held) (new : List Queued) : Type 0 where
  pub line : waiting g.state.queue ≡ waiting h.state.queue ++ new
  pub count : g.state.queue.count ≡ h.state.queue.count + length new
  pub cells : length g.state.queue.kept ≡ most_steps
  pub few : g.state.queue.count ≤ most_steps
  pub running : g.state.running ≡ h.state.running
  pub index : g.state.counters.next_index ≡ h.state.counters.next_index
  pub bearer : g.state.bearer ≡ h.state.bearer
  pub results : g.state.results ≡ h.state.results
  pub reports : g.state.reports ≡ h.state.reports
  pub keys : g.state.keys ≡ h.state.keys
  pub values : (k : ℕ) → k < most_results → (n : ℕ) → n ≤ result_size → bytes g.store (result_at k) n ≡ bytes h.store (result_at k) n

put_one : (h : Held) (values : List ℕ) (p : Placed) → value_len p ≤ value_size → length h.state.queue.kept ≡ most_steps → h.state.queue.count ≤ most_steps
    → Put h (push_one h values p) (pick (ltb h.state.queue.count most_steps) (queued p ∷ []) [])
unfolding push_one
put_one h values p m cells few = go (ltb n most_steps) refl
  where
    q : Queue
    q = h.state.queue

    n : ℕ
    n = q.count

    l : List Queued
    l = waiting q ++ (queued p ∷ [])

    long : length l ≡ n + 1
    long = length-append (waiting q) (queued p ∷ []) ∙ omega (arith, length-take-le n q.kept (omega (arith, few, cells)))

    yes : Held
    yes = record { state = with_queue h.state (queueing q l); store = splice h.store (waiting_at n) values p.place (value_len p) }

    no : Held
    no = record { state = with_counters h.state (refusing h.state.counters); store = h.store }

    go : (x : Bool) → ltb n most_steps ≡ x → Put h (pick x yes no) (pick x (queued p ∷ []) [])
    go true e =
        let r : n < most_steps = ltb-true n most_steps e in
        record {
          line = take-onto q.kept l;
          count = long;
          cells = length-onto q.kept l (omega (arith, long, cells)) ∙ cells;
          few = omega (arith, long);
          running = refl;
          index = refl;
          bearer = refl;
          results = refl;
          reports = refl;
          keys = refl;
          values = λ k b i t. bytes_past h.store (waiting_at n) values p.place (value_len p) (result_at k) i (omega (arith, r, m));
        }
    go false e =
        record {
          line = sym (append-nil (waiting q));
          count = omega arith;
          cells = cells;
          few = few;
          running = refl;
          index = refl;
          bearer = refl;
          results = refl;
          reports = refl;
          keys = refl;
          values = λ k b i t. refl;
        }

put_then : (h g i : Held) (a b : List Queued) → Put h g a → Put g i b → Put h i (a ++ b)
put_then h g i a b x y =
    record {
      line = y.line ∙ ap (λ (t : List Queued). t ++ b) x.line ∙ append_assoc (waiting h.state.queue) a b;
      count = omega (arith, x.count, y.count, length-append a b);
      cells = y.cells;
      few = y.few;
      running = y.running ∙ x.running;
      index = y.index ∙ x.index;
      bearer = y.bearer ∙ x.bearer;
      results = y.results ∙ x.results;
      reports = y.reports ∙ x.reports;
      keys = y.keys ∙ x.keys;
      values = λ k p n m. y.values k p n m ∙ x.values k p n m;
    }

pub put_all : (size : ℕ) (h : Held) (values : List ℕ) (ps : List Placed) → all (placed_fits size) ps ≡ true → length h.state.queue.kept ≡ most_steps → h.state.queue.count ≤ most_steps
    → Put h (push_all h values ps) (queued_all (take (most_steps - h.state.queue.count) ps))
unfolding push_all
put_all size h values [] f cells few =
    let e : queued_all (take (most_steps - h.state.queue.count) []) ≡ [] = nil (most_steps - h.state.queue.count) in
    subst (λ (t : List Queued). Put h h t) (sym e)
    (record { line = sym (append-nil (waiting h.state.queue)); count = omega arith; cells = cells; few = few; running = refl; index = refl; bearer = refl; results = refl; reports = refl; keys = refl; values = λ k p n m. refl })
  where
    nil : (m : ℕ) → queued_all (take m []) ≡ []
    nil zero = refl
    nil (suc m) = refl
put_all size h values (p ∷ ps) f cells few =
    let m = short-value size p (all_head (placed_fits size) p ps f) in
    let g = push_one h values p in
    let a = put_one h values p m cells few in
    let b = put_all size g values ps (all_tail (placed_fits size) p ps f) a.cells a.few in
    subst (λ (t : List Queued). Put h (push_all g values ps) t) (same (ltb n most_steps) refl a.count) (put_then h g (push_all g values ps) _ _ a b)
  where
    n : ℕ
    n = h.state.queue.count

    k : ℕ
    k = (push_one h values p).state.queue.count

    same : (x : Bool) → ltb n most_steps ≡ x → k ≡ n + length (pick x (queued p ∷ []) []) → pick x (queued p ∷ []) [] ++ queued_all (take (most_steps - k) ps) ≡ queued_all (take (most_steps - n) (p ∷ ps))
    same true e c =
        let r : n < most_steps = ltb-true n most_steps e in
        let d : most_steps - n ≡ suc (most_steps - k) = omega (arith, c) in
        ap (λ (j : ℕ). queued_all (take j (p ∷ ps))) (sym d)
    same false e c =
        let r : most_steps ≤ n = ltb-false n most_steps e in
        let d : most_steps - n ≡ 0 = omega arith in
        let d' : most_steps - k ≡ 0 = omega (arith, c) in
        ap (λ (j : ℕ). queued_all (take j ps)) d' ∙ ap (λ (j : ℕ). queued_all (take j (p ∷ ps))) (sym d)

-- the books with more taken in
books-put : (l : List (Valued StepResult)) (q new : List Queued) (h g : Held) → Whole h → Books l q h → Put h g new → Books l (q ++ new) g
books-put l q new h g w b p =
    record {
      table = kept-values h g w p.results p.values ∙ b.table;
      order = b.order;
      line = line;
      fewer = omega (arith, length-append q new, b.fewer);
      busy = λ e. p.index ∙ b.busy (sym (ap (λ r. r.active) p.running) ∙ e);
      number = λ e. ap (λ r. r.index) p.running ∙ b.number (sym (ap (λ r. r.active) p.running) ∙ e);
      idle = λ e. p.index ∙ b.idle (sym (ap (λ r. r.active) p.running) ∙ e);
      sizes = record {
        queue = p.cells;
        results = ap (λ r. length r.kept) p.results ∙ b.sizes.results;
        reports = subst (λ (x : Reports). reports.Whole x) (sym p.reports) b.sizes.reports;
        keys = ap (λ (x : Keys). length x.kept) p.keys ∙ b.sizes.keys;
      };
    }
  where
    line : in_line g.state ≡ drop (length l) (q ++ new)
    line =
        ap (λ (r : Running). running_one r ++ waiting g.state.queue) p.running
        ∙ ap (λ (t : List Queued). running_one h.state.running ++ t) p.line
        ∙ sym (append_assoc (running_one h.state.running) (waiting h.state.queue) new)
        ∙ ap (λ (t : List Queued). t ++ new) b.line
        ∙ sym (drop-append-le (length l) q new b.fewer)

-- nothing more
pub books-same : (l : List (Valued StepResult)) (q : List Queued) (h : Held) → Books l q h → Books l (q ++ []) h
books-same l q h b = subst (λ (t : List Queued). Books l t h) (sym (append-nil q)) b

pub books-begins : (l : List (Valued StepResult)) (q : List Queued) (h : Held) (c : Call) → done? h c ≡ true → Books l q h → Books l (q ++ room_for h c) (begins h c).held
books-begins l q h (batch out at b values) e k =
    let p = passed-batch h.state (length h.store) (length out) at b (length values) (eqb-true (gate_of h (batch out at b values)) 0 e) in
    let n = of-fit h.state p.shared.fit in
    let w : Whole h = record { store = p.shared.store; cells = k.sizes.results; few = n.results.few; fit = n.results.fit } in
    books-put l q _ h (push_all h values (steps b)) w k (put_all (length values) h values (steps b) p.fit k.sizes.queue n.waits.few)
books-begins l q h (timer out at) e k = books-same l q h k
books-begins l q h (connected out handle at) e k = books-same l q h k
books-begins l q h (disconnected at) e k = books-same l q h k
books-begins l q h (advertising v) e k = books-same l q h k
books-begins l q h (scan_response at a d) e k = books-same l q h k
books-begins l q h (fragment out at start piece) e k = books-same l q h k
books-begins l q h (reads r) e k = books-same l q h k

-- ---- calls

-- what a refusal leaves
books-held : (l : List (Valued StepResult)) (q : List Queued) (h : Held) (n : ℕ) → Books l q h → Books l q (on_state h (link.with_held h.state n))
books-held l q h n b =
    record {
      table = b.table;
      order = b.order;
      line = b.line;
      fewer = b.fewer;
      busy = b.busy;
      number = b.number;
      idle = b.idle;
      sizes = record { queue = b.sizes.queue; results = b.sizes.results; reports = b.sizes.reports; keys = b.sizes.keys };
    }

pub books-refused : (l : List (Valued StepResult)) (q : List Queued) (h : Held) (c : Call) → Books l q h → Books l q (left (refused_of h c))
books-refused l q h (batch out at b values) k = k
books-refused l q h (timer out at) k = k
books-refused l q h (connected out handle at) k = k
books-refused l q h (disconnected at) k = k
books-refused l q h (advertising v) k = k
books-refused l q h (scan_response at a d) k = k
books-refused l q h (fragment out at start piece) k = go (eqb (gate_of h (fragment out at start piece)) long_frame)
  where
    go : (b : Bool) → Books l q (record { state = pick b (link.with_held h.state 0) h.state; store = h.store })
    go true = books-held l q h 0 k
    go false = k
books-refused l q h (reads r) k = k

pub books-call : (l : List (Valued StepResult)) (q : List Queued) (h : Held) (c : Call) → Books l q h → Books (l ++ given_by h c) (q ++ takes_in h c) (left (does h c))
books-call l q h c b = subst (λ (x : Outcome). Books (l ++ given_by h c) (q ++ takes_in h c) (left x)) (sym (does-law h c)) (go (done? h c) refl)
  where
    go : (x : Bool) → done? h c ≡ x
        → Books (l ++ pick x (given_in (begins h c) (goes h c)) []) (q ++ pick x (room_for h c) []) (left (pick x (done (final (begins h c) (goes h c))) (refused_of h c)))
    go true e =
        let g = good h c e b.sizes in
        (after-hops l (q ++ room_for h c) g.hops (record { sound = g.sound; books = books-begins l q h c e b })).books
    go false e =
        subst (λ (t : List (Valued StepResult)). Books t (q ++ []) (left (refused_of h c))) (sym (append-nil l)) (books-same l q (left (refused_of h c)) (books-refused l q h c b))

pub books-run : (l : List (Valued StepResult)) (q : List Queued) (h : Held) (cs : List Call) → Books l q h → Books (l ++ log h cs) (q ++ taken h cs) (run h cs)
books-run l q h [] b = subst (λ (t : List (Valued StepResult)). Books t (q ++ []) h) (sym (append-nil l)) (books-same l q h b)
books-run l q h (c ∷ cs) b =
    let g = left (does h c) in
    subst (λ (t : List (Valued StepResult)). Books t (q ++ taken h (c ∷ cs)) (run g cs)) (append_assoc l (given_by h c) (log g cs))
    (subst (λ (t : List Queued). Books ((l ++ given_by h c) ++ log g cs) t (run g cs)) (append_assoc q (takes_in h c) (taken g cs))
    (books-run (l ++ given_by h c) (q ++ takes_in h c) g cs (books-call l q h c b)))

-- with one call more
pub taken-snoc : (h : Held) (cs : List Call) (c : Call) → taken h cs ++ takes_in (run h cs) c ≡ taken h (cs ++ (c ∷ []))
taken-snoc h [] c = sym (append-nil (takes_in h c))
taken-snoc h (d ∷ cs) c =
    let g = left (does h d) in
    append_assoc (takes_in h d) (taken g cs) (takes_in (run g cs) c) ∙ ap (λ (t : List Queued). takes_in h d ++ t) (taken-snoc g cs c)

-- ---- from a fresh state, with any store

pub books-fresh : (options : Options) (store : List ℕ) → Books [] [] (fresh options store)
unfolding fresh_central valued newest
books-fresh options store =
    record {
      table = refl;
      order = tt;
      line = refl;
      fewer = omega arith;
      busy = λ e. absurd (false≢true e);
      number = λ e. absurd (false≢true e);
      idle = λ e. refl;
      sizes = record { queue = refl; results = refl; reports = record { who = refl; at = refl; channel = refl; pdu = refl; len = refl; response = refl }; keys = refl };
    }

module _ (options : Options) (store : List ℕ) (cs : List Call) where
  pub books : Books (log (fresh options store) cs) (taken (fresh options store) cs) (run (fresh options store) cs)
  books = books-run [] [] (fresh options store) cs (books-fresh options store)
