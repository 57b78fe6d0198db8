-- What a hop gives: no result, or the running step's, with the time of the hop.
use Prim.Native.Nat.{ℕ, ◌+◌, ◌≤◌, ◌<◌}
use mathlib.Core.Path.{◌≡◌, refl, sym, ap, ◌∙◌, subst}
use mathlib.Core.Bool.{Bool, true, false}
use mathlib.Core.List.{List}
use native.Mathlib.Omega.{arith}
use lib.ListN.{length}
use lib.Seq.{length-take-le}
use Rattle.bytes_base.specs.Choice.{pick}
use Rattle.state_places.specs.Sizes.{store_size, most_results, result_size, result_at}
use Rattle.lists.specs.Queue.{pushed}
use Rattle.lists.proofs.QueueLaws.{take-onto, length-onto, pushed-within}
use Rattle.lists.specs.Blocks.{Valued, valued, bytes, stored}
use Rattle.lists.proofs.BlockLaws.{valued-stored, valued_same}
use Rattle.time.specs.declared.Micros.{Micros}
use Rattle.state.specs.Central.{Central}
use Rattle.state.specs.declared.Results.{Results}
use Rattle.state.specs.declared.StepResult.{StepResult}
use Rattle.state.specs.declared.StepStatus.{StepStatus}
use Rattle.script_rules.specs.World.{Held, on_state}
use Rattle.script_rules.specs.Finish.{result_part, kept, pushed_result, ended, finish}
use Rattle.state_rules.specs.Fit.{results_fit}
use Rattle.thm_trail.specs.Log.{kept_results}

-- what the readings go by: the sizes of the arrays and of the store, and that results fit their blocks
pub record Whole (h : Held) : Type 0 where
  pub store : length h.store ≡ store_size
  pub cells : length h.state.results.kept ≡ most_results
  pub few : h.state.results.count ≤ most_results
  pub fit : results_fit (kept h.state.results) ≡ true

-- the results and the size of the store are as they were
pub whole_same : {h g : Held} → Whole h → length g.store ≡ length h.store → g.state.results ≡ h.state.results → Whole g
whole_same w s e =
    record {
      store = s ∙ w.store;
      cells = ap (λ (r : Results). length r.kept) e ∙ w.cells;
      few = subst (λ (r : Results). r.count ≤ most_results) (sym e) w.few;
      fit = ap (λ (r : Results). results_fit (kept r)) e ∙ w.fit;
    }

-- the script stands where it stood, and so does the link
pub record Same (h g : Held) : Type 0 where
  pub «next» : g.state.counters.next_index ≡ h.state.counters.next_index
  pub queue : g.state.queue ≡ h.state.queue
  pub index : g.state.running.index ≡ h.state.running.index
  pub step : g.state.running.step ≡ h.state.running.step
  pub len : g.state.running.len ≡ h.state.running.len
  pub reports : g.state.reports ≡ h.state.reports
  pub keys : g.state.keys ≡ h.state.keys
  pub cells : length g.state.results.kept ≡ length h.state.results.kept
  pub present : g.state.bearer.present ≡ h.state.bearer.present
  pub handle : g.state.bearer.link.handle ≡ h.state.bearer.link.handle

-- nothing is given, and the running step goes on
pub record Goes_on (h g : Held) : Type 0 where
  pub same : Same h g
  pub results : kept_results g ≡ kept_results h
  pub active : g.state.running.active ≡ h.state.running.active

-- the running step ends now, and its result is given, with this time
pub record Ends (at : Micros) (h g : Held) : Type 0 where
  pub same : Same h g
  pub new : Valued StepResult
  pub results : kept_results g ≡ pushed most_results (kept_results h) new
  pub index : new.entry.index ≡ h.state.running.index
  pub time : new.entry.at ≡ at
  pub was : h.state.running.active ≡ true
  pub is : g.state.running.active ≡ false

pub data Gives (at : Micros) (h g : Held) : Type 0 where
  nothing : Goes_on h g → Gives at h g
  one : Ends at h g → Gives at h g

pub same_refl : (h : Held) → Same h h
same_refl h = record { «next» = refl; queue = refl; index = refl; step = refl; len = refl; reports = refl; keys = refl; cells = refl; present = refl; handle = refl }

pub gives_none : {at : Micros} (h : Held) → Gives at h h
gives_none h = nothing (record { same = same_refl h; results = refl; active = refl })

same_then : {h g k : Held} → Same h g → Same g k → Same h k
same_then a b =
    record {
      «next» = b.«next» ∙ a.«next»;
      queue = b.queue ∙ a.queue;
      index = b.index ∙ a.index;
      step = b.step ∙ a.step;
      len = b.len ∙ a.len;
      reports = b.reports ∙ a.reports;
      keys = b.keys ∙ a.keys;
      cells = b.cells ∙ a.cells;
      present = b.present ∙ a.present;
      handle = b.handle ∙ a.handle;
    }

-- what is given after a time in which nothing was
pub gives_then : {at : Micros} {h g k : Held} → Goes_on h g → Gives at g k → Gives at h k
gives_then a (nothing b) = nothing (record { same = same_then a.same b.same; results = b.results ∙ a.results; active = b.active ∙ a.active })
gives_then a (one b) =
    one
    (record {
      same = same_then a.same b.same;
      new = b.new;
      results = b.results ∙ ap (λ (l : List (Valued StepResult)). pushed most_results l b.new) a.results;
      index = b.index ∙ a.same.index;
      time = b.time;
      was = sym a.active ∙ b.was;
      is = b.is;
    })

-- work that leaves the script, the link, the results and every byte of their values
pub record Apart (h g : Held) : Type 0 where
  pub «next» : g.state.counters.next_index ≡ h.state.counters.next_index
  pub queue : g.state.queue ≡ h.state.queue
  pub index : g.state.running.index ≡ h.state.running.index
  pub active : g.state.running.active ≡ h.state.running.active
  pub step : g.state.running.step ≡ h.state.running.step
  pub len : g.state.running.len ≡ h.state.running.len
  pub reports : g.state.reports ≡ h.state.reports
  pub keys : g.state.keys ≡ h.state.keys
  pub present : g.state.bearer.present ≡ h.state.bearer.present
  pub handle : g.state.bearer.link.handle ≡ h.state.bearer.link.handle
  pub results : g.state.results ≡ h.state.results
  pub values : (k : ℕ) → k < most_results → (n : ℕ) → n ≤ result_size → bytes g.store (result_at k) n ≡ bytes h.store (result_at k) n

-- the results that are kept have the same values
pub kept-values : (h g : Held) → Whole h → g.state.results ≡ h.state.results
    → ((k : ℕ) → k < most_results → (n : ℕ) → n ≤ result_size → bytes g.store (result_at k) n ≡ bytes h.store (result_at k) n) → kept_results g ≡ kept_results h
kept-values h g w e v =
    ap (λ (r : Results). valued (λ x. x.len) result_part g.store 0 (kept r)) e
    ∙ valued_same (λ x. x.len) result_part g.store h.store 0 0 (kept h.state.results) w.fit
    (λ k b n m. let o : 0 + k ≡ k = omega arith in subst (λ (i : ℕ). bytes g.store (result_at i) n ≡ bytes h.store (result_at i) n) (sym o) (v k (fewer k b) n m))
  where
    fewer : (k : ℕ) → k < length (kept h.state.results) → k < most_results
    fewer k b = omega (arith, length-take-le h.state.results.count h.state.results.kept (omega (arith, w.few, w.cells)), w.few)

pub apart : {h g : Held} → Whole h → Apart h g → Goes_on h g
apart {h} {g} w a =
    record {
      same = record { «next» = a.«next»; queue = a.queue; index = a.index; step = a.step; len = a.len; reports = a.reports; keys = a.keys; cells = ap (λ (r : Results). length r.kept) a.results; present = a.present; handle = a.handle };
      results = kept-values h g w a.results a.values;
      active = a.active;
    }

-- the store is as it was
pub apart-state : {h : Held} {c : Central} → c.counters.next_index ≡ h.state.counters.next_index → c.queue ≡ h.state.queue
    → c.running.index ≡ h.state.running.index → c.running.active ≡ h.state.running.active → c.results ≡ h.state.results
    → c.running.step ≡ h.state.running.step → c.running.len ≡ h.state.running.len → c.reports ≡ h.state.reports → c.keys ≡ h.state.keys
    → c.bearer.present ≡ h.state.bearer.present → c.bearer.link.handle ≡ h.state.bearer.link.handle → Apart h (on_state h c)
apart-state a b d e f i j k l m n = record { «next» = a; queue = b; index = d; active = e; step = i; len = j; reports = k; keys = l; present = m; handle = n; results = f; values = λ x p y q. refl }

-- a step ends: the n bytes of the store from `from` on are its value
module _ (h : Held) (at : Micros) (st : StepStatus) (from n heard : ℕ) (w : Whole h) (room : from + n ≤ store_size) (small : n ≤ result_size) where
  abbrev r : StepResult
  r = record { index = h.state.running.index; at = at; status = st; len = n; heard = heard }

  abbrev l : List StepResult
  l = kept h.state.results

  many : length l ≡ h.state.results.count
  many = length-take-le h.state.results.count h.state.results.kept (omega (arith, w.few, w.cells))

  abbrev new : Valued StepResult
  new = record { entry = r; value = bytes h.store from n }

  pushes : kept_results (ended h at st from n heard) ≡ pushed most_results (kept_results h) new
  unfolding ended pushed_result
  pushes =
      ap (λ (t : List StepResult). valued (λ x. x.len) result_part (stored result_part h.state.results.count h.store from n h.store) 0 t)
      (take-onto h.state.results.kept (pushed most_results l r))
      ∙ ap (λ (c : ℕ). valued (λ x. x.len) result_part (stored result_part c h.store from n h.store) 0 (pushed most_results l r)) (sym many)
      ∙ valued-stored (λ x. x.len) result_part h.store h.store from l r (omega (arith, w.store)) (omega (arith, w.store)) (omega arith)
      (omega (arith, many, w.few)) w.fit small

  cells : length (ended h at st from n heard).state.results.kept ≡ length h.state.results.kept
  unfolding ended pushed_result
  cells = length-onto h.state.results.kept (pushed most_results l r) (omega (arith, pushed-within most_results l r, w.cells))

  ended-gives : h.state.running.active ≡ true → Gives at h (ended h at st from n heard)
  unfolding ended
  ended-gives e =
      one
      (record {
        same = record { «next» = refl; queue = refl; index = refl; step = refl; len = refl; reports = refl; keys = refl; cells = cells; present = refl; handle = refl };
        new = new;
        results = pushes;
        index = refl;
        time = refl;
        was = e;
        is = refl;
      })

  -- of a step that runs: its result, with its value
  pub finish-pushes : h.state.running.active ≡ true → kept_results (finish h at st from n heard) ≡ pushed most_results (kept_results h) new
  unfolding finish
  finish-pushes e = ap (λ (b : Bool). kept_results (pick b (ended h at st from n heard) h)) e ∙ pushes

  pub gives-finish : Gives at h (finish h at st from n heard)
  unfolding finish
  gives-finish = go h.state.running.active refl
    where
      go : (b : Bool) → h.state.running.active ≡ b → Gives at h (pick b (ended h at st from n heard) h)
      go true e = ended-gives e
      go false e = gives_none h
