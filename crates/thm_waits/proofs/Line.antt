-- The values of the steps that are not done, as they stand in the store, are those that the batches handed in.
use Prim.Native.Nat.{ℕ, zero, suc, ◌+◌, ◌-◌, ◌*◌, ◌≤◌, ◌<◌}
use mathlib.Core.Path.{◌≡◌, refl, sym, ap, ap₂, ◌∙◌, subst}
use mathlib.Core.Bool.{Bool, true, false}
use mathlib.Core.List.{List, [], ◌∷◌, ◌++◌, append-nil, append_assoc}
use native.Mathlib.Omega.{arith}
use lib.ListN.{length, take, drop, get_or, length-append}
use lib.Seq.{drop-drop, get_or-drop, length-take-le}
use lib.Dec.{ltb, leb}
use borrow.Author.Tests.{ltb-true, ltb-false, leb-true}
use Rattle.bytes_base.specs.Choice.{pick}
use Rattle.bytes_base.specs.Splice.{splice}
use Rattle.bytes_base.proofs.SpliceLaws.{moved_down, length-splice}
use Rattle.lists.specs.Queue.{all}
use Rattle.lists.proofs.QueueLaws.{take-onto, length-onto}
use Rattle.lists.proofs.ScanLaws.{all_head, all_tail}
use Rattle.lists.specs.Blocks.{Valued, bytes}
use Rattle.lists.proofs.BlockLaws.{bytes_below, bytes-in}
use Rattle.state_places.specs.Sizes.{most_steps, store_size, value_size, running_at, waiting_at, result_at}
use Rattle.state.specs.Central.{with_queue, with_counters}
use Rattle.state.specs.declared.Queue.{Queue}
use Rattle.state.specs.declared.Queued.{Queued}
use Rattle.state.specs.declared.StepResult.{StepResult}
use Rattle.state_rules.specs.Steps.{implies, carries, step_fits}
use Rattle.state_rules.proofs.FitLaws.{both}
use Rattle.script_rules.specs.World.{Held}
use Rattle.script_rules.specs.declared.Placed.{Placed}
use Rattle.script_rules.specs.Batch.{placed_fits}
use Rattle.script_rules.specs.BatchSteps.{value_len, queued}
use Rattle.script_rules.specs.Waiting.{waiting, queueing, refusing, push_one, push_all, take_step}
use Rattle.script_rules.proofs.AdvanceLaws.{GoesOn}
use Rattle.thm_trail.specs.Log.{queued_all}
use Rattle.thm_accounting.specs.InLine.{running_one, in_line}
use Rattle.thm_accounting.proofs.Books.{Books}
use Rattle.thm_accounting.proofs.Accounting.{short-value}
use Rattle.thm_waits.specs.Waits.{values_at}
use Rattle.thm_waits.proofs.Counting.{Each, each_append}

-- the values of steps, in blocks from i on: block 0 is the running step's, block i + 1 that of waiting step i
abbrev pub values_from : List ℕ → ℕ → List Queued → List (List ℕ)
values_from s i [] = []
values_from s i (x ∷ l) = bytes s (value_size * i) x.len ∷ values_from s (i + 1) l

abbrev pub first_block : Held → ℕ
first_block h = pick h.state.running.active 0 1

abbrev pub line_values : Held → List (List ℕ)
line_values h = values_from h.store (first_block h) (in_line h.state)

-- a value fits its block
abbrev pub Small : List Queued → Type 0
Small l = Each (λ (x : Queued). x.len ≤ value_size) l

pub small-drop : (n : ℕ) (l : List Queued) → Small l → Small (drop n l)
small-drop zero l s = s
small-drop (suc n) [] s = tt
small-drop (suc n) (x ∷ l) s = small-drop n l s.1

-- ---- the same blocks

-- of two stores that have the same below the results
values_low : (s r : List ℕ) (i : ℕ) (l : List Queued) → ((a n : ℕ) → a + n ≤ result_at 0 → bytes s a n ≡ bytes r a n) → Small l → i + length l ≤ 65
    → values_from s i l ≡ values_from r i l
values_low s r i [] e m k = refl
values_low s r i (x ∷ l) e m k =
    ap₂ (λ (v : List ℕ) (t : List (List ℕ)). v ∷ t) (e (value_size * i) x.len (omega (arith, m.0, k))) (values_low s r (i + 1) l e m.1 (omega (arith, k)))

-- block k of one is block k + 1 of the other
values-down : (s r : List ℕ) (i : ℕ) (l : List Queued) → ((k n : ℕ) → k < i + length l → n ≤ value_size → bytes s (value_size * k) n ≡ bytes r (value_size * (k + 1)) n) → Small l
    → values_from s i l ≡ values_from r (i + 1) l
values-down s r i [] e m = refl
values-down s r i (x ∷ l) e m =
    ap₂ (λ (v : List ℕ) (t : List (List ℕ)). v ∷ t) (e i x.len (omega arith) m.0) (values-down s r (i + 1) l (λ k n b c. e k n (omega (arith, b)) c) m.1)

values-append : (s : List ℕ) (i : ℕ) (l m : List Queued) → values_from s i (l ++ m) ≡ values_from s i l ++ values_from s (i + length l) m
values-append s i [] m = let e : i ≡ i + 0 = omega arith in ap (λ (j : ℕ). values_from s j m) e
values-append s i (x ∷ l) m =
    let e : i + 1 + length l ≡ i + suc (length l) = omega arith in
    ap (λ (t : List (List ℕ)). bytes s (value_size * i) x.len ∷ t) (values-append s (i + 1) l m ∙ ap (λ (j : ℕ). values_from s (i + 1) l ++ values_from s j m) e)

-- ---- along

-- l was given, vs are the values of all steps taken in
abbrev pub Line : List (List ℕ) → List (Valued StepResult) → Held → Type 0
Line vs l h = line_values h ≡ drop (length l) vs

-- how long the line is
line-short : (h : Held) → h.state.queue.count ≤ most_steps → first_block h + length (in_line h.state) ≤ 65
line-short h few = go h.state.running.active
  where
    short : length (waiting h.state.queue) ≤ most_steps
    short = omega (arith, few, length-take-most h.state.queue.count h.state.queue.kept)
      where
        length-take-most : {A : Type 0} (n : ℕ) (l : List A) → length (take n l) ≤ n
        length-take-most zero l = omega arith
        length-take-most (suc n) [] = omega arith
        length-take-most (suc n) (x ∷ l) = omega (arith, length-take-most n l)

    go : (b : Bool) → pick b 0 1 + length (pick b (record { step = h.state.running.step; len = h.state.running.len } ∷ []) [] ++ waiting h.state.queue) ≤ 65
    go true = omega (arith, short)
    go false = omega (arith, short)

-- the script stands where it stood, and so does every byte below the results
pub line_same : (h g : Held) → h.state.queue.count ≤ most_steps → Small (in_line h.state) → g.state.running.active ≡ h.state.running.active → in_line g.state ≡ in_line h.state
    → ((a n : ℕ) → a + n ≤ result_at 0 → bytes g.store a n ≡ bytes h.store a n) → line_values g ≡ line_values h
line_same h g few small a e low =
    ap₂ (λ (b : Bool) (t : List Queued). values_from g.store (pick b 0 1) t) a e
    ∙ values_low g.store h.store (first_block h) (in_line h.state) low small (line-short h few)

-- a list that is not empty: its first, and the rest
pub first_rest : {A : Type 0} (x d : A) (t q : List A) (n : ℕ) → x ∷ t ≡ drop n q → (get_or q n d ≡ x) × (t ≡ drop (n + 1) q)
first_rest x d t q n e =
    let z : n + 0 ≡ n = omega arith in
    (sym (ap (λ (k : ℕ). get_or q k d) z) ∙ sym (get_or-drop n q 0 d) ∙ ap (λ y. get_or y 0 d) (sym e), ap (λ y. drop 1 y) e ∙ drop-drop 1 n q)

-- the running step's value is the first, and what waits comes after it
pub line-running : (vs : List (List ℕ)) (l : List (Valued StepResult)) (h : Held) → h.state.running.active ≡ true → Line vs l h
    → bytes h.store running_at h.state.running.len ∷ values_from h.store 1 (waiting h.state.queue) ≡ drop (length l) vs
line-running vs l h a e =
    sym
    (ap (λ (b : Bool). values_from h.store (pick b 0 1) (pick b (record { step = h.state.running.step; len = h.state.running.len } ∷ []) [] ++ waiting h.state.queue)) a)
    ∙ e

-- it ends
pub line-ended : (vs : List (List ℕ)) (l : List (Valued StepResult)) (x : Valued StepResult) (h g : Held) → h.state.queue.count ≤ most_steps → Small (waiting h.state.queue)
    → h.state.running.active ≡ true → g.state.running.active ≡ false → g.state.queue ≡ h.state.queue
    → ((a n : ℕ) → a + n ≤ result_at 0 → bytes g.store a n ≡ bytes h.store a n) → Line vs l h → Line vs (l ++ (x ∷ [])) g
line-ended vs l x h g few small was is same low e =
    let n : length l + 1 ≡ length (l ++ (x ∷ [])) = sym (length-append l (x ∷ [])) in
    ap (λ (b : Bool). values_from g.store (pick b 0 1) (pick b (record { step = g.state.running.step; len = g.state.running.len } ∷ []) [] ++ waiting g.state.queue)) is
    ∙ ap (λ (q : Queue). values_from g.store 1 (waiting q)) same
    ∙ values_low g.store h.store 1 (waiting h.state.queue) low small short
    ∙ (first_rest (bytes h.store running_at h.state.running.len) [] (values_from h.store 1 (waiting h.state.queue)) vs (length l) (line-running vs l h was e)).1
    ∙ ap (λ (k : ℕ). drop k vs) n
  where
    short : 1 + length (waiting h.state.queue) ≤ 65
    short = omega (
      arith,
      ap
          (λ (b : Bool). pick b 0 1 + length (pick b (record { step = h.state.running.step; len = h.state.running.len } ∷ []) [] ++ waiting h.state.queue)) was,
      line-short h few,
    )

-- the first waiting step is taken
pub line-take : (vs : List (List ℕ)) (l : List (Valued StepResult)) (q : List Queued) (h : Held) → length h.store ≡ store_size → h.state.queue.count ≤ most_steps → Small q → GoesOn h.state
    → Books l q h → Books l q (take_step h) → Line vs l h → Line vs l (take_step h)
unfolding take_step
line-take vs l q h store few small o b c e =
    ap (values_from r 0) (c.line ∙ sym b.line)
    ∙ values-down r h.store 0 (in_line h.state) down (subst Small (sym b.line) (small-drop (length l) q small))
    ∙ ap (λ (a : Bool). values_from h.store (pick a 0 1) (in_line h.state)) (sym o.idle)
    ∙ e
  where
    n : ℕ
    n = h.state.queue.count

    r : List ℕ
    r = (take_step h).store

    long : length (in_line h.state) ≤ n
    long = omega (
      arith,
      ap (λ (a : Bool). length (pick a (record { step = h.state.running.step; len = h.state.running.len } ∷ []) [] ++ waiting h.state.queue))
          o.idle,
      length-take-le n h.state.queue.kept (omega (arith, few, b.sizes.queue)),
    )

    down : (k m : ℕ) → k < 0 + length (in_line h.state) → m ≤ value_size → bytes r (value_size * k) m ≡ bytes h.store (value_size * (k + 1)) m
    down k m a z =
        let x : running_at + value_size * k ≡ value_size * k = omega arith in
        let y : waiting_at 0 + value_size * k ≡ value_size * (k + 1) = omega arith in
        ap (λ (s : List ℕ). bytes s (value_size * k) m) (moved_down h.store running_at (waiting_at 0) (value_size * n) (omega arith))
        ∙ ap (λ (i : ℕ). bytes (splice h.store running_at h.store (waiting_at 0) (value_size * n)) i m) (sym x)
        ∙ bytes-in h.store running_at h.store (waiting_at 0) (value_size * n) (value_size * k) m (omega (arith, store, few)) (omega (arith, store, few)) (omega (arith, a, z, long))
        ∙ ap (λ (i : ℕ). bytes h.store i m) y

-- ---- a batch

-- what a step that a batch accepts has for a value is there
value_there : (size : ℕ) (p : Placed) → placed_fits size p ≡ true → carries p.step ≡ true → p.place + p.len ≤ size
unfolding step_fits
value_there size p e c =
    let b = (both (step_fits p.step p.len) (implies (carries p.step) (leb (p.place + p.len) size)) e).1 in
    leb-true (p.place + p.len) size (subst (λ (x : Bool). implies x (leb (p.place + p.len) size) ≡ true) c b)

module _ (h : Held) (values : List ℕ) (p : Placed) (fits : placed_fits (length values) p ≡ true) (store : length h.store ≡ store_size) (cells : length h.state.queue.kept ≡ most_steps)
    (few : h.state.queue.count ≤ most_steps) (small : Small (in_line h.state)) where
  abbrev n : ℕ
  n = h.state.queue.count

  abbrev yes : Held
  yes =
      record {
        state = with_queue h.state (queueing h.state.queue (waiting h.state.queue ++ (queued p ∷ [])));
        store = splice h.store (waiting_at n) values p.place (value_len p);
      }

  m : value_len p ≤ value_size
  m = short-value (length values) p fits

  waits : length (waiting h.state.queue) ≡ n
  waits = length-take-le n h.state.queue.kept (omega (arith, few, cells))

  where-new : first_block h + length (in_line h.state) ≡ n + 1
  where-new = go h.state.running.active
    where
      go : (b : Bool) → pick b 0 1 + length (pick b (record { step = h.state.running.step; len = h.state.running.len } ∷ []) [] ++ waiting h.state.queue) ≡ n + 1
      go true = omega (arith, waits)
      go false = omega (arith, waits)

  line-longer : in_line yes.state ≡ in_line h.state ++ (queued p ∷ [])
  line-longer =
      ap (λ (t : List Queued). running_one h.state.running ++ t) (take-onto h.state.queue.kept (waiting h.state.queue ++ (queued p ∷ [])))
      ∙ sym (append_assoc (running_one h.state.running) (waiting h.state.queue) (queued p ∷ []))

  put : n < most_steps → bytes yes.store (value_size * (n + 1)) (value_len p) ≡ bytes values p.place (value_len p)
  put room = go (carries p.step) refl
    where
      k : ℕ
      k = p.len

      go : (b : Bool) → carries p.step ≡ b → bytes (splice h.store (waiting_at n) values p.place (pick b k 0)) (value_size * (n + 1)) (pick b k 0) ≡ bytes values p.place (pick b k 0)
      go true c =
          let x : waiting_at n + 0 ≡ value_size * (n + 1) = omega arith in
          let y : p.place + 0 ≡ p.place = omega arith in
          let w : k ≤ value_size = subst (λ (b : Bool). pick b k 0 ≤ value_size) c m in
          ap (λ (i : ℕ). bytes (splice h.store (waiting_at n) values p.place k) i k) (sym x)
          ∙ bytes-in h.store (waiting_at n) values p.place k 0 k (omega (arith, store, room, w)) (value_there (length values) p fits c) (omega arith)
          ∙ ap (λ (i : ℕ). bytes values i k) y
      go false c = refl

  -- those before it are as they were
  values-before : (i : ℕ) (l : List Queued) → i + length l ≤ n + 1 → Small l → values_from yes.store i l ≡ values_from h.store i l
  values-before i [] b s = refl
  values-before i (x ∷ l) b s =
      ap₂ (λ (v : List ℕ) (t : List (List ℕ)). v ∷ t) (bytes_below h.store (waiting_at n) values p.place (value_len p) (value_size * i) x.len (omega (arith, b, s.0)))
      (values-before (i + 1) l (omega (arith, b)) s.1)

  -- one more, where there is room
  pub pushed-line : n < most_steps → line_values yes ≡ line_values h ++ (bytes values p.place (value_len p) ∷ [])
  pushed-line room =
      ap (values_from yes.store (first_block h)) line-longer
      ∙ values-append yes.store (first_block h) (in_line h.state) (queued p ∷ [])
      ∙ ap₂ (λ (s t : List (List ℕ)). s ++ t) (values-before (first_block h) (in_line h.state) (omega (arith, where-new)) small)
      (ap (λ (i : ℕ). bytes yes.store (value_size * i) (value_len p) ∷ []) where-new ∙ ap (λ (v : List ℕ). v ∷ []) (put room))

  pub pushed-small : Small (in_line yes.state)
  pushed-small = subst Small (sym line-longer) (each_append (λ (x : Queued). x.len ≤ value_size) (in_line h.state) (queued p ∷ []) small (m, tt))

  pub pushed-cells : n < most_steps → length yes.state.queue.kept ≡ most_steps
  pushed-cells room =
      let l = waiting h.state.queue ++ (queued p ∷ []) in
      length-onto h.state.queue.kept l (omega (arith, length-append (waiting h.state.queue) (queued p ∷ []), waits, cells, room)) ∙ cells

  pub pushed-count : yes.state.queue.count ≡ n + 1
  pushed-count = length-append (waiting h.state.queue) (queued p ∷ []) ∙ omega (arith, waits)

-- one step: x is whether it has a place
pub record Pushed (h g : Held) (new : List (List ℕ)) : Type 0 where
  pub line : line_values g ≡ line_values h ++ new
  pub small : Small (in_line g.state)
  pub store : length g.store ≡ store_size
  pub cells : length g.state.queue.kept ≡ most_steps
  pub few : g.state.queue.count ≤ most_steps
  pub count : g.state.queue.count ≡ h.state.queue.count + length new

push-one : (h : Held) (values : List ℕ) (p : Placed) → placed_fits (length values) p ≡ true → length h.store ≡ store_size → length h.state.queue.kept ≡ most_steps
    → h.state.queue.count ≤ most_steps → Small (in_line h.state)
    → Pushed h (push_one h values p) (pick (ltb h.state.queue.count most_steps) (bytes values p.place (value_len p) ∷ []) [])
unfolding push_one
push-one h values p fits store cells few small = go (ltb n most_steps) refl
  where
    n : ℕ
    n = h.state.queue.count

    g : Held
    g =
        record {
          state = with_queue h.state (queueing h.state.queue (waiting h.state.queue ++ (queued p ∷ [])));
          store = splice h.store (waiting_at n) values p.place (value_len p);
        }

    no : Held
    no = record { state = with_counters h.state (refusing h.state.counters); store = h.store }

    go : (x : Bool) → ltb n most_steps ≡ x → Pushed h (pick x g no) (pick x (bytes values p.place (value_len p) ∷ []) [])
    go true e =
        let room : n < most_steps = ltb-true n most_steps e in
        record {
          line = pushed-line h values p fits store cells few small room;
          small = pushed-small h values p fits store cells few small;
          store = length-splice h.store (waiting_at n) values p.place (value_len p) ∙ store;
          cells = pushed-cells h values p fits store cells few small room;
          few = omega (arith, pushed-count h values p fits store cells few small, room);
          count = pushed-count h values p fits store cells few small;
        }
    go false e = record { line = sym (append-nil (line_values h)); small = small; store = store; cells = cells; few = few; count = omega arith }

pub push-all : (h : Held) (values : List ℕ) (ps : List Placed) → all (placed_fits (length values)) ps ≡ true → length h.store ≡ store_size → length h.state.queue.kept ≡ most_steps
    → h.state.queue.count ≤ most_steps → Small (in_line h.state)
    → line_values (push_all h values ps) ≡ line_values h ++ values_at values (take (most_steps - h.state.queue.count) ps)
unfolding push_all
push-all h values [] f store cells few small =
    sym (append-nil (line_values h)) ∙ ap (λ (t : List (List ℕ)). line_values h ++ t) (nil (most_steps - h.state.queue.count))
  where
    nil : (m : ℕ) → [] ≡ values_at values (take m [])
    nil zero = refl
    nil (suc m) = refl
push-all h values (p ∷ ps) f store cells few small =
    let a = push-one h values p (all_head (placed_fits (length values)) p ps f) store cells few small in
    let g = push_one h values p in
    let b = push-all g values ps (all_tail (placed_fits (length values)) p ps f) a.store a.cells a.few a.small in
    b
    ∙ ap (λ (t : List (List ℕ)). t ++ values_at values (take (most_steps - g.state.queue.count) ps)) a.line
    ∙ append_assoc (line_values h) (pick (ltb n most_steps) (bytes values p.place (value_len p) ∷ []) []) (values_at values (take (most_steps - g.state.queue.count) ps))
    ∙ ap (λ (t : List (List ℕ)). line_values h ++ t) (same (ltb n most_steps) refl g.state.queue.count a.count)
  where
    n : ℕ
    n = h.state.queue.count

    v : List ℕ
    v = bytes values p.place (value_len p)

    same : (x : Bool) → ltb n most_steps ≡ x → (k : ℕ) → k ≡ n + length (pick x (v ∷ []) [])
        → pick x (v ∷ []) [] ++ values_at values (take (most_steps - k) ps) ≡ values_at values (take (most_steps - n) (p ∷ ps))
    same true e k c =
        let r : n < most_steps = ltb-true n most_steps e in
        let d : most_steps - n ≡ suc (most_steps - k) = omega (arith, c) in
        ap (λ (j : ℕ). values_at values (take j (p ∷ ps))) (sym d)
    same false e k c =
        let r : most_steps ≤ n = ltb-false n most_steps e in
        let d : most_steps - n ≡ 0 = omega arith in
        let d' : most_steps - k ≡ 0 = omega (arith, c) in
        ap (λ (j : ℕ). values_at values (take j ps)) d' ∙ ap (λ (j : ℕ). values_at values (take j (p ∷ ps))) (sym d)

-- what goes in fits
pub small-queued : (size : ℕ) (m : ℕ) (ps : List Placed) → all (placed_fits size) ps ≡ true → Small (queued_all (take m ps))
small-queued size zero ps f = tt
small-queued size (suc m) [] f = tt
small-queued size (suc m) (p ∷ ps) f = (short-value size p (all_head (placed_fits size) p ps f), small-queued size m ps (all_tail (placed_fits size) p ps f))
