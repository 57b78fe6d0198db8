-- The result reader says the entry of the log, while it is kept; the timer reader says the running step's deadline.
use Prim.Native.Nat.{ℕ, zero, suc, ◌+◌, ◌-◌, ◌≤◌, ◌<◌}
use mathlib.Core.Path.{◌≡◌, refl, sym, ap, ◌∙◌, subst}
use mathlib.Core.Bool.{Bool, true, false, ◌&&◌}
use mathlib.Core.List.{List, [], ◌∷◌}
use native.Mathlib.Omega.{arith}
use lib.ListN.{length, drop, get_or, length-drop}
use lib.Seq.{get_or-drop}
use lib.Dec.{leb}
use borrow.Author.Tests.{eq-eqb, ne_eqb, leb-true}
use Rattle.bytes_base.specs.Choice.{pick}
use Rattle.state_places.specs.Sizes.{most_results, result_size, result_at}
use Rattle.lists.specs.Queue.{newest}
use Rattle.lists.specs.Blocks.{Valued, valued, bytes, place, fitting}
use Rattle.lists.proofs.BlockLaws.{length-valued}
use Rattle.lists.proofs.ScanLaws.{all_head, all_tail}
use Rattle.state.specs.Fresh.{no_result}
use Rattle.state.specs.declared.StepResult.{StepResult}
use Rattle.time.specs.declared.Micros.{Micros}
use Rattle.state_rules.specs.Gate.{gate_reader}
use Rattle.state_rules.proofs.GateLaws.{passed-reader}
use Rattle.script_rules.specs.World.{Held}
use Rattle.script_rules.specs.Finish.{result_part, kept}
use Rattle.state_refusals.specs.Refused.{refused, refusal_number}
use Rattle.std.specs.Prelude.{Option, None, Some, Result, Ok, Err}
use Rattle.state_readers.specs.declared.Given.{Given}
use Rattle.state_readers.specs.declared.Passed.{Passed}
use Rattle.state_refusals.specs.declared.Refusal.{Refusal}
use Rattle.state_readers.specs.Readers.{span, timer_of, timer, handle, given, result_answer}
use Rattle.state_readers.specs.Readers as readers
use Rattle.state_readers.proofs.ReaderLaws.{timer-refusal, handle-refusal, result_answer-refusal}
use Rattle.state_readers.proofs.PassedLaws.{passed-refusal}
use Rattle.state_readers.specs.Numbers.{eight, timer_words, handle_words, given_words, passed_words}
use Rattle.thm_trail.specs.Calls.{Reader, timer_us, connected_handle, result_of, passed_on, reads, does}
use Rattle.thm_trail.specs.Log.{kept_results, no_valued}
use Rattle.thm_accounting.proofs.Numbered.{Numbered, numbered-rest}
use Rattle.thm_readers.specs.Said.{said, nothing, deadline_of, Shows, SaysResults}

-- ---- `timer_us`

pub timer-said : (h : Held) → gate_reader h.state (length h.store) ≡ 0 → said h timer_us ≡ deadline_of h.state.running
unfolding timer
timer-said h e =
    ap (λ (b : Bool). timer_words (pick b (Ok (timer_of h.state.running)) (refused (gate_reader h.state (length h.store))))) (eq-eqb (gate_reader h.state (length h.store)) 0 e)
    ∙ go (h.state.running.active && h.state.running.dated)
  where
    go : (b : Bool) → timer_words (Ok (pick b (Some h.state.running.deadline) None)) ≡ pick b (eight 0 1 h.state.running.deadline.0 0 0 0 0 0) nothing
    go true = refl
    go false = refl

-- a result whose value stands at a place
abbrev given_of : ℕ → StepResult → Option Given
given_of place x = Some (record { at = x.at; status = x.status; value = span place x.len })

-- ---- results numbered from m on, whose values stand from block j on

module _ (s : List ℕ) where
  abbrev values : ℕ → List StepResult → List (Valued StepResult)
  values j l = valued (λ x. x.len) result_part s j l

  found : (i j m k : ℕ) (l : List StepResult) → Numbered m (values j l) → i ≡ m + k → k < length l
      → given i j l ≡ given_of (result_at (j + k)) (get_or l k no_result)
  unfolding given valued
  found i j m k [] n e h = absurd (omega arith)
  found i j m zero (x ∷ l) n e h =
      let f : x.index ≡ i = omega (arith, n.0) in
      let z : j ≡ j + 0 = omega arith in
      ap (λ (b : Bool). pick b (given_of (result_at j) x) (given i (j + 1) l)) (eq-eqb x.index i f)
      ∙ ap (λ (a : ℕ). given_of (result_at a) x) z
  found i j m (suc k) (x ∷ l) n e h =
      let f : x.index ≡ i → ⊥ = λ y. omega (arith, n.0, y) in
      let z : (j + 1) + k ≡ j + suc k = omega arith in
      let o : j + 1 ≡ suc j = omega arith in
      ap (λ (b : Bool). pick b (given_of (result_at j) x) (given i (j + 1) l)) (ne_eqb x.index i f)
      ∙ found i (j + 1) (suc m) k l (subst (λ (a : ℕ). Numbered (suc m) (values a l)) (sym o) n.1) (omega (arith, e)) (omega arith)
      ∙ ap (λ (a : ℕ). given_of (result_at a) (get_or l k no_result)) z

  missing : (i j m : ℕ) (l : List StepResult) → Numbered m (values j l) → ((k : ℕ) → k < length l → i ≡ m + k → ⊥) → given i j l ≡ None
  unfolding given valued
  missing i j m [] n f = refl
  missing i j m (x ∷ l) n f =
      let g : x.index ≡ i → ⊥ = λ y. f 0 (omega arith) (omega (arith, n.0, y)) in
      let o : j + 1 ≡ suc j = omega arith in
      ap (λ (b : Bool). pick b (given_of (result_at j) x) (given i (j + 1) l)) (ne_eqb x.index i g)
      ∙ missing i (j + 1) (suc m) l (subst (λ (a : ℕ). Numbered (suc m) (values a l)) (sym o) n.1) (λ k h e. f (suc k) (omega arith) (omega (arith, e)))

  -- one of them, with its value
  value-at : (j k : ℕ) (l : List StepResult) → k < length l → get_or (values j l) k no_valued ≡ record { entry = get_or l k no_result; value = bytes s (result_at (j + k)) (get_or l k no_result).len }
  unfolding valued
  value-at j k [] h = absurd (omega arith)
  value-at j zero (x ∷ l) h = let z : place result_part j ≡ result_at (j + 0) = omega arith in ap (λ (a : ℕ). record { entry = x; value = bytes s a x.len }) z
  value-at j (suc k) (x ∷ l) h =
      let z : suc j + k ≡ j + suc k = omega arith in
      value-at (suc j) k l (omega arith) ∙ ap (λ (a : ℕ). record { entry = get_or l k no_result; value = bytes s (result_at a) (get_or l k no_result).len }) z

-- each fits its block
short : (l : List StepResult) (k : ℕ) → fitting (λ x. x.len) result_size l ≡ true → k < length l → (get_or l k no_result).len ≤ result_size
short [] k f h = absurd (omega arith)
short (x ∷ l) zero f h = leb-true x.len result_size (all_head (λ y. leb y.len result_size) x l f)
short (x ∷ l) (suc k) f h = short l k (all_tail (λ y. leb y.len result_size) x l f) (omega arith)

-- ---- `result`: a table that keeps the newest of the log l

module _ (h : Held) (l : List (Valued StepResult)) (accepts : gate_reader h.state (length h.store) ≡ 0) (table : kept_results h ≡ newest most_results l) (order : Numbered 0 l) where
  rs : List StepResult
  rs = kept h.state.results

  m : ℕ
  m = length l - most_results

  rest : kept_results h ≡ drop m l
  unfolding newest m
  rest = table

  numbers : Numbered m (kept_results h)
  numbers = subst (λ (t : List (Valued StepResult)). Numbered m t) (sym rest) (numbered-rest m l order)

  many : length rs ≡ length l - m
  unfolding rs
  many = sym (length-valued (λ x. x.len) result_part h.store 0 rs) ∙ ap length rest ∙ length-drop m l

  asked : (i : ℕ) → said h (result_of i) ≡ given_words (Ok (given i 0 rs))
  unfolding result_answer rs
  asked i =
      ap (λ (b : Bool). given_words (pick b (Ok (given i 0 rs)) (refused (gate_reader h.state (length h.store))))) (eq-eqb (gate_reader h.state (length h.store)) 0 accepts)

  absent : (i : ℕ) → ((k : ℕ) → k < length rs → i ≡ m + k → ⊥) → said h (result_of i) ≡ nothing
  unfolding rs
  absent i f = asked i ∙ ap (λ (g : Option Given). given_words (Ok g)) (missing h.store i 0 m rs numbers f)

  module _ (i : ℕ) (given-so-far : i < length l) (Still-kept : length l ≤ i + most_results) where
    k : ℕ
    k = i - m

    is : i ≡ m + k
    unfolding m k
    is = omega arith

    in_table : k < length rs
    unfolding m k
    in_table = omega (arith, many)

    -- the entry of the log is the table's
    entry : get_or l i no_valued ≡ record { entry = get_or rs k no_result; value = bytes h.store (result_at k) (get_or rs k no_result).len }
    unfolding rs
    entry =
        let z : 0 + k ≡ k = omega arith in
        ap (λ (a : ℕ). get_or l a no_valued) is
        ∙ sym (get_or-drop m l k no_valued)
        ∙ ap (λ (t : List (Valued StepResult)). get_or t k no_valued) (sym rest)
        ∙ value-at h.store 0 k rs in_table
        ∙ ap (λ (a : ℕ). record { entry = get_or rs k no_result; value = bytes h.store (result_at a) (get_or rs k no_result).len }) z

    few : length rs ≤ most_results
    unfolding m
    few = omega (arith, many)

    shows : Shows h (record { entry = get_or rs k no_result; value = bytes h.store (result_at k) (get_or rs k no_result).len }) (said h (result_of i))
    unfolding rs
    shows =
        let z : 0 + k ≡ k = omega arith in
        record {
          place = result_at k;
          numbers-are =
              asked i
              ∙ ap (λ (g : Option Given). given_words (Ok g)) (found h.store i 0 m k rs numbers is in_table)
              ∙ ap (λ (a : ℕ). given_words (Ok (given_of (result_at a) (get_or rs k no_result)))) z;
          inside = omega (arith, in_table, few, short rs k (passed-reader h.state (length h.store) accepts).fit.results in_table);
          value = refl;
        }

    shown : Shows h (get_or l i no_valued) (said h (result_of i))
    shown = subst (λ (x : Valued StepResult). Shows h x (said h (result_of i))) (sym entry) shows

  pub says-results : SaysResults h l
  unfolding m
  says-results =
      record {
        kept = λ i p f. shown i p (omega (arith, f));
        dropped = λ i f. absent i (λ j p e. omega (arith, f, e));
        to-come = λ i f. absent i (λ j p e. omega (arith, f, p, e, many));
      }

-- ---- the first number is the refusal that the call answers with

pub reader-refusal : (h : Held) (r : Reader) → get_or (said h r) 0 0 ≡ (does h (reads r)).refusal
reader-refusal h timer_us = go (timer h.state (length h.store)) ∙ timer-refusal h.state (length h.store)
  where
    go : (x : Result (Option Micros) Refusal) → get_or (timer_words x) 0 0 ≡ refusal_number x
    go (Err why) = refl
    go (Ok None) = refl
    go (Ok (Some t)) = refl
reader-refusal h connected_handle = go (handle h.state (length h.store)) ∙ handle-refusal h.state (length h.store)
  where
    go : (x : Result (Option ℕ) Refusal) → get_or (handle_words x) 0 0 ≡ refusal_number x
    go (Err why) = refl
    go (Ok None) = refl
    go (Ok (Some n)) = refl
reader-refusal h (result_of i) = go (result_answer h.state (length h.store) i) ∙ result_answer-refusal h.state (length h.store) i
  where
    go : (x : Result (Option Given) Refusal) → get_or (given_words x) 0 0 ≡ refusal_number x
    go (Err why) = refl
    go (Ok None) = refl
    go (Ok (Some g)) = refl
reader-refusal h (passed_on i) = go (readers.passed_on h.state (length h.store) i) ∙ passed-refusal h.state (length h.store) i
  where
    go : (x : Result (Option Passed) Refusal) → get_or (passed_words x) 0 0 ≡ refusal_number x
    go (Err why) = refl
    go (Ok None) = refl
    go (Ok (Some p)) = refl
