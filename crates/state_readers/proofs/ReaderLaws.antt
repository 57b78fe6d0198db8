-- What each return of the readers asks; each answer carries the gate's refusal exactly.
use Prim.Native.Nat.{ℕ, ◌+◌, ◌≤◌, ◌<◌}
use mathlib.Core.Path.{◌≡◌, refl, sym, ap, ◌∙◌, subst}
use mathlib.Core.Bool.{Bool, true, false}
use mathlib.Core.List.{List, [], ◌∷◌}
use native.Mathlib.Omega.{arith}
use lib.ListN.{length, take, drop, get_or}
use lib.Seq.{length-take-le}
use lib.Dec.{eqb}
use borrow.Author.Tests.{eq-eqb, ne_eqb}
use Rattle.std.specs.Prelude.{Option, None, Some, Ok, Err}
use Rattle.bytes_base.specs.Choice.{pick}
use Rattle.state_places.specs.Sizes.{store_size, most_results, result_at}
use Rattle.lists.proofs.ScanLaws.{rest-cons, rest-nil}
use Rattle.lists.specs.First.{first}
use Rattle.time.specs.declared.Micros.{Micros}
use Rattle.state.specs.Central.{Central}
use Rattle.state.specs.Fresh.{no_result}
use Rattle.state.specs.declared.StepResult.{StepResult}
use Rattle.state_refusals.specs.declared.Refusal.{Refusal}
use Rattle.state_refusals.specs.Refusals.{accepted, number}
use Rattle.state_refusals.specs.Refused.{refusal_number}
use Rattle.state_rules.specs.Fit.{fits, kept}
use Rattle.state_rules.specs.Gate.{gate_reader}
use Rattle.state_rules.proofs.GateLaws.{passed-reader}
use Rattle.state_rules.proofs.PastGate.{refuses-by, tells-by, refusal-by}
use Rattle.state_readers.specs.declared.Given.{Given}
use Rattle.state_readers.specs.Readers.{span, timer_of, timer, handle_of, handle, given, find, result_answer, heard_by}

-- ---- the two ways past the gate

module _ (c : Central) (store : ℕ) where
  pub timer-refused : (why : Refusal) → number why ≡ gate_reader c store → Err why ≡ timer c store
  unfolding timer
  timer-refused why e = refuses-by (gate_reader c store) (timer_of c.running) why e

  pub timer-told : accepted ≡ gate_reader c store → (x : Option Micros) → x ≡ timer_of c.running → Ok x ≡ timer c store
  unfolding timer
  timer-told e x f = tells-by (gate_reader c store) (timer_of c.running) x e f

  pub handle-refused : (why : Refusal) → number why ≡ gate_reader c store → Err why ≡ handle c store
  unfolding handle
  handle-refused why e = refuses-by (gate_reader c store) (handle_of c.bearer) why e

  pub handle-told : accepted ≡ gate_reader c store → (x : Option ℕ) → x ≡ handle_of c.bearer → Ok x ≡ handle c store
  unfolding handle
  handle-told e x f = tells-by (gate_reader c store) (handle_of c.bearer) x e f

  pub result-refused : (index : ℕ) (why : Refusal) → number why ≡ gate_reader c store → Err why ≡ result_answer c store index
  unfolding result_answer
  result-refused index why e = refuses-by (gate_reader c store) (given index 0 (kept c.results)) why e

  -- what the gate has shown of the results
  pub few-results : accepted ≡ gate_reader c store → c.results.count ≤ most_results
  few-results e = (passed-reader c store (sym e)).fit.head.results

-- ---- the search among the first n of l, by what is left of it from place i on

module _ (index : ℕ) (l : List StepResult) (n i : ℕ) (k : n ≤ length l) (rest : find index 0 (take n l) ≡ find index i (drop i (take n l))) where
  pub find-end : n ≤ i → None ≡ find index 0 (take n l)
  unfolding find
  find-end h = rw (rest, rest-nil l n i h k)

  module _ (x : StepResult) (e : x ≡ get_or l i no_result) (h : i < n) where
    pub find-here : x.index ≡ index → Some (i, x) ≡ find index 0 (take n l)
    unfolding find
    find-here f = rw (rest, rest-cons l n i no_result h k, ← e, eq-eqb x.index index f)

    pub find-on : (x.index ≡ index → ⊥) → find index 0 (take n l) ≡ find index (i + 1) (drop (i + 1) (take n l))
    unfolding find
    find-on f = rw (rest, rest-cons l n i no_result h k, ← e, ne_eqb x.index index f)

-- ---- what is found is what is given and heard

abbrev given_at : Option (ℕ × StepResult) → Option Given
given_at None = None
given_at (Some p) = Some (record { at = p.1.at; status = p.1.status; value = span (result_at p.0) p.1.len })

abbrev heard_at : Option (ℕ × StepResult) → ℕ
heard_at None = 0
heard_at (Some p) = p.1.heard

-- it is one of l, which stand from place i on
abbrev Below : ℕ → Option (ℕ × StepResult) → Type 0
Below n None = Unit {0}
Below n (Some p) = p.0 < n

given-by-find : (index i : ℕ) (l : List StepResult) → given_at (find index i l) ≡ given index i l
unfolding find given
given-by-find index i [] = refl
given-by-find index i (x ∷ l) = go (eqb x.index index) (given-by-find index (i + 1) l)
  where
    go : (b : Bool) → given_at (find index (i + 1) l) ≡ given index (i + 1) l
        → given_at (pick b (Some (i, x)) (find index (i + 1) l))
        ≡ pick b (Some (record { at = x.at; status = x.status; value = span (result_at i) x.len })) (given index (i + 1) l)
    go true e = refl
    go false e = e

heard-by-find : (index i : ℕ) (l : List StepResult) → heard_at (find index i l) ≡ heard_by index l
unfolding find first
heard-by-find index i [] = refl
heard-by-find index i (x ∷ l) = go (eqb x.index index) (heard-by-find index (i + 1) l)
  where
    go : (b : Bool) → heard_at (find index (i + 1) l) ≡ heard_by index l
        → heard_at (pick b (Some (i, x)) (find index (i + 1) l)) ≡ pick b x.heard (heard_by index l)
    go true e = refl
    go false e = e

find-below : (index i n : ℕ) (l : List StepResult) → i + length l ≤ n → Below n (find index i l)
unfolding find
find-below index i n [] h = tt
find-below index i n (x ∷ l) h = go (eqb x.index index) (omega arith) (find-below index (i + 1) n l (omega arith))
  where
    go : (b : Bool) → i < n → Below n (find index (i + 1) l) → Below n (pick b (Some (i, x)) (find index (i + 1) l))
    go true k e = k
    go false k e = e

-- the place found is one of the table
pub found-below : (index n : ℕ) (l : List StepResult) (p : ℕ × StepResult) → n ≤ length l → Some p ≡ find index 0 (take n l) → p.0 < n
found-below index n l p k e = subst (Below n) (sym e) (find-below index 0 n (take n l) (omega (arith, length-take-le n l k)))

pub heard-found : (index : ℕ) (l : List StepResult) (p : ℕ × StepResult) → Some p ≡ find index 0 l → p.1.heard ≡ heard_by index l
heard-found index l p e = ap heard_at e ∙ heard-by-find index 0 l

pub heard-none : (index : ℕ) (l : List StepResult) → None ≡ find index 0 l → 0 ≡ heard_by index l
heard-none index l e = ap heard_at e ∙ heard-by-find index 0 l

module _ (c : Central) (store index : ℕ) (e : accepted ≡ gate_reader c store) where
  pub result-found : (p : ℕ × StepResult) → Some p ≡ find index 0 (kept c.results)
      → Ok (Some (record { at = p.1.at; status = p.1.status; value = span (result_at p.0) p.1.len })) ≡ result_answer c store index
  unfolding result_answer
  result-found p f = tells-by (gate_reader c store) (given index 0 (kept c.results)) _ e (ap given_at f ∙ given-by-find index 0 (kept c.results))

  pub result-none : None ≡ find index 0 (kept c.results) → Ok None ≡ result_answer c store index
  unfolding result_answer
  result-none f = tells-by (gate_reader c store) (given index 0 (kept c.results)) None e (ap given_at f ∙ given-by-find index 0 (kept c.results))

-- ---- the refusal of an answer is the gate's

module _ (c : Central) (store : ℕ) where
  pub timer-refusal : refusal_number (timer c store) ≡ gate_reader c store
  unfolding timer
  timer-refusal = refusal-by (timer_of c.running) (fits c) (eqb store store_size) true

  pub handle-refusal : refusal_number (handle c store) ≡ gate_reader c store
  unfolding handle
  handle-refusal = refusal-by (handle_of c.bearer) (fits c) (eqb store store_size) true

  pub result_answer-refusal : (index : ℕ) → refusal_number (result_answer c store index) ≡ gate_reader c store
  unfolding result_answer
  result_answer-refusal index = refusal-by (given index 0 (kept c.results)) (fits c) (eqb store store_size) true
