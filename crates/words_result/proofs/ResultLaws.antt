-- A result put into words is read again; what each return and the loop over the table ask.
use Prim.Native.Nat.{ℕ, ◌+◌, ◌*◌, ◌/◌, ◌%◌, ◌<◌, ◌≤◌}
use mathlib.Core.Path.{◌≡◌, refl, sym, ap, ◌∙◌}
use mathlib.Core.Bool.{Bool, true, false}
use mathlib.Core.List.{List}
use native.Mathlib.Omega.{arith}
use lib.ListN.{length, take, drop, set, get_or, length-set}
use lib.Seq.{get_or-set_same, get_or-set_other}
use lib.Dec.{leb}
use borrow.Author.Tests.{le-leb, lt-leb, leb-true, leb-false}
use Rattle.lists.specs.Queue.{all, shifted}
use Rattle.state.specs.Fresh.{no_result}
use Rattle.state.specs.declared.Results.{Results}
use Rattle.state.specs.declared.StepResult.{StepResult}
use Rattle.state.specs.declared.StepStatus.{StepStatus}
use Rattle.state.specs.declared.StepStatus.TheVariants.{AttError}
use Rattle.state_rules.specs.Fit.{results_fit}
use Rattle.script_rules.specs.Finish.{pushed_result}
use Rattle.script_rules.proofs.FinishLaws.{push-room, push-full}
use Rattle.words.specs.Rows.{Same, Lowered}
use Rattle.words.specs.Words.{status_of, result_of}
use Rattle.words.specs.Tables.{Tables, word, results_in, tables, with_results}
use Rattle.words.proofs.TableLaws.{table-set, table-lowered}
use Rattle.words.proofs.RowLaws as row
use Rattle.words.proofs.SearchLaws.{all-row}
use Rattle.words_result.specs.Results.{results_as}

-- ---- one result

pub error-read : (s : StepStatus) (e x : ℕ) → x ≡ 4 + 256 * e → s ≡ AttError e → status_of (x % 256) (x / 256) ≡ s
unfolding status_of
error-read s e x h g =
    let a : x % 256 ≡ 4 = omega (arith, h) in
    let b : x / 256 ≡ e = omega (arith, h) in
    rw (a, b, g)

pub word_read : (r : StepResult) (b x : ℕ) → status_of (b % 256) (b / 256) ≡ r.status → b < 65536 → r.index < 4294967296
    → x ≡ r.index + 4294967296 * b + 72057594037927936 * r.len → result_of r.at.0 x r.heard ≡ r
unfolding result_of
word_read r b x s l i h =
    let f : x % 4294967296 ≡ r.index = omega (arith, h, i) in
    let g : x / 4294967296 ≡ b + 16777216 * r.len = omega (arith, h, i) in
    let g' : (b + 16777216 * r.len) % 256 ≡ b % 256 = omega arith in
    let m : x / 1099511627776 ≡ b / 256 + 65536 * r.len = omega (arith, h, i) in
    let m' : (b / 256 + 65536 * r.len) % 256 ≡ b / 256 = omega (arith, l) in
    let n : x / 72057594037927936 ≡ r.len = omega (arith, h, i, l) in
    rw (f, g, g', m, m', n, s)

-- ---- the table

-- where the words of no other table change
only-results : (w v : List ℕ) (l : List StepResult) → results_in v ≡ l → Same 0 256 w v → Same 384 1088 w v → tables v ≡ with_results (tables w) l
only-results w v l e low high =
    rw (
      e,
      row.steps-same w v low,
      row.services-same w v (λ p a b. high p a (omega arith)),
      row.characteristics-same w v (λ p a b. high p (omega arith) (omega arith)),
      row.notifications-same w v (λ p a b. high p (omega arith) (omega arith)) (λ p a b. high p (omega arith) b),
      row.who-same w v (λ p a b. high p (omega arith) (omega arith)),
      row.heard-same w v (λ p a b. high p (omega arith) (omega arith)),
      row.keys-same w v (λ p a b. high p (omega arith) (omega arith)),
    )

-- what the words of place k say
abbrev placed : List ℕ → ℕ → StepResult
placed w k = result_of (word w 256 k) (word w 320 k) (word w 1088 k)

-- three words put: the place has them, and every other word is as it was
module _ (w : List ℕ) (i t x heard : ℕ) (long : length w ≡ 1152) (b : i < 64) where
  abbrev with : List ℕ
  with = set (set (set w (256 + i) t) (320 + i) x) (1088 + i) heard

  other : (p : ℕ) → (p ≡ 256 + i → ⊥) → (p ≡ 320 + i → ⊥) → (p ≡ 1088 + i → ⊥) → get_or with p 0 ≡ get_or w p 0
  other p n₀ n₁ n₂ =
      get_or-set_other (set (set w (256 + i) t) (320 + i) x) (1088 + i) p heard 0 n₂
      ∙ get_or-set_other (set w (256 + i) t) (320 + i) p x 0 n₁
      ∙ get_or-set_other w (256 + i) p t 0 n₀

  there : placed with i ≡ result_of t x heard
  there =
      let w₁ : List ℕ = set w (256 + i) t in
      let w₂ : List ℕ = set w₁ (320 + i) x in
      let l₁ : length w₁ ≡ 1152 = length-set w (256 + i) t ∙ long in
      let l₂ : length w₂ ≡ 1152 = length-set w₁ (320 + i) x ∙ l₁ in
      let e₀ : get_or with (256 + i) 0 ≡ t =
      get_or-set_other w₂ (1088 + i) (256 + i) heard 0 (λ e. omega arith)
      ∙ get_or-set_other w₁ (320 + i) (256 + i) x 0 (λ e. omega arith)
      ∙ get_or-set_same w (256 + i) t 0 (omega arith) in
      let e₁ : get_or with (320 + i) 0 ≡ x =
      get_or-set_other w₂ (1088 + i) (320 + i) heard 0 (λ e. omega arith) ∙ get_or-set_same w₁ (320 + i) x 0 (omega arith) in
      let e₂ : get_or with (1088 + i) 0 ≡ heard = get_or-set_same w₂ (1088 + i) heard 0 (omega arith) in
      rw (e₀, e₁, e₂)

  elsewhere : (k : ℕ) → k < 64 → (k ≡ i → ⊥) → placed with k ≡ placed w k
  elsewhere k h n =
      rw (
        other (256 + k) (λ e. n (omega arith)) (λ e. omega arith) (λ e. omega arith),
        other (320 + k) (λ e. omega arith) (λ e. n (omega arith)) (λ e. omega arith),
        other (1088 + k) (λ e. omega arith) (λ e. omega arith) (λ e. n (omega arith)),
      )

  put-read : results_in with ≡ set (results_in w) i (result_of t x heard)
  unfolding results_in
  put-read = table-set 64 (λ k. placed with k) (λ k. placed w k) i (result_of t x heard) b there elsewhere

  pub put-law : (r : StepResult) → result_of t x heard ≡ r → tables with ≡ with_results (tables w) (set (results_in w) i r)
  put-law r e =
      only-results w with (set (results_in w) i r) (put-read ∙ ap (λ (y : StepResult). set (results_in w) i y) e)
      (λ p h k. other p (λ q. omega arith) (λ q. omega arith) (λ q. omega arith))
      (λ p h k. other p (λ q. omega arith) (λ q. omega arith) (λ q. omega arith))

-- three rows move down by one
module _ (w v u o : List ℕ) (d : Lowered w v 256 63) (e : Lowered v u 320 63) (f : Lowered u o 1088 63) where
  moved_down : (k : ℕ) → k < 63 → placed o k ≡ placed w (k + 1)
  moved_down k h =
      let at : (r : ℕ) → get_or w (r + k + 1) 0 ≡ word w r (k + 1) = λ r. let g : r + k + 1 ≡ r + (k + 1) = omega arith in ap (λ (p : ℕ). get_or w p 0) g in
      let e₀ : word o 256 k ≡ word w 256 (k + 1) =
      f.below (256 + k) (omega arith) ∙ e.below (256 + k) (omega arith) ∙ d.moved (256 + k) (omega arith) (omega arith) ∙ at 256 in
      let e₁ : word o 320 k ≡ word w 320 (k + 1) =
      f.below (320 + k) (omega arith) ∙ e.moved (320 + k) (omega arith) (omega arith) ∙ d.above (320 + k + 1) (omega arith) ∙ at 320 in
      let e₂ : word o 1088 k ≡ word w 1088 (k + 1) =
      f.moved (1088 + k) (omega arith) (omega arith) ∙ e.above (1088 + k + 1) (omega arith) ∙ d.above (1088 + k + 1) (omega arith) ∙ at 1088 in
      rw (e₀, e₁, e₂)

  last-same : (k : ℕ) → 63 ≤ k → k < 64 → placed o k ≡ placed w k
  last-same k h l =
      rw (
        f.below (256 + k) (omega arith) ∙ e.below (256 + k) (omega arith) ∙ d.above (256 + k) (omega arith),
        f.below (320 + k) (omega arith) ∙ e.above (320 + k) (omega arith) ∙ d.above (320 + k) (omega arith),
        f.above (1088 + k) (omega arith) ∙ e.above (1088 + k) (omega arith) ∙ d.above (1088 + k) (omega arith),
      )

  shift-read : results_in o ≡ shifted (results_in w) 63
  unfolding results_in
  shift-read = table-lowered 64 63 (λ k. placed o k) (λ k. placed w k) (omega arith) moved_down last-same

  pub shift-law : tables o ≡ with_results (tables w) (shifted (results_in w) 63)
  shift-law =
      only-results w o (shifted (results_in w) 63) shift-read
      (λ p h k. f.below p (omega arith) ∙ e.below p (omega arith) ∙ d.below p k)
      (λ p h k. f.below p (omega arith) ∙ e.above p (omega arith) ∙ d.above p (omega arith))

-- ---- one more

pub push-on : (w v : List ℕ) (n : ℕ) (r : StepResult) → n < 64 → tables v ≡ with_results (tables w) (set (results_in w) n r)
    → (tables v ≡ with_results (tables w) (pushed_result (results_as w n) r).kept) × (n + 1 ≡ (pushed_result (results_as w n) r).count)
push-on w v n r h e =
    let p : record { kept = set (results_in w) n r; count = n + 1 } ≡ pushed_result (results_as w n) r = push-room (results_as w n) r (row.length-results w) h in
    (e ∙ ap (λ (rs : Results). with_results (tables w) rs.kept) p, ap (λ (rs : Results). rs.count) p)

pub push-over : (w v u : List ℕ) (n : ℕ) (r : StepResult) → n ≤ 64 → 64 ≤ n
    → tables v ≡ with_results (tables w) (shifted (results_in w) 63) → tables u ≡ with_results (tables v) (set (results_in v) 63 r)
    → (tables u ≡ with_results (tables w) (pushed_result (results_as w n) r).kept) × (n ≡ (pushed_result (results_as w n) r).count)
push-over w v u n r k h e f =
    let q : results_in v ≡ shifted (results_in w) 63 = ap (λ (t : Tables). t.results) e in
    let p : record { kept = set (results_in v) 63 r; count = n } ≡ pushed_result (results_as w n) r =
    push-full (results_as w n) r (results_in v) (row.length-results w) k h q in
    (f ∙ ap (λ (t : Tables). with_results t (set (results_in v) 63 r)) e ∙ ap (λ (rs : Results). with_results (tables w) rs.kept) p, ap (λ (rs : Results). rs.count) p)

-- ---- lengths

below : (x : ℕ) → leb x 17798225727368200191 ≡ leb (x / 72057594037927936) 246
below x = go (leb x 17798225727368200191) refl
  where
    go : (b : Bool) → leb x 17798225727368200191 ≡ b → b ≡ leb (x / 72057594037927936) 246
    go true e = sym (le-leb (x / 72057594037927936) 246 (omega (arith, leb-true x 17798225727368200191 e)))
    go false e = sym (lt-leb (x / 72057594037927936) 246 (omega (arith, leb-false x 17798225727368200191 e)))

pub fit-law : (w words : List ℕ) (n : ℕ) (r : Bool) → n ≤ 64 → length w ≡ 1152 → words ≡ take n (drop 320 w)
    → r ≡ all (λ x. leb x 17798225727368200191) words → r ≡ results_fit (take n (results_in w))
unfolding results_in result_of
fit-law w words n r few long e h =
    h
    ∙ ap (all (λ x. leb x 17798225727368200191)) e
    ∙ all-row (λ (x : StepResult). leb x.len 246) (λ x. leb x 17798225727368200191) w 64 n 320 (λ i. result_of (word w 256 i) (word w 320 i) (word w 1088 i)) no_result few (omega arith) (λ k b. sym (below (word w 320 k)))
