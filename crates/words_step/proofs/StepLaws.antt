-- What each return asks, from what the callees ensure.
use Prim.Native.Nat.{ℕ, ◌+◌, ◌/◌, ◌%◌, ◌<◌, ◌≤◌}
use mathlib.Core.Path.{◌≡◌, refl, ap, ◌∙◌}
use mathlib.Core.Bool.{Bool, true, false}
use mathlib.Core.List.{List}
use native.Mathlib.Omega.{arith}
use lib.ListN.{length, get_or, set, length-set}
use lib.Seq.{get_or-set_same, get_or-set_other}
use lib.Dec.{eqb}
use mir.Val.{bool_byte}
use Rattle.bytes_base.specs.Choice.{pick}
use Rattle.lists.specs.Queue.{shifted}
use Rattle.state_kinds.specs.Kinds.{carries}
use Rattle.state.specs.declared.Queued.{Queued}
use Rattle.state.specs.declared.Step.{Step}
use Rattle.words.specs.declared.Flat.{Flat}
use Rattle.words.specs.Words.{two16, two32, two48, half_at, bit_at, step_of, len_of, queued_of, flat_of}
use Rattle.words.specs.Tables.{word, steps_in, tables, with_steps}
use Rattle.words.specs.Rows.{Same, Lowered}
use Rattle.words.proofs.TableLaws.{table-set, table-lowered}
use Rattle.words.proofs.RowLaws.{results_same, services-same, characteristics-same, notifications-same, who-same, heard-same, keys-same}
use Rattle.words_step.specs.Carried.{carried}

-- ---- a step in four words

-- a flag as the library numbers it
pub one_bit : (b : Bool) → eqb (bool_byte b) 1 ≡ b
one_bit true = refl
one_bit false = refl

pub bit-small : (b : Bool) → bool_byte b ≤ 1
bit-small true = omega arith
bit-small false = omega arith

-- the words of a step taken apart say that step
pub words-say : (f : Flat) (step : Step) (len a d : ℕ) → (step_of f ≡ step) × (len_of f ≡ pick (carries step) len 0)
    → (a % 256 ≡ f.kind) × (bit_at 256 a ≡ f.flag) × (a / two16 % two32 ≡ f.ms.0) × (a / two48 ≡ f.size)
    → (d % 256 ≡ f.aim) × (half_at two16 d ≡ f.latency) × (half_at two32 d ≡ f.timeout) × (d / two48 ≡ f.interval)
    → queued_of (flat_of a f.uuid.low f.uuid.high d) ≡ carried step len
words-say f step len a d s p q =
    let e : flat_of a f.uuid.low f.uuid.high d ≡ f = rw (p.0, p.1, p.2, p.3, q.0, q.1, q.2, q.3) in
    ap queued_of e ∙ rw (s.0, s.1)

-- ---- all tables

abbrev flat_in : List ℕ → ℕ → Flat
flat_in w i = flat_of (word w 0 i) (word w 64 i) (word w 128 i) (word w 192 i)

-- the words above the steps are the same: so are all other tables
pub steps-alone : (w v : List ℕ) (l : List Queued) → Same 256 1152 w v → steps_in v ≡ l → tables v ≡ with_steps (tables w) l
steps-alone w v l h e =
    rw (
      e,
      results_same w v (λ p a b. h p (omega arith) (omega arith)) (λ p a b. h p (omega arith) (omega arith)),
      services-same w v (λ p a b. h p (omega arith) (omega arith)),
      characteristics-same w v (λ p a b. h p (omega arith) (omega arith)),
      notifications-same w v (λ p a b. h p (omega arith) (omega arith)) (λ p a b. h p (omega arith) (omega arith)),
      who-same w v (λ p a b. h p (omega arith) (omega arith)),
      heard-same w v (λ p a b. h p (omega arith) (omega arith)),
      keys-same w v (λ p a b. h p (omega arith) (omega arith)),
    )

-- ---- four words put: the place has them, and every other word is as it was

module _ (w : List ℕ) (i a low high d : ℕ) (long : length w ≡ 1152) (b : i < 64) where
  abbrev with : List ℕ
  with = set (set (set (set w (0 + i) a) (64 + i) low) (128 + i) high) (192 + i) d

  other : (p : ℕ) → (p ≡ 0 + i → ⊥) → (p ≡ 64 + i → ⊥) → (p ≡ 128 + i → ⊥) → (p ≡ 192 + i → ⊥) → get_or with p 0 ≡ get_or w p 0
  other p n₀ n₁ n₂ n₃ =
      get_or-set_other (set (set (set w (0 + i) a) (64 + i) low) (128 + i) high) (192 + i) p d 0 n₃
      ∙ get_or-set_other (set (set w (0 + i) a) (64 + i) low) (128 + i) p high 0 n₂
      ∙ get_or-set_other (set w (0 + i) a) (64 + i) p low 0 n₁
      ∙ get_or-set_other w (0 + i) p a 0 n₀

  -- a place of another number, in each of the four rows
  flat-other : (k : ℕ) → k < 64 → (k ≡ i → ⊥) → flat_in with k ≡ flat_in w k
  flat-other k h n =
      rw (
        other (0 + k) (λ e. n (omega arith)) (λ e. omega arith) (λ e. omega arith) (λ e. omega arith),
        other (64 + k) (λ e. omega arith) (λ e. n (omega arith)) (λ e. omega arith) (λ e. omega arith),
        other (128 + k) (λ e. omega arith) (λ e. omega arith) (λ e. n (omega arith)) (λ e. omega arith),
        other (192 + k) (λ e. omega arith) (λ e. omega arith) (λ e. omega arith) (λ e. n (omega arith)),
      )

  flat-there : flat_in with i ≡ flat_of a low high d
  flat-there =
      let w₁ : List ℕ = set w (0 + i) a in
      let w₂ : List ℕ = set w₁ (64 + i) low in
      let w₃ : List ℕ = set w₂ (128 + i) high in
      let l₁ : length w₁ ≡ 1152 = length-set w (0 + i) a ∙ long in
      let l₂ : length w₂ ≡ 1152 = length-set w₁ (64 + i) low ∙ l₁ in
      let l₃ : length w₃ ≡ 1152 = length-set w₂ (128 + i) high ∙ l₂ in
      let e₀ : get_or with (0 + i) 0 ≡ a =
      get_or-set_other w₃ (192 + i) (0 + i) d 0 (λ e. omega arith)
      ∙ get_or-set_other w₂ (128 + i) (0 + i) high 0 (λ e. omega arith)
      ∙ get_or-set_other w₁ (64 + i) (0 + i) low 0 (λ e. omega arith)
      ∙ get_or-set_same w (0 + i) a 0 (omega arith) in
      let e₁ : get_or with (64 + i) 0 ≡ low =
      get_or-set_other w₃ (192 + i) (64 + i) d 0 (λ e. omega arith)
      ∙ get_or-set_other w₂ (128 + i) (64 + i) high 0 (λ e. omega arith)
      ∙ get_or-set_same w₁ (64 + i) low 0 (omega arith) in
      let e₂ : get_or with (128 + i) 0 ≡ high =
      get_or-set_other w₃ (192 + i) (128 + i) d 0 (λ e. omega arith) ∙ get_or-set_same w₂ (128 + i) high 0 (omega arith) in
      let e₃ : get_or with (192 + i) 0 ≡ d = get_or-set_same w₃ (192 + i) d 0 (omega arith) in
      rw (e₀, e₁, e₂, e₃)

  put-there : steps_in with ≡ set (steps_in w) i (queued_of (flat_of a low high d))
  unfolding steps_in
  put-there =
      table-set 64 (λ k. queued_of (flat_in with k)) (λ k. queued_of (flat_in w k)) i (queued_of (flat_of a low high d)) b
      (ap queued_of flat-there) (λ k h n. ap queued_of (flat-other k h n))

  pub put-law : tables with ≡ with_steps (tables w) (set (steps_in w) i (queued_of (flat_of a low high d)))
  put-law =
      steps-alone w with (set (steps_in w) i (queued_of (flat_of a low high d)))
      (λ p h k. other p (λ e. omega arith) (λ e. omega arith) (λ e. omega arith) (λ e. omega arith)) put-there

-- ---- four rows moved down

module _ (w v₁ v₂ v₃ v : List ℕ) (n : ℕ) (b : n < 64) (h₀ : Lowered w v₁ 0 n) (h₁ : Lowered v₁ v₂ 64 n) (h₂ : Lowered v₂ v₃ 128 n) (h₃ : Lowered v₃ v 192 n) where
  -- a word above the rows that move
  above : (p : ℕ) → 192 + n ≤ p → get_or v p 0 ≡ get_or w p 0
  above p h = h₃.above p h ∙ h₂.above p (omega arith) ∙ h₁.above p (omega arith) ∙ h₀.above p (omega arith)

  -- a place that gets what the place after it had, in each of the four rows
  flat-moved : (k : ℕ) → k < n → flat_in v k ≡ flat_in w (k + 1)
  flat-moved k h =
      let at : (r : ℕ) → get_or w (r + k + 1) 0 ≡ word w r (k + 1) = λ r. let e : r + k + 1 ≡ r + (k + 1) = omega arith in ap (λ (p : ℕ). get_or w p 0) e in
      let e₀ : word v 0 k ≡ word w 0 (k + 1) =
      h₃.below (0 + k) (omega arith) ∙ h₂.below (0 + k) (omega arith) ∙ h₁.below (0 + k) (omega arith)
      ∙ h₀.moved (0 + k) (omega arith) (omega arith) ∙ at 0 in
      let e₁ : word v 64 k ≡ word w 64 (k + 1) =
      h₃.below (64 + k) (omega arith) ∙ h₂.below (64 + k) (omega arith)
      ∙ h₁.moved (64 + k) (omega arith) (omega arith) ∙ h₀.above (64 + k + 1) (omega arith) ∙ at 64 in
      let e₂ : word v 128 k ≡ word w 128 (k + 1) =
      h₃.below (128 + k) (omega arith) ∙ h₂.moved (128 + k) (omega arith) (omega arith)
      ∙ h₁.above (128 + k + 1) (omega arith) ∙ h₀.above (128 + k + 1) (omega arith) ∙ at 128 in
      let e₃ : word v 192 k ≡ word w 192 (k + 1) =
      h₃.moved (192 + k) (omega arith) (omega arith) ∙ h₂.above (192 + k + 1) (omega arith)
      ∙ h₁.above (192 + k + 1) (omega arith) ∙ h₀.above (192 + k + 1) (omega arith) ∙ at 192 in
      rw (e₀, e₁, e₂, e₃)

  -- a place that stays
  flat-kept : (k : ℕ) → n ≤ k → k < 64 → flat_in v k ≡ flat_in w k
  flat-kept k h l =
      let e₀ : word v 0 k ≡ word w 0 k =
      h₃.below (0 + k) (omega arith) ∙ h₂.below (0 + k) (omega arith) ∙ h₁.below (0 + k) (omega arith) ∙ h₀.above (0 + k) (omega arith) in
      let e₁ : word v 64 k ≡ word w 64 k =
      h₃.below (64 + k) (omega arith) ∙ h₂.below (64 + k) (omega arith) ∙ h₁.above (64 + k) (omega arith) ∙ h₀.above (64 + k) (omega arith) in
      let e₂ : word v 128 k ≡ word w 128 k =
      h₃.below (128 + k) (omega arith) ∙ h₂.above (128 + k) (omega arith) ∙ h₁.above (128 + k) (omega arith) ∙ h₀.above (128 + k) (omega arith) in
      rw (e₀, e₁, e₂, above (192 + k) (omega arith))

  moved-there : steps_in v ≡ shifted (steps_in w) n
  unfolding steps_in
  moved-there =
      table-lowered 64 n (λ k. queued_of (flat_in v k)) (λ k. queued_of (flat_in w k)) b
      (λ k h. ap queued_of (flat-moved k h)) (λ k h l. ap queued_of (flat-kept k h l))

  pub shift-law : tables v ≡ with_steps (tables w) (shifted (steps_in w) n)
  shift-law = steps-alone w v (shifted (steps_in w) n) (λ p h k. above p (omega arith)) moved-there
