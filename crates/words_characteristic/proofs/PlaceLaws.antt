-- One place of the words: what its third word says, what a write leaves, and the loops over the first places.
use Rattle.std.specs.Prelude.{Option, Some, None}
use Prim.Native.Nat.{ℕ, ◌+◌, ◌/◌, ◌%◌, ◌<◌}
use mathlib.Core.Path.{◌≡◌, sym, ◌∙◌}
use mathlib.Core.Bool.{Bool, true, false}
use mathlib.Core.List.{List}
use native.Mathlib.Omega.{arith}
use lib.ListN.{length, get_or, set, length-set}
use lib.Seq.{get_or-set_same, get_or-set_other}
use Rattle.gatt_characteristics.specs.declared.Characteristic.{Characteristic}
use Rattle.words.specs.Words.{two16, two32, two48, half_at, bit_at, cccd_of, characteristic_of}
use Rattle.words.specs.Tables.{word, characteristics_in, tables, with_characteristics}
use Rattle.words.specs.Rows.{Same}
use Rattle.words.proofs.TableLaws.{table-set}
use Rattle.words.proofs.RowLaws.{steps-same, results_same, services-same, notifications-same, who-same, heard-same, keys-same}

-- ---- the third word

-- a word with a characteristic's fields says that characteristic
word-says : (x : Characteristic) (r : ℕ) (known : Bool) (handle : ℕ) → cccd_of known handle ≡ x.cccd
    → (r % 256 ≡ x.properties) × (bit_at 256 r ≡ known) × (half_at two16 r ≡ handle) × (half_at two32 r ≡ x.value_handle) × (r / two48 ≡ x.declaration)
    → characteristic_of x.uuid.low x.uuid.high r ≡ x
unfolding characteristic_of
word-says x r known handle e p = rw (p.0, p.1, p.2, p.3, p.4, e)

-- with no CCCD, and with one
pub says_none : (x : Characteristic) (r : ℕ) → x.cccd ≡ None
    → (r % 256 ≡ x.properties) × (bit_at 256 r ≡ false) × (half_at two16 r ≡ 0) × (half_at two32 r ≡ x.value_handle) × (r / two48 ≡ x.declaration)
    → characteristic_of x.uuid.low x.uuid.high r ≡ x
unfolding cccd_of
says_none x r e p = word-says x r false 0 (sym e) p

pub says_at : (x : Characteristic) (r handle : ℕ) → x.cccd ≡ Some handle
    → (r % 256 ≡ x.properties) × (bit_at 256 r ≡ true) × (half_at two16 r ≡ handle) × (half_at two32 r ≡ x.value_handle) × (r / two48 ≡ x.declaration)
    → characteristic_of x.uuid.low x.uuid.high r ≡ x
unfolding cccd_of
says_at x r handle e p = word-says x r true handle (sym e) p

pub cccd-is : (known : Bool) (handle : ℕ) → known ≡ true → Some handle ≡ cccd_of known handle
unfolding cccd_of
cccd-is known handle e = rw e

pub cccd-none : (known : Bool) (handle : ℕ) → known ≡ false → None ≡ cccd_of known handle
unfolding cccd_of
cccd-none known handle e = rw e

-- the fields put together
pub unpacks : (low high x : ℕ) (k : Option ℕ) (d : ℕ) → k ≡ cccd_of (bit_at 256 x) (half_at two16 x) → d ≡ x / two48
    → record { declaration = d; properties = x % 256; value_handle = half_at two32 x; uuid = record { low = low; high = high }; cccd = k } ≡ characteristic_of low high x
unfolding characteristic_of
unpacks low high x k d e f = rw (e, f)

-- ---- the places

-- only the words of characteristics differ
pub only-characteristics : (w v : List ℕ) (l : List Characteristic) → Same 0 480 w v → Same 672 1152 w v → characteristics_in v ≡ l
    → tables v ≡ with_characteristics (tables w) l
only-characteristics w v l a b e =
    rw (
      steps-same w v (λ p h k. a p h (omega arith)),
      results_same w v (λ p h k. a p (omega arith) (omega arith)) (λ p h k. b p (omega arith) (omega arith)),
      services-same w v (λ p h k. a p (omega arith) (omega arith)),
      e,
      notifications-same w v (λ p h k. b p (omega arith) (omega arith)) (λ p h k. b p (omega arith) (omega arith)),
      who-same w v (λ p h k. b p (omega arith) (omega arith)),
      heard-same w v (λ p h k. b p (omega arith) (omega arith)),
      keys-same w v (λ p h k. b p (omega arith) (omega arith)),
    )

-- three words put: the place has them, and every other word is as it was
module _ (w : List ℕ) (i low high x : ℕ) (long : length w ≡ 1152) (b : i < 64) where
  abbrev with : List ℕ
  with = set (set (set w (480 + i) low) (544 + i) high) (608 + i) x

  other : (p : ℕ) → (p ≡ 480 + i → ⊥) → (p ≡ 544 + i → ⊥) → (p ≡ 608 + i → ⊥) → get_or with p 0 ≡ get_or w p 0
  other p n₀ n₁ n₂ =
      get_or-set_other (set (set w (480 + i) low) (544 + i) high) (608 + i) p x 0 n₂
      ∙ get_or-set_other (set w (480 + i) low) (544 + i) p high 0 n₁
      ∙ get_or-set_other w (480 + i) p low 0 n₀

  place_other : (k : ℕ) → k < 64 → (k ≡ i → ⊥)
      → characteristic_of (word with 480 k) (word with 544 k) (word with 608 k) ≡ characteristic_of (word w 480 k) (word w 544 k) (word w 608 k)
  place_other k h n =
      rw (
        other (480 + k) (λ e. n (omega arith)) (λ e. omega arith) (λ e. omega arith),
        other (544 + k) (λ e. omega arith) (λ e. n (omega arith)) (λ e. omega arith),
        other (608 + k) (λ e. omega arith) (λ e. omega arith) (λ e. n (omega arith)),
      )

  place-there : characteristic_of (word with 480 i) (word with 544 i) (word with 608 i) ≡ characteristic_of low high x
  place-there =
      let w₁ : List ℕ = set w (480 + i) low in
      let w₂ : List ℕ = set w₁ (544 + i) high in
      let l₁ : length w₁ ≡ 1152 = length-set w (480 + i) low ∙ long in
      let l₂ : length w₂ ≡ 1152 = length-set w₁ (544 + i) high ∙ l₁ in
      let e₀ : get_or with (480 + i) 0 ≡ low =
      get_or-set_other w₂ (608 + i) (480 + i) x 0 (λ e. omega arith)
      ∙ get_or-set_other w₁ (544 + i) (480 + i) high 0 (λ e. omega arith)
      ∙ get_or-set_same w (480 + i) low 0 (omega arith) in
      let e₁ : get_or with (544 + i) 0 ≡ high =
      get_or-set_other w₂ (608 + i) (544 + i) x 0 (λ e. omega arith) ∙ get_or-set_same w₁ (544 + i) high 0 (omega arith) in
      let e₂ : get_or with (608 + i) 0 ≡ x = get_or-set_same w₂ (608 + i) x 0 (omega arith) in
      rw (e₀, e₁, e₂)

  pub put-law : tables with ≡ with_characteristics (tables w) (set (characteristics_in w) i (characteristic_of low high x))
  unfolding characteristics_in
  put-law =
      only-characteristics w with (set (characteristics_in w) i (characteristic_of low high x))
      (λ p h k. other p (λ e. omega arith) (λ e. omega arith) (λ e. omega arith))
      (λ p h k. other p (λ e. omega arith) (λ e. omega arith) (λ e. omega arith))
      (table-set 64 (λ k. characteristic_of (word with 480 k) (word with 544 k) (word with 608 k))
      (λ k. characteristic_of (word w 480 k) (word w 544 k) (word w 608 k)) i (characteristic_of low high x) b place-there place_other)
