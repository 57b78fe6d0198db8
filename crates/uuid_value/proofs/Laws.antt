-- What each return of the code asks, over plain variables.
use Prim.Native.Nat.{ℕ, ◌+◌, ◌/◌, ◌%◌, ◌^◌, ◌≤◌, ◌<◌}
use mathlib.Core.Path.{◌≡◌, ap, ◌∙◌}
use mathlib.Core.List.{List, ◌++◌}
use native.Mathlib.Omega.{arith}
use lib.ListN.{take, length, drop, replicate}
use lib.Seq.{take_all}
use borrow.Author.Tests.{ne_eqb}
use Rattle.bytes_base.specs.Bytes.{le, le_bytes, le_at}
use Rattle.bytes_base.proofs.ByteLaws.{le_at-in, le_at-off, le_at-split, le_bytes-split}
use Rattle.uuid_value.specs.Value.{num, of_num, short, short_of, Short, att_uuid, att_bytes, att_of}
use Rattle.uuid_value.specs.ValueLaws.{halves, att-short, att-long}
use Rattle.uuid_value.specs.declared.Uuid.{Uuid}
use Rattle.std.specs.Prelude.{Some, None}

-- ---- from_128

pub whole : (s : List ℕ) (at l h : ℕ) → at + 16 ≤ length s → l < 2 ^ 64 → l ≡ le_at 8 s at → h ≡ le_at 8 s (at + 8)
    → record { low = l; high = h } ≡ of_num (le_at 16 s at)
whole s at l h p q e₁ e₂ = halves (le_at 16 s at) l h q (rw (e₁, e₂) (le_at-split s at 8 8 p))

pub none : (s : List ℕ) (at : ℕ) → length s < at + 16 → record { low = 0; high = 0 } ≡ of_num (le_at 16 s at)
none s at p = rw (le_at-off 16 s at p)

-- ---- from_att

le-all : (s : List ℕ) (w : ℕ) → length s ≡ w → le_at w s 0 ≡ le s
le-all s w e = le_at-in w s 0 (omega arith) ∙ ap le (take_all w s (omega arith))

module _ (s : List ℕ) where
  pub read-two : (u : Uuid) (v : ℕ) → length s ≡ 2 → v ≡ le_at 2 s 0 → u ≡ short_of v → Some u ≡ att_uuid s
  unfolding att_uuid
  read-two u v h e r = rw h (ap Some (r ∙ ap short_of (e ∙ le-all s 2 h)))

  pub read-sixteen : (u : Uuid) → length s ≡ 16 → u ≡ of_num (le_at 16 s 0) → Some u ≡ att_uuid s
  unfolding att_uuid
  read-sixteen u h r = rw h (ap Some (r ∙ ap of_num (le-all s 16 h)))

  pub read_none : (length s ≡ 2 → ⊥) → (length s ≡ 16 → ⊥) → None ≡ att_uuid s
  unfolding att_uuid
  read_none p q = rw (ne_eqb (length s) 2 p, ne_eqb (length s) 16 q)

-- ---- to_att

module _ (u : Uuid) (h : u.low < 2 ^ 64) where
  pub not_low : (u.low ≡ 0x8000_0080_5F9B_34FB → ⊥) → Short (num u) → ⊥
  not_low n b = n (omega (arith, b.same))

  pub not-high : (u.high % 2 ^ 32 ≡ 0x1000 → ⊥) → Short (num u) → ⊥
  not-high n b = n (omega (arith, b.same))

  pub not-small : 2 ^ 16 ≤ u.high / 2 ^ 32 → Short (num u) → ⊥
  not-small n b = omega (arith, b.same, b.small)

  pub write_two : (b : List ℕ) → u.low ≡ 0x8000_0080_5F9B_34FB → u.high % 2 ^ 32 ≡ 0x1000 → u.high / 2 ^ 32 < 2 ^ 16
      → b ≡ le_bytes 2 (u.high / 2 ^ 32) → record { len = 2; bytes = b ++ replicate 14 0 } ≡ att_of (num u)
  unfolding le_bytes
  write_two b p q r e =
      let same : num u ≡ short (u.high / 2 ^ 32) = omega arith in
      rw (e, att-short (num u) (record { value = u.high / 2 ^ 32; small = r; same = same }))

  pub write-sixteen : (a b : List ℕ) → (Short (num u) → ⊥) → a ≡ le_bytes 8 u.low → b ≡ le_bytes 8 u.high
      → record { len = 16; bytes = take 8 (a ++ replicate 8 0) ++ (b ++ drop 8 (drop 8 (a ++ replicate 8 0))) } ≡ att_of (num u)
  unfolding le_bytes
  write-sixteen a b n e₁ e₂ =
      let e : att_bytes (num u) ≡ le_bytes 8 u.low ++ le_bytes 8 u.high = att-long (num u) n ∙ le_bytes-split 8 8 u.low u.high h in
      rw (e₁, e₂, e)
