-- What the two directions between a UUID and its bytes promise together, of every UUID and of all bytes. The code is held to
-- `att_bytes` and `att_uuid` by the contracts of `to_att` and `from_att`.
use Rattle.std.specs.Prelude.{ℕ, ◌^◌, ◌<◌, ◌≡◌, List, length, get_or, Some}
use Rattle.std.proofs.Math.Path.{ap}
use Rattle.std.proofs.Common.{◌∙◌, ⊎_elim, arith}
use Rattle.bytes_base.specs.Bytes.{le, le_bytes}
use Rattle.bytes_base.proofs.ByteLaws.{length-le_bytes, le-le_bytes, le_bytes-le, le-small}
use Rattle.uuid_value.specs.Value.{num, of_num, short, short_of, Short, att_uuid, att_bytes}
use Rattle.uuid_value.specs.ValueLaws.{short-or-not, att-short, att-long, num_of, of_num_lem, num-fits}
use Rattle.uuid_value.specs.declared.Uuid.{Uuid}

-- ---- 1. Any UUID that is written is read back as itself.

read_short : (u : Uuid) → u.low < 2 ^ 64 → Short (num u) → att_uuid (att_bytes (num u)) ≡ Some u
unfolding att_uuid
read_short u p b =
    rw (att-short (num u) b, length-le_bytes 2 b.value, le-le_bytes 2 b.value b.small, ← b.same) (ap Some (of_num_lem u p))

read-long : (u : Uuid) → u.low < 2 ^ 64 → u.high < 2 ^ 64 → (Short (num u) → ⊥) → att_uuid (att_bytes (num u)) ≡ Some u
unfolding att_uuid
read-long u p q b =
    rw (att-long (num u) b, length-le_bytes 16 (num u), le-le_bytes 16 (num u) (num-fits u p q)) (ap Some (of_num_lem u p))

pub written-then-read : (u : Uuid) → u.low < 2 ^ 64 → u.high < 2 ^ 64 → att_uuid (att_bytes (num u)) ≡ Some u
written-then-read u p q = ⊎_elim (read_short u p) (read-long u p q) (short-or-not (num u))

-- ---- 2. The form of 2 bytes is used exactly for what a 16-bit UUID stands for, and 16 bytes for all else.

pub two-bytes-if : (n v : ℕ) → v < 2 ^ 16 → n ≡ short v → length (att_bytes n) ≡ 2
two-bytes-if n v p e = ap length (att-short n (record { value = v; small = p; same = e })) ∙ length-le_bytes 2 v

-- `Short n` is: n ≡ short v, for some v < 2 ^ 16
pub two-bytes-only-if : (n : ℕ) → length (att_bytes n) ≡ 2 → Short n
two-bytes-only-if n e =
    ⊎_elim (λ b. b)
    (λ h.
    let long : length (att_bytes n) ≡ 16 = ap length (att-long n h) ∙ length-le_bytes 16 n in
    absurd (omega arith))
    (short-or-not n)

pub sixteen-bytes-else : (n : ℕ) → (Short n → ⊥) → length (att_bytes n) ≡ 16
sixteen-bytes-else n h = ap length (att-long n h) ∙ length-le_bytes 16 n

-- ---- 3. Bytes that are read as a UUID are written again as they were: 2 bytes always, 16 bytes but where a 16-bit UUID stands
-- for them. Such 16 bytes are the one exception: they are written as the 2 bytes of that UUID.

module _ (s : List ℕ) (u : Uuid) (bytes : (i : ℕ) → get_or s i 0 < 256) (is : att_uuid s ≡ Some u) where
  pub two-read-then-written : length s ≡ 2 → att_bytes (num u) ≡ s
  unfolding att_uuid
  two-read-then-written e =
      let r : Some (short_of (le s)) ≡ Some u = rw e at is in
      let q : u ≡ short_of (le s) = cc in
      let n : num u ≡ short (le s) = ap num q ∙ num_of (short (le s)) in
      let l : le_bytes 2 (le s) ≡ s = rw e at (le_bytes-le s bytes) in
      att-short (num u) (record { value = le s; small = rw e at (le-small s bytes); same = n }) ∙ l

  long-num : length s ≡ 16 → num u ≡ le s
  unfolding att_uuid
  long-num e =
      let r : Some (of_num (le s)) ≡ Some u = rw e at is in
      let q : u ≡ of_num (le s) = cc in
      ap num q ∙ num_of (le s)

  pub sixteen-read-then-written : length s ≡ 16 → (Short (le s) → ⊥) → att_bytes (num u) ≡ s
  sixteen-read-then-written e h =
      let l : le_bytes 16 (le s) ≡ s = rw e at (le_bytes-le s bytes) in
      ap att_bytes (long-num e) ∙ att-long (le s) h ∙ l

  pub sixteen-read-then-two-written : length s ≡ 16 → (v : ℕ) → v < 2 ^ 16 → le s ≡ short v → att_bytes (num u) ≡ le_bytes 2 v
  sixteen-read-then-two-written e v p q = ap att_bytes (long-num e) ∙ att-short (le s) (record { value = v; small = p; same = q })
