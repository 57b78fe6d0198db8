-- The rule of numbers is the rule of the specification, in hundredths of a millisecond.
use Prim.Native.Nat.{ℕ, ◌+◌, ◌*◌, ◌≤◌, ◌<◌}
use mathlib.Core.Path.{◌≡◌}
use mathlib.Core.Bool.{Bool, true, ◌&&◌, and_assoc}
use native.Mathlib.Omega.{arith}
use native.Mathlib.Nat.{mul_left_comm}
use lib.Dec.{leb}
use borrow.Author.Tests.{leb-true, ltb-true, le-leb, lt-ltb}
use Rattle.bytes_base.specs.Choice.{within}
use Rattle.bytes_base.proofs.TestLaws.{both}
use Rattle.l2cap_params.specs.Params.{interval_in_range, latency_in_range, timeout_in_range, outlasts, good_params}

-- hundredths of a millisecond: an interval's unit is 1.25 ms, a timeout's is 10 ms
abbrev pub interval_time : ℕ → ℕ
interval_time interval = 125 * interval

abbrev pub timeout_time : ℕ → ℕ
timeout_time timeout = 1000 * timeout

-- Core Vol 3 Part A 4.20: 7.5 ms to 4 s, min not above max, latency up to 499, 100 ms to 32 s,
-- and the timeout larger than (1 + latency) * max * 2
pub record Acceptable (min max latency timeout : ℕ) : Type 0 where
  pub min-least : 750 ≤ interval_time min
  pub max-most : interval_time max ≤ 400000
  pub ordered : min ≤ max
  pub latency-most : latency ≤ 499
  pub timeout-least : 10000 ≤ timeout_time timeout
  pub timeout-most : timeout_time timeout ≤ 3200000
  pub outlasts : (1 + latency) * interval_time max * 2 < timeout_time timeout

in-range : (lo hi x : ℕ) → within lo hi x ≡ true → (lo ≤ x) × (x ≤ hi)
in-range lo hi x e =
    let (least, most) = both (leb lo x) (leb x hi) e in
    (leb-true lo x least, leb-true x hi most)

-- the product of times, as a product of counts
same-product : (latency max : ℕ) → (1 + latency) * interval_time max * 2 ≡ 250 * ((1 + latency) * max)
same-product latency max = rw (mul_left_comm (1 + latency) 125 max) (omega arith)

-- what is good is acceptable to the specification
pub good-is-acceptable : (min max latency timeout : ℕ) → good_params min max latency timeout ≡ true → Acceptable min max latency timeout
unfolding good_params
good-is-acceptable min max latency timeout e =
    let (min-in, e₁) = both (interval_in_range min) _ e in
    let (max-in, e₂) = both (interval_in_range max) _ e₁ in
    let (ordered, e₃) = both (leb min max) _ e₂ in
    let (latency-in, e₄) = both (latency_in_range latency) _ e₃ in
    let (timeout-in, long) = both (timeout_in_range timeout) _ e₄ in
    let (min-least, _) = in-range 6 3200 min min-in in
    let (_, max-most) = in-range 6 3200 max max-in in
    let (timeout-least, timeout-most) = in-range 10 3200 timeout timeout-in in
    let same = same-product latency max in
    record {
      min-least = omega arith;
      max-most = omega arith;
      ordered = leb-true min max ordered;
      latency-most = leb-true latency 499 latency-in;
      timeout-least = omega arith;
      timeout-most = omega arith;
      outlasts = omega (arith, ltb-true ((1 + latency) * max) (4 * timeout) long);
    }

-- and what is acceptable to it is good
pub acceptable-is-good : (min max latency timeout : ℕ) → Acceptable min max latency timeout → good_params min max latency timeout ≡ true
unfolding good_params
acceptable-is-good min max latency timeout a =
    let h = same-product latency max in
    rw (
      le-leb 6 min (omega arith),
      le-leb min 3200 (omega arith),
      le-leb 6 max (omega arith),
      le-leb max 3200 (omega arith),
      le-leb min max a.ordered,
      le-leb latency 499 a.latency-most,
      le-leb 10 timeout (omega arith),
      le-leb timeout 3200 (omega arith),
      lt-ltb ((1 + latency) * max) (4 * timeout) (omega arith),
    )

-- the tests one after another are the rule
pub good-by : (min max latency timeout : ℕ) (a b t : Bool) → a ≡ interval_in_range min → b ≡ interval_in_range max → t ≡ timeout_in_range timeout
    → (((((a && b) && leb min max) && latency_in_range latency) && t) && outlasts timeout latency max) ≡ good_params min max latency timeout
unfolding good_params
good-by min max latency timeout a b t p q r = rw (p, q, r) (simp and_assoc)
