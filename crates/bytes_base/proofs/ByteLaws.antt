-- Laws of the number that bytes stand for.
use Prim.Native.Nat.{ℕ, zero, suc, ◌+◌, ◌*◌, ◌^◌, ◌/◌, ◌%◌, ◌≤◌, ◌<◌}
use mathlib.Core.Path.{◌≡◌, refl, ap, sym, ◌∙◌}
use mathlib.Core.List.{List, [], ◌∷◌, ◌++◌}
use native.Mathlib.Nat.{pow-suc, mul_assoc, mul_comm, mul_left_comm, suc-add, zero-add}
use native.Mathlib.Omega.{arith}
use native.Mathlib.Numerals.{add-one}
use lib.ListN.{length, take, drop, get_or, length-drop}
use lib.Seq.{take-add, drop-drop, drop-cons, length-take-le}
use borrow.Author.Tests.{le-leb, lt-leb}
use Rattle.bytes_base.specs.Bytes.{le, le_bytes, le_at}

scaled : (p y : ℕ) → 256 * (p * y) ≡ p * 256 * y
scaled p y = mul_left_comm 256 p y ∙ sym (mul_assoc p 256 y)

pub le-append : (xs ys : List ℕ) → le (xs ++ ys) ≡ le xs + 256 ^ length xs * le ys
unfolding le
le-append [] ys = omega arith
le-append (b ∷ bs) ys =
    rw (pow-suc 256 (length bs), le-append bs ys)
    (omega (arith, scaled (256 ^ length bs) (le ys)))

-- one byte more in front
pub le-byte : (s : List ℕ) (at n : ℕ) → at < length s → le (take (suc n) (drop at s)) ≡ get_or s at 0 + 256 * le (take n (drop (suc at) s))
unfolding le
le-byte s at n h = rw (drop-cons s at 0)

-- a part cut in two
pub le_split : (s : List ℕ) (at m n : ℕ) → at + m ≤ length s
    → le (take (m + n) (drop at s)) ≡ le (take m (drop at s)) + 256 ^ m * le (take n (drop (at + m) s))
le_split s at m n h =
    let e : length (take m (drop at s)) ≡ m = length-take-le m (drop at s) (rw length-drop (omega arith)) in
    rw (take-add m n (drop at s), le-append (take m (drop at s)), e, drop-drop m at s)

pub le-two : (s : List ℕ) (at : ℕ) → at + 2 ≤ length s → le (take 2 (drop at s)) ≡ get_or s at 0 + 256 * get_or s (at + 1) 0
unfolding le
le-two s at h =
    rw (add-one at) (omega (arith, le-byte s at 1 (omega arith), le-byte s (suc at) 0 (omega arith)))

-- ---- the number at a place

pub le_at-in : (w : ℕ) (s : List ℕ) (at : ℕ) → at + w ≤ length s → le_at w s at ≡ le (take w (drop at s))
unfolding le_at
le_at-in w s at h = rw (le-leb (at + w) (length s) h)

pub le_at-off : (w : ℕ) (s : List ℕ) (at : ℕ) → length s < at + w → le_at w s at ≡ 0
unfolding le_at
le_at-off w s at h = rw (lt-leb (at + w) (length s) h)

pub le_at-two : (s : List ℕ) (at : ℕ) → at + 2 ≤ length s → le_at 2 s at ≡ get_or s at 0 + 256 * get_or s (at + 1) 0
le_at-two s at h = le_at-in 2 s at h ∙ le-two s at h

-- a number cut in two: one law for 2 and 2 bytes, 4 and 4, 8 and 8
pub le_at-split : (s : List ℕ) (at m n : ℕ) → at + (m + n) ≤ length s → le_at (m + n) s at ≡ le_at m s at + 256 ^ m * le_at n s (at + m)
le_at-split s at m n h =
    rw (le_at-in (m + n) s at h, le_at-in m s at (omega arith), le_at-in n s (at + m) (omega arith)) (le_split s at m n (omega arith))

-- ---- the bytes of a number

shifted : (p b : ℕ) → p * 256 * b ≡ 256 * (p * b)
shifted p b = ap (λ (k : ℕ). k * b) (mul_comm p 256) ∙ mul_assoc 256 p b

pub le_bytes-split : (m n a b : ℕ) → a < 256 ^ m → le_bytes (m + n) (a + 256 ^ m * b) ≡ le_bytes m a ++ le_bytes n b
unfolding le_bytes
le_bytes-split zero n a b h =
    let e : a + 256 ^ 0 * b ≡ b = omega arith in
    rw (zero-add n, e)
le_bytes-split (suc m) n a b h =
    let p : 256 ^ suc m ≡ 256 ^ m * 256 = pow-suc 256 m in
    let x : a + 256 ^ suc m * b ≡ a + 256 * (256 ^ m * b) = ap (λ (k : ℕ). a + k * b) p ∙ ap (λ (k : ℕ). a + k) (shifted (256 ^ m) b) in
    let r : (a + 256 * (256 ^ m * b)) % 256 ≡ a % 256 = omega arith in
    let q : (a + 256 * (256 ^ m * b)) / 256 ≡ a / 256 + 256 ^ m * b = omega arith in
    rw (suc-add m n, x, r, q) (ap (λ (l : List ℕ). a % 256 ∷ l) (le_bytes-split m n (a / 256) b (omega arith)))

-- ---- from a number to its bytes, and back

pub length-le_bytes : (n v : ℕ) → length (le_bytes n v) ≡ n
unfolding le_bytes
length-le_bytes zero v = refl
length-le_bytes (suc n) v = ap suc (length-le_bytes n (v / 256))

pub le-le_bytes : (n v : ℕ) → v < 256 ^ n → le (le_bytes n v) ≡ v
unfolding le le_bytes
le-le_bytes zero v h = omega arith
le-le_bytes (suc n) v h =
    let p : 256 ^ suc n ≡ 256 ^ n * 256 = pow-suc 256 n in
    let q : v / 256 < 256 ^ n = omega arith in
    rw (le-le_bytes n (v / 256) q) (omega arith)

pub le_bytes-le : (s : List ℕ) → ((i : ℕ) → get_or s i 0 < 256) → le_bytes (length s) (le s) ≡ s
unfolding le le_bytes
le_bytes-le [] h = refl
le_bytes-le (b ∷ s) h =
    let b' : b < 256 = h 0 in
    let r : (b + 256 * le s) % 256 ≡ b = omega arith in
    let q : (b + 256 * le s) / 256 ≡ le s = omega arith in
    rw (r, q) (ap (λ (l : List ℕ). b ∷ l) (le_bytes-le s (λ i. h (suc i))))

pub le-small : (s : List ℕ) → ((i : ℕ) → get_or s i 0 < 256) → le s < 256 ^ length s
unfolding le
le-small [] h = omega arith
le-small (b ∷ s) h =
    let r = le-small s (λ i. h (suc i)) in
    let p : 256 ^ suc (length s) ≡ 256 ^ length s * 256 = pow-suc 256 (length s) in
    let q : b < 256 = h 0 in
    omega arith
