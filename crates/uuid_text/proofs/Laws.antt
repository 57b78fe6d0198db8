-- What each return of the code asks, over plain variables.
use Prim.Native.Nat.{ℕ, suc, ◌+◌, ◌-◌, ◌*◌, ◌/◌, ◌%◌, ◌^◌, ◌≤◌, ◌<◌}
use mathlib.Core.Path.{◌≡◌, refl, ap, sym, ◌∙◌}
use mathlib.Core.Bool.{Bool, true, false, and-false, and-eq-true_iff}
use mathlib.Core.Logic.{◌⊎◌, inl, inr}
use mathlib.Core.List.{List, [], ◌∷◌, ◌++◌, append-nil}
use native.Mathlib.Omega.{arith}
use native.Mathlib.Numerals.{add-one}
use native.Mathlib.Nat.{pow-suc, pow-le-pow_right, mul-le-mul_right, mul_assoc, mul_comm, lt_of_mul-lt-mul_left, lt_of_lt_of_le, lt_of_le_of_lt, le-add_left}
use lib.ListN.{length, drop, take, get_or, set, length-append, drop_of_length-le}
use lib.Seq.{drop-cons, take_all, take-suc-set, append_snoc, length-take-le}
use lib.Dec.{leb, ltb, eqb}
use borrow.Author.Tests.{lt-ltb, ltb-true, le-leb, lt-leb, eq-eqb, ne_eqb}
use Rattle.bytes_base.specs.Choice.{pick, within}
use Rattle.uuid_value.specs.Value.{short_of}
use Rattle.uuid_value.specs.ValueLaws.{halves}
use Rattle.uuid_value.specs.declared.Uuid.{Uuid}
use Rattle.std.specs.Prelude.{Some, None}
use Rattle.uuid_text.specs.Text.{digit_of, all_digits, value_of, unsigned, is_number, number_of, pairs, all_numbers, bytes_of, short_uuid, long_uuid, plain, parse_uuid}
use Rattle.uuid_text.specs.Parts.{digit_in, number_in, Stripped}
use Rattle.uuid_text.specs.declared.Digits.{Digits}

-- ---- digit

inside : (lo hi x : ℕ) → lo ≤ x → x ≤ hi → within lo hi x ≡ true
inside lo hi x p q = rw (le-leb lo x p, le-leb x hi q)

outside : (lo hi x : ℕ) → (x < lo) ⊎ (hi < x) → within lo hi x ≡ false
outside lo hi x (inl p) = rw (lt-leb lo x p)
outside lo hi x (inr p) = rw (lt-leb x hi p) (and-false (leb lo x))

module _ (b : ℕ) where
  pub decimal : 0x30 ≤ b → b ≤ 0x39 → b - 0x30 ≡ digit_of b
  unfolding digit_of
  decimal p q = rw (inside 0x30 0x39 b p q)

  pub upper : 0x41 ≤ b → b ≤ 0x46 → b - 0x41 + 10 ≡ digit_of b
  unfolding digit_of
  upper p q = rw (outside 0x30 0x39 b (inr (omega arith)), inside 0x41 0x46 b p q)

  pub lower : 0x61 ≤ b → b ≤ 0x66 → b - 0x61 + 10 ≡ digit_of b
  unfolding digit_of
  lower p q = rw (outside 0x30 0x39 b (inr (omega arith)), outside 0x41 0x46 b (inr (omega arith)), inside 0x61 0x66 b p q)

  pub no_digit : (b < 0x30) ⊎ (0x39 < b) → (b < 0x41) ⊎ (0x46 < b) → (b < 0x61) ⊎ (0x66 < b) → 16 ≡ digit_of b
  unfolding digit_of
  no_digit p q r = rw (outside 0x30 0x39 b p, outside 0x41 0x46 b q, outside 0x61 0x66 b r)

module _ (b d : ℕ) where
  pub a-digit : d ≡ digit_of b → d < 16 → Some d ≡ digit_in b
  unfolding digit_in
  a-digit e l = rw (← e, lt-ltb d 16 l)

  digit-by : (t : Bool) → ltb (digit_of b) 16 ≡ t → Some d ≡ pick t (Some (digit_of b)) None → (d ≡ digit_of b) × (d < 16)
  digit-by true e r =
      let z : d ≡ digit_of b = cc in
      (z, rw z (ltb-true (digit_of b) 16 e))
  digit-by false e r = absurd cc

  pub digit-told : Some d ≡ digit_in b → (d ≡ digit_of b) × (d < 16)
  unfolding digit_in
  digit-told r = digit-by (ltb (digit_of b) 16) refl r

module _ (b : ℕ) where
  pub not-digit : 16 ≡ digit_of b → None ≡ digit_in b
  unfolding digit_in
  not-digit e = rw (← e)

  none-by : (t : Bool) → ltb (digit_of b) 16 ≡ t → None ≡ pick t (Some (digit_of b)) None → ltb (digit_of b) 16 ≡ false
  none-by true e r = absurd cc
  none-by false e r = e

  pub none-told : None ≡ digit_in b → ltb (digit_of b) 16 ≡ false
  unfolding digit_in
  none-told r = none-by (ltb (digit_of b) 16) refl r

-- ---- unsigned

pub after_plus : (s : List ℕ) → 0 < length s → get_or s 0 0 ≡ 0x2B → drop 1 s ≡ unsigned s
unfolding unsigned
after_plus [] k p = absurd (omega arith)
after_plus (b ∷ l) k p = rw (eq-eqb b 0x2B p)

pub no_plus : (s : List ℕ) → (get_or s 0 0 ≡ 0x2B → ⊥) → s ≡ unsigned s
unfolding unsigned
no_plus [] p = refl
no_plus (b ∷ l) p = rw (ne_eqb b 0x2B p)

pub empty : (s : List ℕ) → length s < 1 → s ≡ unsigned s
unfolding unsigned
empty [] p = refl
empty (b ∷ l) p = absurd (omega arith)

-- ---- number: from its first byte

-- a digit more
module _ (s : List ℕ) (i : ℕ) (h : i < length s) where
  digit-good : digit_of (get_or s i 0) < 16 → all_digits (drop i s) ≡ all_digits (drop (i + 1) s)
  unfolding all_digits
  digit-good l = rw (drop-cons s i 0 h, lt-ltb (digit_of (get_or s i 0)) 16 l, add-one i)

  digit-bad : ltb (digit_of (get_or s i 0)) 16 ≡ false → all_digits (drop i s) ≡ false
  unfolding all_digits
  digit-bad e = rw (drop-cons s i 0 h, e)

  digit_value : (v : ℕ) → value_of v (drop i s) ≡ value_of (16 * v + digit_of (get_or s i 0)) (drop (i + 1) s)
  unfolding value_of
  digit_value v = rw (drop-cons s i 0 h, add-one i)

-- what has been read stays small
grown : (v d i : ℕ) → v < 16 ^ i → d < 16 → 16 * v + d < 16 ^ (i + 1)
grown v d i h k = rw (add-one i, pow-suc 16 i) (omega arith)

pub small : (v i n : ℕ) → v < 16 ^ i → i ≤ n → v < 16 ^ n
small v i n h k = lt_of_lt_of_le h (pow-le-pow_right {n = 16} (omega arith) k)

some_left : (s : List ℕ) → 2 ≤ length s → 0 < length (unsigned s)
unfolding unsigned
some_left [] h = omega arith
some_left (b ∷ s) h = go (eqb b 0x2B)
  where
    go : (t : Bool) → 0 < length (pick t s (b ∷ s))
    go true = omega arith
    go false = omega arith

-- where the reading of digits stands: v has been read of the first i
pub record Reading (s : List ℕ) (i v : ℕ) : Type 0 where
  pub small : v < 16 ^ i
  pub digits : all_digits (drop i s) ≡ all_digits s
  pub value : value_of v (drop i s) ≡ value_of 0 s

pub start : (s : List ℕ) → Reading s 0 0
start s = record { small = omega arith; digits = refl; value = refl }

-- three digits and one more fill 16 bits
pub small-reading : (s : List ℕ) (i v : ℕ) → Reading s i v → i ≤ 3 → v < 2 ^ 12
small-reading s i v r h = small v i 3 r.small h

module _ (s : List ℕ) (i v : ℕ) (r : Reading s i v) (h : i < length s) where
  pub digit-more : (d : ℕ) → Some d ≡ digit_in (get_or s i 0) → Reading s (i + 1) (16 * v + d)
  digit-more d e =
      let t = digit-told (get_or s i 0) d e in
      let l : digit_of (get_or s i 0) < 16 = rw (← t.0) t.1 in
      record {
        small = grown v d i r.small t.1;
        digits = sym (digit-good s i h l) ∙ r.digits;
        value = rw t.0 (sym (digit_value s i h v) ∙ r.value);
      }

  pub digit-none : (text : List ℕ) → s ≡ unsigned text → None ≡ digit_in (get_or s i 0) → None ≡ number_in text
  unfolding number_in
  digit-none text u e =
      let z : all_digits (unsigned text) ≡ false = rw (← u) (sym r.digits ∙ digit-bad s i h (none-told (get_or s i 0) e)) in
      rw (z, and-false (ltb 0 (length (unsigned text))))

pub digits-end : (s : List ℕ) (i v : ℕ) → Reading s i v → length s ≤ i → (text : List ℕ) → s ≡ unsigned text → 2 ≤ length text → Some v ≡ number_in text
unfolding number_in all_digits value_of
digits-end s i v r h text u n =
    let d : drop i s ≡ [] = drop_of_length-le s {i = i} h in
    let z : all_digits (unsigned text) ≡ true = rw (← u) (sym r.digits ∙ ap all_digits d) in
    let w : v ≡ value_of 0 (unsigned text) = rw (← u) (ap (value_of v) (sym d) ∙ r.value) in
    rw (z, lt-ltb 0 (length (unsigned text)) (some_left text n)) (ap Some w)

-- ---- what a number tells

scaled : (x p : ℕ) → 16 * x * p ≡ x * (p * 16)
scaled x p = ap (λ (k : ℕ). k * p) (mul_comm 16 x) ∙ mul_assoc x 16 p ∙ ap (λ (k : ℕ). x * k) (mul_comm 16 p)

value-bound : (v : ℕ) (s : List ℕ) → all_digits s ≡ true → value_of v s < (v + 1) * 16 ^ length s
unfolding all_digits value_of
value-bound v [] e = omega arith
value-bound v (b ∷ s) e =
    let t = (and-eq-true_iff (ltb (digit_of b) 16) (all_digits s)).0 e in
    let d : digit_of b < 16 = ltb-true (digit_of b) 16 t.0 in
    let r = value-bound (16 * v + digit_of b) s t.1 in
    let m : (16 * v + digit_of b + 1) * 16 ^ length s ≤ 16 * (v + 1) * 16 ^ length s = mul-le-mul_right (16 ^ length s) (omega arith) in
    rw (pow-suc 16 (length s), ← scaled (v + 1) (16 ^ length s)) (lt_of_lt_of_le r m)

pub unsigned-length : (s : List ℕ) → length (unsigned s) ≤ length s
unfolding unsigned
unsigned-length [] = omega arith
unsigned-length (b ∷ s) = go (eqb b 0x2B)
  where
    go : (t : Bool) → length (pick t s (b ∷ s)) ≤ suc (length s)
    go true = omega arith
    go false = omega arith

number_bound : (s : List ℕ) (n : ℕ) → length s ≤ n → is_number s ≡ true → number_of s < 16 ^ n
number_bound s n h e =
    let t = (and-eq-true_iff (ltb 0 (length (unsigned s))) (all_digits (unsigned s))).0 e in
    let b : number_of s < 16 ^ length (unsigned s) = omega (arith, value-bound 0 (unsigned s) t.1) in
    small (number_of s) (length (unsigned s)) n b (omega (arith, unsigned-length s))

-- what the number tells of bytes, at most n of them
record Told (s : List ℕ) (n v : ℕ) : Type 0 where
  pub good : is_number s ≡ true
  pub value : v ≡ number_of s
  pub small : v < 16 ^ n

module _ (s : List ℕ) (n v : ℕ) (h : length s ≤ n) where
  told-by : (t : Bool) → is_number s ≡ t → Some v ≡ pick t (Some (number_of s)) None → Told s n v
  told-by true g r =
      let z : v ≡ number_of s = cc in
      record { good = g; value = z; small = rw (sym z) at (number_bound s n h g) }
  told-by false g r = absurd cc

  told : Some v ≡ number_in s → Told s n v
  unfolding number_in
  told e = told-by (is_number s) refl e

module _ (s : List ℕ) where
  no-by : (t : Bool) → is_number s ≡ t → None ≡ pick t (Some (number_of s)) None → is_number s ≡ false
  no-by true g r = absurd cc
  no-by false g r = g

  none : None ≡ number_in s → is_number s ≡ false
  unfolding number_in
  none e = no-by (is_number s) refl e

-- ---- short

pub short_none : (hex : List ℕ) → None ≡ number_in hex → None ≡ short_uuid hex
unfolding short_uuid
short_none hex e = rw (none hex e)

pub short-some : (hex : List ℕ) (v : ℕ) (u : Uuid) → length hex ≡ 4 → Some v ≡ number_in hex → u ≡ short_of v → Some u ≡ short_uuid hex
unfolding short_uuid
short-some hex v u h e r =
    let t = told hex 4 v (omega arith) e in
    rw t.good (ap Some (r ∙ ap short_of t.value))

-- ---- long: a pair more

module _ (s : List ℕ) (i : ℕ) (h : i + 2 ≤ length s) where
  pair-at : take (i + 2 - i) (drop i s) ≡ get_or s i 0 ∷ get_or s (i + 1) 0 ∷ []
  pair-at =
      let e : i + 2 - i ≡ 2 = omega arith in
      rw (e, add-one i, drop-cons s i 0 (omega arith), drop-cons s (suc i) 0 (omega arith))

  pairs-here : pairs (drop i s) ≡ take (i + 2 - i) (drop i s) ∷ pairs (drop (i + 2) s)
  unfolding pairs
  pairs-here =
      let e : i + 2 ≡ suc (suc i) = omega arith in
      rw (pair-at, e, add-one i, drop-cons s i 0 (omega arith), drop-cons s (suc i) 0 (omega arith))

  pair-bad : is_number (take (i + 2 - i) (drop i s)) ≡ false → all_numbers (pairs (drop i s)) ≡ false
  unfolding all_numbers
  pair-bad e = rw (pairs-here, e)

  module _ (v : ℕ) (t : Told (take (i + 2 - i) (drop i s)) 2 v) where
    pair-good : all_numbers (pairs (drop i s)) ≡ all_numbers (pairs (drop (i + 2) s))
    unfolding all_numbers
    pair-good = rw (pairs-here, t.good)

    pair-value : (w : ℕ) → bytes_of w (pairs (drop i s)) ≡ bytes_of (256 * w + v) (pairs (drop (i + 2) s))
    unfolding bytes_of
    pair-value w = rw (pairs-here, t.value)

-- the halves moved by a byte
shifted : (low high v : ℕ) → 256 * (low + 2 ^ 64 * high) + v ≡ 256 * (low % 2 ^ 56) + v + 2 ^ 64 * (256 * high + low / 2 ^ 56)
shifted low high v = omega arith

grown-pair : (v d i : ℕ) → v < 16 ^ i → d < 256 → 256 * v + d < 16 ^ (i + 2)
grown-pair v d i h k =
    let e : i + 2 ≡ suc (suc i) = omega arith in
    rw (e, pow-suc 16 (suc i), pow-suc 16 i) (omega arith)

high_small : (low high i : ℕ) → low + 2 ^ 64 * high < 16 ^ i → i ≤ 30 → high < 2 ^ 56
high_small low high i h k =
    lt_of_mul-lt-mul_left (2 ^ 64) {m = high} {n = 2 ^ 56} (lt_of_le_of_lt (le-add_left (2 ^ 64 * high) low) (small (low + 2 ^ 64 * high) i 30 h k))

-- where the reading of 32 digits stands
pub record Halfway (hex : List ℕ) (low high i : ℕ) : Type 0 where
  pub upto : i ≤ 32
  pub even : i % 2 ≡ 0
  pub half : low < 2 ^ 64
  pub small : low + 2 ^ 64 * high < 16 ^ i
  pub good : all_numbers (pairs (drop i hex)) ≡ all_numbers (pairs hex)
  pub value : bytes_of (low + 2 ^ 64 * high) (pairs (drop i hex)) ≡ bytes_of 0 (pairs hex)

pub start-long : (hex : List ℕ) → Halfway hex 0 0 0
start-long hex = record { upto = omega arith; even = refl; half = omega arith; small = omega arith; good = refl; value = refl }

module _ (hex : List ℕ) (low high i v : ℕ) (h : length hex ≡ 32) (w : Halfway hex low high i) where
  pub high-room : i < 32 → high < 2 ^ 56
  high-room l = high_small low high i w.small (omega (arith, w.even))

  pub long-end : 32 ≤ i → Some (record { low = low; high = high }) ≡ long_uuid hex
  unfolding long_uuid all_numbers bytes_of pairs
  long-end l =
      let d : drop i hex ≡ [] = drop_of_length-le hex {i = i} (omega arith) in
      let g : all_numbers (pairs hex) ≡ true = sym w.good ∙ ap (λ (x : List ℕ). all_numbers (pairs x)) d in
      let n : bytes_of 0 (pairs hex) ≡ low + 2 ^ 64 * high = sym w.value ∙ ap (λ (x : List ℕ). bytes_of (low + 2 ^ 64 * high) (pairs x)) d in
      rw g (ap Some (halves (bytes_of 0 (pairs hex)) low high w.half n))

  module _ (l : i < 32) where
    fits : i + 2 ≤ length hex
    fits = omega (arith, w.even)

    two : length (take (i + 2 - i) (drop i hex)) ≤ 2
    two = omega (arith, ap length (pair-at hex i fits))

    pub pair-none : None ≡ number_in (take (i + 2 - i) (drop i hex)) → None ≡ long_uuid hex
    unfolding long_uuid
    pair-none e = rw (sym w.good ∙ pair-bad hex i fits (none (take (i + 2 - i) (drop i hex)) e))

    pub pair_small : Some v ≡ number_in (take (i + 2 - i) (drop i hex)) → v < 256
    pair_small e = (told (take (i + 2 - i) (drop i hex)) 2 v two e).small

    pub pair-more : Some v ≡ number_in (take (i + 2 - i) (drop i hex)) → Halfway hex (256 * (low % 2 ^ 56) + v) (256 * high + low / 2 ^ 56) (i + 2)
    pair-more e =
        let t = told (take (i + 2 - i) (drop i hex)) 2 v two e in
        record {
          upto = omega (arith, w.even);
          even = omega (arith, w.even);
          half = omega (arith, t.small);
          small = rw (← shifted low high v) (grown-pair (low + 2 ^ 64 * high) v i w.small t.small);
          good = sym (pair-good hex i fits v t) ∙ w.good;
          value = rw (← shifted low high v) (sym (pair-value hex i fits v t (low + 2 ^ 64 * high)) ∙ w.value);
        }

-- ---- plain: what has been kept, with what is left

abbrev pub kept : List ℕ → ℕ → List ℕ → ℕ → List ℕ
kept hex n s i = take n hex ++ plain (drop i s)

pub kept-one : (hex s : List ℕ) (n i : ℕ) → n < length hex → i < length s → (get_or s i 0 ≡ 0x2D → ⊥) → kept hex n s i ≡ kept (set hex n (get_or s i 0)) (n + 1) s (i + 1)
unfolding plain
kept-one hex s n i p q h =
    rw (drop-cons s i 0 q, ne_eqb (get_or s i 0) 0x2D h, add-one n, add-one i, take-suc-set hex n (get_or s i 0) p)
    (sym (append_snoc (take n hex) (get_or s i 0) (plain (drop (suc i) s))))

pub kept-none : (hex s : List ℕ) (n i : ℕ) → i < length s → get_or s i 0 ≡ 0x2D → kept hex n s i ≡ kept hex n s (i + 1)
unfolding plain
kept-none hex s n i q h = rw (drop-cons s i 0 q, eq-eqb (get_or s i 0) 0x2D h, add-one i)

-- at the end of the text
pub kept-all : (hex s : List ℕ) (n i : ℕ) → length s ≤ i → n ≤ 32 → kept hex n s i ≡ plain s → Stripped s (Some (record { len = n; hex = hex }))
unfolding plain
kept-all hex s n i h p e =
    let t : kept hex n s i ≡ take n hex = rw (drop_of_length-le s {i = i} h) (append-nil (take n hex)) in
    (p, sym e ∙ t)

-- a byte too many
pub kept-over : (hex s : List ℕ) (n i : ℕ) → n ≡ 32 → length hex ≡ 32 → i < length s → (get_or s i 0 ≡ 0x2D → ⊥) → kept hex n s i ≡ plain s → Stripped s None
unfolding plain
kept-over hex s n i z p q h e =
    let l : length (kept hex n s i) ≡ 32 + suc (length (plain (drop (suc i) s)))
    = rw (drop-cons s i 0 q, ne_eqb (get_or s i 0) 0x2D h, length-append, length-take-le n hex (omega arith), z) in
    omega (arith, ap length e)

-- ---- parse

pub parse-more : (s : List ℕ) → 32 < length (plain s) → None ≡ parse_uuid s
unfolding parse_uuid
parse-more s h = rw (ne_eqb (length (plain s)) 4 (λ e. omega arith), ne_eqb (length (plain s)) 32 (λ e. omega arith))

module _ (s : List ℕ) (d : Digits) (h : length d.hex ≡ 32) (t : Stripped s (Some d)) where
  counted : length (plain s) ≡ d.len
  counted = ap length t.1 ∙ length-take-le d.len d.hex (omega (arith, t.0))

  pub parse-short : d.len ≡ 4 → short_uuid (take 4 d.hex) ≡ parse_uuid s
  unfolding parse_uuid
  parse-short e = rw (counted, e) (ap short_uuid (sym (rw e at t.1)))

  pub parse-long : d.len ≡ 32 → length s ≡ 36 → long_uuid d.hex ≡ parse_uuid s
  unfolding parse_uuid
  parse-long e l =
      let w : plain s ≡ d.hex = rw e at t.1 ∙ take_all 32 d.hex (omega arith) in
      rw (counted, e, l) (ap long_uuid (sym w))

  pub parse-other : d.len ≡ 32 → (length s ≡ 36 → ⊥) → None ≡ parse_uuid s
  unfolding parse_uuid
  parse-other e l = rw (counted, e, ne_eqb (length s) 36 l)

  pub parse-none : (d.len ≡ 4 → ⊥) → (d.len ≡ 32 → ⊥) → None ≡ parse_uuid s
  unfolding parse_uuid
  parse-none p q = rw (counted, ne_eqb d.len 4 p, ne_eqb d.len 32 q)
