-- What follows from the definitions, for the theorems and the proofs of the code.
use Rattle.std.specs.Prelude.{ℕ, suc, ◌+◌, ◌*◌, ◌/◌, ◌%◌, ◌^◌, ◌<◌, ◌≡◌, refl, Bool, true, false, ◌⊎◌, eqb, ltb}
use Rattle.std.proofs.Common.{ap, sym, ◌∙◌, inl, inr, mul-suc, mul-le-mul_left, arith, eqb-true, eq-eqb, ne_eqb, lt-ltb, ltb-true, ◌&&◌}
use Rattle.std.proofs.lemmas.Bool.{false≢true, eqb-false}
use Rattle.std.proofs.Math.Bool.{and-eq-true_iff}
use Rattle.std.proofs.Math.Nat.{mod-add-div}
use Rattle.std.proofs.Math.Pow.{low, high, split}
use Rattle.bytes_base.specs.Bytes.{le_bytes}
use Rattle.uuid_value.specs.Value.{base_uuid, num, of_num, short, is_short, Short, att_bytes}
use Rattle.uuid_value.specs.declared.Uuid.{Uuid}
use Rattle.uuid_value.specs.contracts.UuidPartialEq.TheImpl.{eq-value}

-- ---- halves and numbers

pub num_of : (n : ℕ) → num (of_num n) ≡ n
num_of n = mod-add-div n (2 ^ 64)

pub halves : (n l h : ℕ) → l < 2 ^ 64 → n ≡ l + 2 ^ 64 * h → record { low = l; high = h } ≡ of_num n
halves n l h p e =
    let e₁ : n % 2 ^ 64 ≡ l = omega arith in
    let e₂ : n / 2 ^ 64 ≡ h = omega arith in
    rw (e₁, e₂)

pub of_num_lem : (u : Uuid) → u.low < 2 ^ 64 → of_num (num u) ≡ u
of_num_lem u h = sym (halves (num u) u.low u.high h refl)

below-square : (p l h : ℕ) → l < p → h < p → l + p * h < p * p
below-square p l h a b = omega (arith, mul-le-mul_left {m = suc h} {n = p} p b, mul-suc p h)

-- two halves fill 16 bytes and no more
pub num-fits : (u : Uuid) → u.low < 2 ^ 64 → u.high < 2 ^ 64 → num u < 256 ^ 16
num-fits u p q = below-square (2 ^ 64) u.low u.high p q

-- ---- equality

eqb-by : (a b c d : ℕ) (t : Bool) → eqb a b ≡ t → (a ≡ b → c ≡ d) → (c ≡ d → a ≡ b) → t ≡ eqb c d
eqb-by a b c d true e f g = sym (eq-eqb c d (f (eqb-true a b e)))
eqb-by a b c d false e f g = sym (ne_eqb c d (λ p. eqb-false a b e (g p)))

pub same_low : (u v : Uuid) → u.low ≡ v.low → eqb u.high v.high ≡ eqb (num u) (num v)
same_low u v e = eqb-by u.high v.high (num u) (num v) (eqb u.high v.high) refl (λ p. omega arith) (λ p. omega arith)

pub other-low : (u v : Uuid) → u.low < 2 ^ 64 → v.low < 2 ^ 64 → (u.low ≡ v.low → ⊥) → false ≡ eqb (num u) (num v)
other-low u v p q n = sym (ne_eqb (num u) (num v) (λ (e : num u ≡ num v). n (omega arith)))

-- The `==` that Uuid derives says whether the numbers are one, of UUIDs whose low halves have 64 bits, as each Uuid of the code has.
pub equal-numbers : (u v : Uuid) → u.low < 2 ^ 64 → v.low < 2 ^ 64 → eq-value.it u v ≡ eqb (num u) (num v)
equal-numbers u v p q = go (eqb u.low v.low) refl
  where
    go : (t : Bool) → eqb u.low v.low ≡ t → (t && eqb u.high v.high) ≡ eqb (num u) (num v)
    go true e = same_low u v (eqb-true u.low v.low e)
    go false e = other-low u v p q (eqb-false u.low v.low e)

-- ---- which UUIDs are 16-bit ones

pub short-is : (v : ℕ) → v < 2 ^ 16 → is_short (short v) ≡ true
short-is v h =
    let l : short v % 2 ^ 96 ≡ base_uuid = low v 96 (omega arith) in
    let g : short v / 2 ^ 96 ≡ v = high v 96 (omega arith) in
    rw (l, g, lt-ltb v (2 ^ 16) h)

pub is-short : (n : ℕ) → is_short n ≡ true → Short n
is-short n e =
    let t = (and-eq-true_iff (eqb (n % 2 ^ 96) base_uuid) (ltb (n / 2 ^ 96) (2 ^ 16))).0 e in
    record {
      value = n / 2 ^ 96;
      small = ltb-true (n / 2 ^ 96) (2 ^ 16) t.1;
      same = sym (split n 96) ∙ ap (λ (k : ℕ). n / 2 ^ 96 * 2 ^ 96 + k) (eqb-true (n % 2 ^ 96) base_uuid t.0);
    }

short-true : (n : ℕ) → Short n → is_short n ≡ true
short-true n b = ap is_short b.same ∙ short-is b.value b.small

tested : (n : ℕ) (t : Bool) → is_short n ≡ t → Short n ⊎ (Short n → ⊥)
tested n true e = inl (is-short n e)
tested n false e = inr (λ b. false≢true (sym e ∙ short-true n b))

pub short-or-not : (n : ℕ) → Short n ⊎ (Short n → ⊥)
short-or-not n = tested n (is_short n) refl

not_short : (n : ℕ) (t : Bool) → is_short n ≡ t → (Short n → ⊥) → t ≡ false
not_short n true e h = absurd (h (is-short n e))
not_short n false e h = refl

-- ---- the bytes of ATT

pub att-short : (n : ℕ) (b : Short n) → att_bytes n ≡ le_bytes 2 b.value
unfolding att_bytes
att-short n b =
    let g : short b.value / 2 ^ 96 ≡ b.value = high b.value 96 (omega arith) in
    ap att_bytes b.same ∙ rw (short-is b.value b.small, g)

pub att-long : (n : ℕ) → (Short n → ⊥) → att_bytes n ≡ le_bytes 16 n
unfolding att_bytes
att-long n h = rw (not_short n (is_short n) refl h)
