use Prim.Native.Nat.{ℕ, ◌+◌, ◌*◌, ◌/◌, ◌%◌}
use mathlib.Core.Path.{◌≡◌, ap, ◌∙◌}
use native.Mathlib.Omega.{arith}
use lib.Dec.{eqb}
use Rattle.words_characteristic.proofs.packed.Goals as goal

pub returns : goal.returns
returns c =
    let a = c.args in
    let b = c.bit-b.result in
    let n : ℕ = a.properties + 256 * b + 65536 * a.handle + 4294967296 * a.value + 281474976710656 * a.declaration in
    let q : n / 256 ≡ b + 256 * a.handle + 16777216 * a.value + 1099511627776 * a.declaration = omega arith in
    let e : (b + 256 * a.handle + 16777216 * a.value + 1099511627776 * a.declaration) % 2 ≡ b / 1 % 2 = omega arith in
    let m : n / 65536 ≡ a.handle + 65536 * a.value + 4294967296 * a.declaration = omega arith in
    let f : (a.handle + 65536 * a.value + 4294967296 * a.declaration) % 65536 ≡ a.handle = omega arith in
    let o : n / 4294967296 ≡ a.value + 65536 * a.declaration = omega arith in
    let g : (a.value + 65536 * a.declaration) % 65536 ≡ a.value = omega arith in (
      omega arith,
      ap (λ (k : ℕ). eqb (k % 2) 1) q ∙ ap (λ (k : ℕ). eqb k 1) e ∙ c.bit-b.ensures.0,
      ap (λ (k : ℕ). k % 65536) m ∙ f,
      ap (λ (k : ℕ). k % 65536) o ∙ g,
      omega arith,
    )
