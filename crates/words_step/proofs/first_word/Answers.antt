use Prim.Native.Nat.{ℕ, ◌+◌, ◌*◌, ◌/◌, ◌%◌, ◌≤◌}
use mathlib.Core.Path.{◌≡◌, ap, ◌∙◌}
use native.Mathlib.Omega.{arith}
use lib.Dec.{eqb}
use mir.Val.{bool_byte}
use Rattle.words_step.proofs.StepLaws.{one_bit, bit-small}
use Rattle.words_step.proofs.first_word.Goals as goal

pub returns : goal.returns
returns c =
    let x = c.args.f in
    let b : ℕ = bool_byte x.flag in
    let small : b ≤ 1 = bit-small x.flag in
    let n : ℕ = x.kind + 256 * b + 65536 * x.ms.0 + 281474976710656 * x.size in
    let q : n / 256 ≡ b + 256 * x.ms.0 + 1099511627776 * x.size = omega arith in
    let e : (b + 256 * x.ms.0 + 1099511627776 * x.size) % 2 ≡ b = omega arith in
    let m : n / 65536 ≡ x.ms.0 + 4294967296 * x.size = omega arith in
    let f : (x.ms.0 + 4294967296 * x.size) % 4294967296 ≡ x.ms.0 = omega arith in
    rw (c.from-kind.ensures, c.from-flag.ensures, c.from-ms.ensures, c.from-size.ensures) (
      omega arith,
      ap (λ (k : ℕ). eqb (k % 2) 1) q ∙ ap (λ (k : ℕ). eqb k 1) e ∙ one_bit _,
      ap (λ (k : ℕ). k % 4294967296) m ∙ f,
      omega arith,
    )
