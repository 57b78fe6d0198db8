-- The payload as a part of the store; the link with another MTU.
use Prim.Native.Nat.{ℕ, ◌+◌, ◌-◌}
use mathlib.Core.Path.{◌≡◌, ap, ◌∙◌}
use mathlib.Core.List.{List}
use native.Mathlib.Omega.{arith}
use lib.ListN.{take, drop}
use Rattle.lists.specs.Blocks.{bytes}
use Rattle.link_rules.specs.Payload.{payload_at}

-- what is told of the part from the payload's start to its end is told of the payload
pub of-payload : (f : List ℕ → ℕ) (s : List ℕ) (n r : ℕ) → r ≡ f (take (payload_at + n - payload_at) (drop payload_at s)) → r ≡ f (bytes s payload_at n)
of-payload f s n r e =
    let same : payload_at + n - payload_at ≡ n = omega arith in
    e ∙ ap (λ (m : ℕ). f (take m (drop payload_at s))) same
