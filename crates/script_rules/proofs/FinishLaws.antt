-- What each return of the functions on results asks, from what their callees ensure.
use Prim.Native.Nat.{ℕ, ◌+◌, ◌-◌, ◌≤◌, ◌<◌}
use mathlib.Core.Path.{◌≡◌, ap, ◌∙◌}
use mathlib.Core.List.{List}
use native.Mathlib.Omega.{arith}
use lib.ListN.{length, take, set}
use Rattle.bytes_base.specs.Splice.{moved}
use Rattle.lists.specs.Queue.{pushed, shifted}
use Rattle.lists.proofs.QueueLaws.{set_room, count_room, set_full, count-full}
use Rattle.lists.specs.Blocks.{stored, lowered}
use Rattle.lists.proofs.BlockLaws.{copied-room, copied-full}
use Rattle.state_places.specs.Sizes.{most_results, result_at, held_at}
use Rattle.state.specs.declared.StepResult.{StepResult}
use Rattle.state.specs.declared.Results.{Results}
use Rattle.script_rules.specs.Finish.{result_part, kept, pushed_result}

pub value_room : (s s' : List ℕ) (at count from n : ℕ) → at ≡ result_at count → s' ≡ moved s at from n → count < most_results → held_at ≤ from
    → s' ≡ stored result_part count s from n s
value_room s s' at count from n p e h k = e ∙ ap (λ (a : ℕ). moved s a from n) p ∙ copied-room result_part count from n s h (omega arith)

pub value-full : (s s₁ s₂ : List ℕ) (a b z count from n : ℕ) → a ≡ result_at 0 → b ≡ result_at 1 → z ≡ result_at 63 → s₁ ≡ moved s a b 15498 → s₂ ≡ moved s₁ z from n → most_results ≤ count → held_at ≤ from
    → s₂ ≡ stored result_part count s from n s
unfolding lowered
value-full s s₁ s₂ a b z count from n pa pb pz e f h k =
    f ∙ rw (e, pa, pb, pz) (copied-full result_part count from n s (omega arith) h (omega arith))

pub push-room : (rs : Results) (r : StepResult) → length rs.kept ≡ 64 → rs.count < 64 → record { kept = set rs.kept rs.count r; count = rs.count + 1 } ≡ pushed_result rs r
unfolding pushed_result
push-room rs r l h = rw (set_room rs.kept 64 rs.count r l h, count_room rs.kept 64 rs.count r l h)

pub push-full : (rs : Results) (r : StepResult) (k : List StepResult) → length rs.kept ≡ 64 → rs.count ≤ 64 → 64 ≤ rs.count → k ≡ shifted rs.kept 63 → record { kept = set k 63 r; count = rs.count } ≡ pushed_result rs r
unfolding pushed_result
push-full rs r k l m h e =
    let n : rs.count ≡ length (pushed 64 (take rs.count rs.kept) r) = omega (arith, count-full rs.kept 64 rs.count r l h) in
    rw (e, set_full rs.kept 64 rs.count r l (omega arith) h, ← n)
