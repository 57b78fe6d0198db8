-- What each return asks, from what the callees ensure.
use Prim.Native.Nat.{◌+◌, ◌-◌, ◌*◌, ◌≤◌, ◌<◌}
use mathlib.Core.Path.{◌≡◌, ◌∙◌}
use mathlib.Core.List.{List, [], ◌∷◌, ◌++◌}
use native.Mathlib.Omega.{arith}
use lib.ListN.{length, take, drop, set, length-drop, length-append}
use lib.Seq.{length-take-le}
use Rattle.lists.specs.Queue.{pushed, shifted}
use Rattle.lists.proofs.QueueLaws.{set_room, pushed_room, shifted-live}
use Rattle.state.specs.declared.Queued.{Queued}
use Rattle.state.specs.declared.Queue.{Queue}
use Rattle.script_rules.specs.Waiting.{waiting, queueing}

pub join-law : (q : Queue) (x : Queued) → length q.kept ≡ 64 → q.count < 64 → record { kept = set q.kept q.count x; count = q.count + 1 } ≡ queueing q (waiting q ++ (x ∷ []))
join-law q x l h =
    let t : length (take q.count q.kept) ≡ q.count = length-take-le q.count q.kept (omega arith) in
    let p : pushed 64 (waiting q) x ≡ waiting q ++ (x ∷ []) = pushed_room 64 (waiting q) x (omega arith) in
    let n : q.count + 1 ≡ length (waiting q ++ (x ∷ [])) = omega (arith, length-append (waiting q) (x ∷ [])) in
    rw (set_room q.kept 64 q.count x l h, p, n)

pub rest-law : (q : Queue) (a : List Queued) → length q.kept ≡ 64 → 0 < q.count → q.count ≤ 64 → a ≡ shifted q.kept (q.count - 1)
    → record { kept = a; count = q.count - 1 } ≡ queueing q (drop 1 (waiting q))
rest-law q a l h k e =
    let n : q.count - 1 ≡ length (drop 1 (waiting q)) = omega (arith, length-drop 1 (waiting q), length-take-le q.count q.kept (omega arith)) in
    rw (e, shifted-live q.kept q.count h (omega arith), n)
