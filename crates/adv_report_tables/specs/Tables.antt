-- A report at place i, in one table and in the store: where i is a place, there; where all 64 are taken by others, at the last, and the oldest goes.
use Rattle.std.specs.Prelude.{ℕ, ◌+◌, min, List, get_or, set, ltb}
use Rattle.bytes_base.specs.Choice.{pick}
use Rattle.state_places.specs.Sizes.{most_reports}
use Rattle.lists.specs.Queue.{shifted}
use Rattle.lists.specs.Blocks.{lowered}
use Rattle.adv_reports.specs.Reports.{report_part, no_response, again_store}

unfoldable pub put_at : {A : Type 0} → List A → ℕ → A → List A
put_at a i x = pick (ltb i most_reports) (set a i x) (set (shifted a 63) 63 x)

unfoldable pub block_at : List ℕ → ℕ → List ℕ → List ℕ
block_at s i d = pick (ltb i most_reports) (again_store i d s) (again_store 63 d (lowered report_part s))

-- the scan response that it has: its own where it is one of the first count, none where it is new
unfoldable pub kept_response : List ℕ → ℕ → ℕ → ℕ
kept_response a count i = pick (ltb i count) (get_or a i 0) no_response

-- how many there are with it
unfoldable pub counted : ℕ → ℕ → ℕ
counted count i = pick (ltb i count) count (min (count + 1) most_reports)
