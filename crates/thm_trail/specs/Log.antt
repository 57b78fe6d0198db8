-- Steps taken in and results given, over every sequence of calls: an honest log, read off the worlds that the calls pass through.
use Rattle.std.specs.Prelude.{ℕ, suc, ◌-◌, List, [], ◌∷◌, ◌++◌, take, leb}
use Rattle.bytes_base.specs.Choice.{pick}
use Rattle.state_places.specs.Sizes.{most_steps}
use Rattle.lists.specs.Blocks.{Valued, valued}
use Rattle.state.specs.Fresh.{no_result}
use Rattle.state.specs.declared.Queued.{Queued}
use Rattle.state.specs.declared.StepResult.{StepResult}
use Rattle.script_rules.specs.World.{Held, World}
use Rattle.script_rules.specs.Finish.{result_part, kept}
use Rattle.script_rules.specs.declared.Placed.{Placed}
use Rattle.script_rules.specs.BatchSteps.{queued, steps}
use Rattle.thm_trail.specs.Calls.{Call, batch, timer, connected, disconnected, advertising, scan_response, fragment, reads, does, left, done?}
use Rattle.thm_trail.specs.Trail.{Pass, begins, goes}

-- ---- results given

-- the results that are kept, the oldest first, each with the bytes of its value
abbrev pub kept_results : Held → List (Valued StepResult)
kept_results h = valued (λ x. x.len) result_part h.store 0 (kept h.state.results)

-- what stands at a place where there is none
abbrev pub no_valued : Valued StepResult
no_valued = record { entry = no_result; value = [] }

-- one past the number of the last of them, 0 where there is none
unfoldable pub up_to : List (Valued StepResult) → ℕ
up_to [] = 0
up_to (x ∷ []) = suc x.entry.index
up_to (x ∷ y ∷ l) = up_to (y ∷ l)

-- those of a list that are numbered n or higher
unfoldable pub newer : ℕ → List (Valued StepResult) → List (Valued StepResult)
newer n [] = []
newer n (x ∷ l) = pick (leb n x.entry.index) (x ∷ newer n l) (newer n l)

-- the results given between two worlds: those kept in the second that are newer than all kept in the first
abbrev pub gave : Held → Held → List (Valued StepResult)
gave h g = newer (up_to (kept_results h)) (kept_results g)

-- along a trail
abbrev pub given_in : World → List Pass → List (Valued StepResult)
given_in w [] = []
given_in w (p ∷ ps) = gave w.held p.to.held ++ given_in p.to ps

-- by a call: none where it is refused
abbrev pub given_by : Held → Call → List (Valued StepResult)
given_by h c = pick (done? h c) (given_in (begins h c) (goes h c)) []

-- by a sequence of calls: all results ever given, in the order given
abbrev pub log : Held → List Call → List (Valued StepResult)
log h [] = []
log h (c ∷ cs) = given_by h c ++ log (left (does h c)) cs

-- ---- steps taken in

abbrev pub queued_all : List Placed → List Queued
queued_all [] = []
queued_all (p ∷ ps) = queued p ∷ queued_all ps

-- the steps of a call's batch for which there is room
abbrev pub room_for : Held → Call → List Queued
room_for h (batch out at b values) = queued_all (take (most_steps - h.state.queue.count) (steps b))
room_for h (timer out at) = []
room_for h (connected out handle at) = []
room_for h (disconnected at) = []
room_for h (advertising v) = []
room_for h (scan_response at a d) = []
room_for h (fragment out at start bytes) = []
room_for h (reads r) = []

-- by a call: none where it is refused
abbrev pub takes_in : Held → Call → List Queued
takes_in h c = pick (done? h c) (room_for h c) []

-- by a sequence of calls: all steps ever taken in, in order
abbrev pub taken : Held → List Call → List Queued
taken h [] = []
taken h (c ∷ cs) = takes_in h c ++ taken (left (does h c)) cs
