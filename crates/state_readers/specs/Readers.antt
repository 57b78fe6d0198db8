-- The calls that only read: `timer_us`, `connected_handle`, `result` and `passed_on` (01, 'Refusal numbers': 1 and 2 alone apply to them; 02, One).
-- Each answers a refusal, or what was asked for where there is such a thing.
use Rattle.std.specs.Prelude.{ℕ, ◌+◌, ◌-◌, ◌&&◌, List, [], ◌∷◌, Option, None, Some, Result, Ok, length, get_or, eqb, leb, ltb}
use Rattle.bytes_base.specs.Choice.{pick}
use Rattle.bytes_bounds.specs.declared.Span.{Span}
use Rattle.lists.specs.First.{first}
use Rattle.time.specs.declared.Micros.{Micros}
use Rattle.state_places.specs.Sizes.{result_at, notification_at}
use Rattle.notifications.specs.Kept.{live}
use Rattle.notifications.specs.declared.Notification.{Notification}
use Rattle.state.specs.Central.{Central}
use Rattle.state.specs.Fresh.{no_notification}
use Rattle.state.specs.declared.Bearer.{Bearer}
use Rattle.state.specs.declared.Running.{Running}
use Rattle.state.specs.declared.StepResult.{StepResult}
use Rattle.state_refusals.specs.declared.Refusal.{Refusal}
use Rattle.state_refusals.specs.Refused.{refused}
use Rattle.state_rules.specs.Fit.{kept}
use Rattle.state_rules.specs.Gate.{gate_reader, unless}
use Rattle.state_readers.specs.declared.Given.{Given}
use Rattle.state_readers.specs.declared.Passed.{Passed}

-- ---- when the running step ends by itself, if it has a deadline

abbrev pub timer_of : Running → Option Micros
timer_of r = pick (r.active && r.dated) (Some r.deadline) None

unfoldable pub timer : Central → ℕ → Result (Option Micros) Refusal
timer c store = unless (gate_reader c store) refused (Ok (timer_of c.running))

-- ---- the handle of the link, if it is present

abbrev pub handle_of : Bearer → Option ℕ
handle_of b = pick b.present (Some b.link.handle) None

unfoldable pub handle : Central → ℕ → Result (Option ℕ) Refusal
handle c store = unless (gate_reader c store) refused (Ok (handle_of c.bearer))

-- ---- the first kept result of an index, with the place in the store at which its value stands

abbrev pub span : ℕ → ℕ → Span
span at n = record { at = at; len = n }

-- the results l stand from position i on
unfoldable pub given : ℕ → ℕ → List StepResult → Option Given
given index i [] = None
given index i (x ∷ l) =
    pick (eqb x.index index)
    (Some (record { at = x.at; status = x.status; value = span (result_at i) x.len }))
    (given index (i + 1) l)

-- the same as a search: the result itself, and its position
unfoldable pub find : ℕ → ℕ → List StepResult → Option (ℕ × StepResult)
find index i [] = None
find index i (x ∷ l) = pick (eqb x.index index) (Some (i, x)) (find index (i + 1) l)

unfoldable pub result_answer : Central → ℕ → ℕ → Result (Option Given) Refusal
result_answer c store index = unless (gate_reader c store) refused (Ok (given index 0 (kept c.results)))

-- ---- the notification that the kept result of an index names: the newest that an aged wait counted when it passed (02, One)

-- what the first kept result of an index heard: one past a notification's number. 0 names none, and stands where no result of the index is kept
abbrev pub heard_by : ℕ → List StepResult → ℕ
heard_by index l = first (λ (x : StepResult). eqb x.index index) (λ (x : StepResult). x.heard) 0 l

-- a notification in place i, with the place in the store at which its value stands
abbrev pub in_place : ℕ → Notification → Passed
in_place i x = record { at = x.at; link = x.link; handle = x.handle; indication = x.indication; value = span (notification_at i) x.len }

-- of l, which have the numbers n, n + 1, .., the one whose number is `heard` less 1; nothing where none of l has it
unfoldable pub named : ℕ → List Notification → ℕ → Option Passed
named n l heard =
    let i = heard - 1 - n in
    pick (ltb n heard && leb heard (n + length l)) (Some (in_place i (get_or l i no_notification))) None

-- those kept are the last of all that were notified: they have the numbers notified - count to notified - 1
abbrev pub named_in : Central → ℕ → Option Passed
named_in c heard = named (c.counters.notified - c.notifications.count) (live c.notifications) heard

unfoldable pub passed_on : Central → ℕ → ℕ → Result (Option Passed) Refusal
passed_on c store index = unless (gate_reader c store) refused (Ok (named_in c (heard_by index (kept c.results))))
